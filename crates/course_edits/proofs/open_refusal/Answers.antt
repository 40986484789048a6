-- `course_edits::open_refusal` meets its contract. Assumes nothing.
use mathlib.Core.Path.{sym, ◌∙◌}
use borrow.Author.Tests.{not-true, not-false}
use Rattle.course_table.specs.Laws.{laid_of}
use Rattle.course_edits.specs.Laws.{no_table, no-entry, no-course, a-course}
use native.Mathlib.Omega.{arith}
use borrow.Author.Rules.{rules}
use Rattle.course_edits.proofs.open_refusal.Goals as goal

pub returns-then-not-readable : goal.returns-then-not-readable
returns-then-not-readable c = no_table _ _ _ (sym c.readable.ensures ∙ c.if-not-readable.true)

pub returns-then-not-good : goal.returns-then-not-good
returns-then-not-good c = no-entry _ _ _ (sym c.readable.ensures ∙ c.if-not-readable.false) (c.if-not-good.true)

pub bounds-courses-0 : goal.bounds-courses-0
bounds-courses-0 c = let h = (laid_of _ (sym c.readable.ensures ∙ c.if-not-readable.false)).long in omega arith

pub returns-then-courses-course : goal.returns-then-courses-course
returns-then-courses-course c = no-course _ _ _ (sym c.readable.ensures ∙ c.if-not-readable.false) (c.if-not-good.false) c.if-courses-course.true

pub returns : goal.returns
returns c = a-course _ _ _ (sym c.readable.ensures ∙ c.if-not-readable.false) (c.if-not-good.false) c.if-courses-course.false
