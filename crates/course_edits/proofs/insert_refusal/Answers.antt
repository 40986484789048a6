-- `course_edits::insert_refusal` meets its contract. Assumes nothing.
use mathlib.Core.Path.{sym, ◌∙◌}
use borrow.Author.Tests.{not-true, not-false}
use Rattle.course_table.specs.Laws.{laid_of}
use Rattle.course_edits.specs.Laws.{insert-unread, insert-full, insert-short, insert-given}
use native.Mathlib.Omega.{arith}
use borrow.Author.Rules.{rules}
use Rattle.course_edits.proofs.insert_refusal.Goals as goal

pub returns-then-not-readable : goal.returns-then-not-readable
returns-then-not-readable c = insert-unread _ (sym c.readable.ensures ∙ c.if-not-readable.true)

pub bounds-courses-0 : goal.bounds-courses-0
bounds-courses-0 c = let h = (laid_of _ (sym c.readable.ensures ∙ c.if-not-readable.false)).long in omega arith

pub returns-then-n-ge256 : goal.returns-then-n-ge256
returns-then-n-ge256 c = insert-full _ (sym c.readable.ensures ∙ c.if-not-readable.false) c.if-n-ge256.true

pub returns-then-courses-course_at : goal.returns-then-courses-course_at
returns-then-courses-course_at c = insert-short _ (sym c.readable.ensures ∙ c.if-not-readable.false) c.if-n-ge256.false (omega (arith, c.course_at.ensures))

pub returns : goal.returns
returns c = insert-given _ (sym c.readable.ensures ∙ c.if-not-readable.false) c.if-n-ge256.false (omega (arith, c.course_at.ensures))
