-- `course_edits::course_count` meets its contract. Assumes nothing.
use mathlib.Core.Bool.{true, false}
use mathlib.Core.Path.{◌≡◌, refl, sym, ◌∙◌}
use borrow.Author.Tests.{not-true, not-false}
use Rattle.course_table.specs.Table.{courses_ok}
use Rattle.course_table.specs.Laws.{laid_of}
use Rattle.course_edits.specs.Answers.{count_number}
use native.Mathlib.Omega.{arith}
use borrow.Author.Rules.{rules}
use Rattle.course_edits.proofs.course_count.Goals as goal

pub returns-then-not-readable : goal.returns-then-not-readable
unfolding count_number
returns-then-not-readable c = let e : courses_ok c.args.courses.now ≡ false = sym c.readable.ensures ∙ c.if-not-readable.true in record { answer = (rw e); slots = refl }

pub bounds-courses-0 : goal.bounds-courses-0
bounds-courses-0 c = let h = (laid_of _ (sym c.readable.ensures ∙ c.if-not-readable.false)).long in omega arith

pub returns : goal.returns
unfolding count_number
returns c = let e : courses_ok c.args.courses.now ≡ true = (sym c.readable.ensures ∙ c.if-not-readable.false) in record { answer = (rw e); slots = refl }
