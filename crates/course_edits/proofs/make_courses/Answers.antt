-- `course_edits::make_courses` meets its contract. Assumes nothing.
use mathlib.Core.Path.{sym}
use Rattle.course_edits.specs.Answers.{made_words}
use Rattle.course_edits.specs.Laws.{make-none, make-some}
use borrow.Author.Rules.{rules}
use Rattle.course_edits.proofs.make_courses.Goals as goal

pub returns-then-courses-eq0 : goal.returns-then-courses-eq0
unfolding made_words
returns-then-courses-eq0 c = let e = make-none _ c.if-courses-eq0.true in record { answer = e; table = (rw (← e)) }

pub returns : goal.returns
unfolding made_words
returns c = let e = make-some _ c.if-courses-eq0.false in record { answer = sym e; table = (rw e) }
