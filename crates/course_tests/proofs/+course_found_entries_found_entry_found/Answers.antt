-- The cycle of calls {course_found, entries_found, entry_found} meets its contracts. Assumes nothing.
use Rattle.std.proofs.Common.{List, ℕ, map, ◌-◌, ap, ◌∙◌, arith}
use Rattle.memory_layout.specs.Decode.{decode}
use Rattle.course_table.specs.Table.{entry_of, courses_in}
use Rattle.course_tests.specs.Found.{entries_found}
use Rattle.course_tests.specs.Laws.{no-level, not_there, by_entries, none_found, entry-body, entry-course}
use Rattle.course_tests.proofs.Laws.{found_turn}
use Rattle.course_tests.proofs.+course_found_entries_found_entry_found.Goals as goal

pub course_found-returns-then-levels-eq0 : goal.course_found-returns-then-levels-eq0
course_found-returns-then-levels-eq0 t c room x = no-level _ _ _ _ _ c.if-levels-eq0.true

pub course_found-returns-then-courses-course : goal.course_found-returns-then-courses-course
course_found-returns-then-courses-course t c room x = not_there _ _ _ _ _ c.if-levels-eq0.false c.if-courses-course.true

pub course_found-returns : goal.course_found-returns
course_found-returns t c room x =
    by_entries _ _ _ _ _ c.if-levels-eq0.false c.if-courses-course.false _
    (c.entries_found.ensures room x ∙ ap (λ (l : List ℕ). entries_found (decode room c.args.words.now x) c.args.office (courses_in c.args.courses.now) (c.args.levels - 1) (map entry_of l)) c.entries.ensures)

pub entries_found-loop-e-init : goal.entries_found-loop-e-init
entries_found-loop-e-init t c room x = none_found _ _ _ _

pub entries_found-loop-e-preserved : goal.entries_found-loop-e-preserved
entries_found-loop-e-preserved t c room x =
    c.worse_of-worst.ensures
    ∙ found_turn (decode room c.args.words.now x) _ _ _ c.args.l.now c.loop-e.e-index _ _ (omega arith) (c.loop-e.invariant room x) (c.entry_found.ensures room x)

pub entry_found-returns-then-e-lt-COURSE : goal.entry_found-returns-then-e-lt-COURSE
entry_found-returns-then-e-lt-COURSE t c room x = entry-body _ _ _ _ _ _ c.if-e-lt-COURSE.true (c.body_found.ensures room x)

pub entry_found-returns : goal.entry_found-returns
entry_found-returns t c room x = entry-course _ _ _ _ _ _ c.if-e-lt-COURSE.false (c.course_found.ensures room x)
