-- The cycle of calls {course_sum, entries_sum, entry_sum} meets its contracts. Assumes nothing.
use Rattle.std.proofs.Common.{List, ℕ, map, ◌-◌, ap, ◌∙◌, arith}
use Rattle.meaning_courses.specs.Courses.{bodies_in}
use Rattle.course_table.specs.Table.{entry_of, courses_in}
use Rattle.course_stones.specs.Sums.{with_bodies, within}
use Rattle.course_stones.specs.Laws.{no-level, not_there, by_entries, no-entry, entry-turn, entry-body, entry-course}
use Rattle.course_stones.proofs.+course_sum_entries_sum_entry_sum.Goals as goal

pub course_sum-returns-then-levels-eq0 : goal.course_sum-returns-then-levels-eq0
course_sum-returns-then-levels-eq0 t c = no-level _ _ _ _ _ _ _ c.if-levels-eq0.true

pub course_sum-returns-then-courses-course : goal.course_sum-returns-then-courses-course
course_sum-returns-then-courses-course t c = not_there _ _ _ _ _ _ _ c.if-levels-eq0.false c.if-courses-course.true

pub course_sum-returns : goal.course_sum-returns
course_sum-returns t c =
    by_entries _ _ _ _ _ _ _ c.if-levels-eq0.false c.if-courses-course.false _
    (c.entries_sum.ensures ∙ ap (λ (l : List ℕ). with_bodies c.args.refused.now c.args.plus.now c.args.minus.now c.args.before (bodies_in (within (courses_in c.args.courses.now) (c.args.levels - 1)) (map entry_of l))) c.entries.ensures)

pub entries_sum-loop-e-init : goal.entries_sum-loop-e-init
entries_sum-loop-e-init t c = no-entry _ _ _ _ _

pub entries_sum-loop-e-preserved : goal.entries_sum-loop-e-preserved
entries_sum-loop-e-preserved t c = entry-turn _ _ _ _ c.args.before c.loop-e.s _ c.args.l.now c.loop-e.e-index (omega arith) c.loop-e.invariant c.entry_sum-s.ensures

pub entry_sum-returns-then-e-lt-COURSE : goal.entry_sum-returns-then-e-lt-COURSE
entry_sum-returns-then-e-lt-COURSE t c = entry-body _ _ _ _ _ _ _ c.if-e-lt-COURSE.true c.with_body.ensures

pub entry_sum-returns : goal.entry_sum-returns
entry_sum-returns t c = entry-course _ _ _ _ _ _ _ c.if-e-lt-COURSE.false c.course_sum.ensures
