-- The measures and the invariant of the cycle of calls {course_sum, entries_sum, entry_sum}. The levels fall from a course to its entries: three times as many as are left, and one more for an entry, two for entries. Assumes nothing.
use Rattle.std.proofs.Common.{◌≡◌, ◌+◌, ◌*◌, map, take}
use Rattle.meaning_courses.specs.Courses.{bodies_in}
use Rattle.course_table.specs.Table.{entry_of, courses_in}
use Rattle.course_stones.specs.Sums.{with_bodies, within}
use Rattle.course_stones.proofs.+course_sum_entries_sum_entry_sum.Given as goal

abbrev pub decreases-course_sum : goal.decreases-course_sum
decreases-course_sum l = 3 * l.levels

abbrev pub decreases-entries_sum : goal.decreases-entries_sum
decreases-entries_sum l = 3 * l.left + 2

abbrev pub decreases-entry_sum : goal.decreases-entry_sum
decreases-entry_sum l = 3 * l.left + 1

abbrev pub invariant-entries_sum-loop-e : goal.invariant-entries_sum-loop-e
invariant-entries_sum-loop-e l = l.s ≡ with_bodies l.refused l.plus l.minus l.fn.before (bodies_in (within (courses_in l.courses) l.left) (map entry_of (take l.e-index l.l)))
