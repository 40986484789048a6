-- The measures and the invariant of the cycle of calls {course_found, entries_found, entry_found}. The levels fall from a course to its entries: three times as many as are left, and one more for an entry, two for entries. Assumes nothing.
use Rattle.std.proofs.Common.{◌≡◌, ℕ, ◌+◌, ◌*◌, List, map, Float, take}
use Rattle.memory_layout.specs.Decode.{decode}
use Rattle.course_table.specs.Table.{entry_of, courses_in}
use Rattle.course_tests.specs.Found.{entries_found}
use Rattle.course_tests.proofs.+course_found_entries_found_entry_found.Given as goal

abbrev pub decreases-course_found : goal.decreases-course_found
decreases-course_found l = 3 * l.levels

abbrev pub decreases-entries_found : goal.decreases-entries_found
decreases-entries_found l = 3 * l.left + 2

abbrev pub decreases-entry_found : goal.decreases-entry_found
decreases-entry_found l = 3 * l.left + 1

abbrev pub invariant-entries_found-loop-e : goal.invariant-entries_found-loop-e
invariant-entries_found-loop-e l = (room : List ℕ) (x : List Float) → l.worst ≡ entries_found (decode room l.words x) l.office (courses_in l.courses) l.left (map entry_of (take l.e-index l.l))
