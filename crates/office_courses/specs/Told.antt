-- A course told in two steps: the tests, then the stones. No reader of a public promise needs this file. Definitions only.
use Rattle.std.specs.Prelude.{ℕ, List, Float}
use Rattle.geom_lines_planes.specs.Refuse.{◌unless◌, ◌then◌}
use Rattle.meaning_courses.specs.Courses.{LEVELS}
use Rattle.memory_layout.specs.Decode.{decode}
use Rattle.memory_writes.specs.Put.{unless_refused}
use Rattle.memory_offices.specs.Sight.{by_office}
use Rattle.walk_answers.specs.Calls.{reach}
use Rattle.course_table.specs.Table.{courses_in, courses_ok}
use Rattle.course_tests.specs.Found.{course_found}
use Rattle.course_stones.specs.declared.CourseSum.{CourseSum}

-- what is tested before the stones are weighed
unfoldable pub tests_number : List ℕ → List ℕ → List Float → ℕ → List ℕ → ℕ → List ℕ → ℕ
tests_number room w x o k c marks =
    9 unless courses_ok k
    then by_office room w x o (8 unless reach room 3 marks then course_found (decode room w x) o (courses_in k) LEVELS c)

-- a number, and what is read where it is 0
abbrev pub sum_if : ℕ → ℕ → ℕ → ℕ → CourseSum
sum_if n a l h = record { refused = n; stones = unless_refused n a 0; low = unless_refused n l 0; high = unless_refused n h 0 }

unfoldable pub told_sum : CourseSum → CourseSum
told_sum s = sum_if s.refused s.stones s.low s.high
