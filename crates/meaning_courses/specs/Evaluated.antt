-- Courses computed, on a yard of four bodies and a table of thirteen courses. Each edit of must-fail/ makes one of them false. Assumes nothing.
use Rattle.std.specs.Prelude.{ℕ, ◌≡◌, refl, List, [], ◌∷◌, map, pos}
use Rattle.meaning.specs.Model.{Model, Body, sheet, solid, office-0, office-1}
use Rattle.meaning.specs.Stone.{table_of, stone}
use Rattle.meaning.specs.Computing.{computing}
use Rattle.meaning_sheets.specs.Counting.{counting}
use Rattle.meaning_courses.specs.Courses.{of_body, of_course, Courses, course_refusal, course_stones, course_total}
use Rattle.meaning_courses.specs.Laying.{laying}

-- the trial stone four times: as it is, as a sheet (6), of the other office, and with no region (4)
abbrev bodies : List Body
bodies = record { kind = sheet; office = office-0; regions = 0 ∷ 1 ∷ [] } ∷ record { kind = solid; office = office-1; regions = 0 ∷ 1 ∷ [] } ∷ record { kind = solid; office = office-0; regions = [] } ∷ []

yard : Model
yard =
    record {
      version = stone.version;
      precision = stone.precision;
      bodies = table_of (record { kind = solid; office = office-0; regions = 0 ∷ 1 ∷ [] }) bodies;
      regions = stone.regions;
      shells = stone.shells;
      faces = stone.faces;
      loops = stone.loops;
      fins = stone.fins;
      edges = stone.edges;
      vertices = stone.vertices;
      curves = stone.curves;
      surfaces = stone.surfaces;
    }

laid : Courses
laid =
    table_of []
    ((of_body 0 ∷ [])
    ∷ (of_course 1 ∷ of_course 1 ∷ [])
    ∷ (of_course 2 ∷ of_body 0 ∷ of_course 0 ∷ [])
    ∷ (of_course 3 ∷ [])
    ∷ (of_course 4 ∷ [])
    ∷ (of_course 6 ∷ [])
    ∷ (of_course 4 ∷ of_course 13 ∷ [])
    ∷ (of_course 6 ∷ of_body 4 ∷ [])
    ∷ (of_body 2 ∷ [])
    ∷ (of_body 1 ∷ of_body 3 ∷ [])
    ∷ (of_course 12 ∷ of_body 1 ∷ [])
    ∷ (of_body 0 ∷ of_body 3 ∷ [])
    ∷ [])

asked : ℕ → List ℕ → List ℕ
asked o l = map (λ c. course_refusal yard o laid c) l

-- "an empty course has no stones and total 0"
empty-course : (course_refusal yard 0 laid 0 ≡ 0) × (course_stones laid 0 ≡ 0) × (course_total yard 0 laid 0 ≡ pos 0)
unfolding computing counting laying yard laid
empty-course = (refl, refl, refl)

-- "a course used twice counts twice"
used-twice : (course_stones laid 2 ≡ 2) × (course_total yard 0 laid 2 ≡ pos 1179648)
unfolding computing counting laying yard laid
used-twice = (refl, refl)

-- "nesting stops at four levels": course 4 has four, and three stones; course 5 has five, and course 6 lists itself
four-levels : (course_stones laid 4 ≡ 3) × (course_total yard 0 laid 4 ≡ pos 1769472)
unfolding computing counting laying yard laid
four-levels = (refl, refl)

nested : asked 0 (1 ∷ 4 ∷ 5 ∷ 6 ∷ []) ≡ 0 ∷ 0 ∷ 1 ∷ 1 ∷ []
unfolding computing counting laying yard laid asked
nested = refl

-- "2 for a course or body missing within the four levels": a course that is asked for, one listed behind a course that is too deep, a body behind a course that lists itself, and the other office's
not_there : asked 0 (13 ∷ 7 ∷ 8 ∷ 9 ∷ []) ≡ 2 ∷ 2 ∷ 2 ∷ 2 ∷ []
unfolding computing counting laying yard laid asked
not_there = refl

of-office-1 : asked 1 (9 ∷ 1 ∷ 0 ∷ []) ≡ 0 ∷ 2 ∷ 0 ∷ []
unfolding computing counting laying yard laid asked
of-office-1 = refl

of-office-2 : asked 2 (0 ∷ 13 ∷ []) ≡ 1 ∷ 1 ∷ []
unfolding computing counting laying yard laid asked
of-office-2 = refl

-- "1 where a course on the fourth level .. lists a course, there or not": what is missing beyond the four levels is not looked for
beyond : Courses
beyond = table_of (of_course 1 ∷ []) ((of_course 2 ∷ []) ∷ (of_course 3 ∷ []) ∷ (of_body 0 ∷ of_course 9 ∷ []) ∷ [])

there-or-not : map (λ c. course_refusal yard 0 beyond c) (0 ∷ 1 ∷ []) ≡ 1 ∷ 2 ∷ []
unfolding computing counting laying yard beyond
there-or-not = refl

-- a foreign body is missing, so it gives 2 before the 1 of a course that lists itself; to its own office the 1 is left
foreign : Courses
foreign = table_of (of_course 0 ∷ of_body 2 ∷ []) []

foreign-is-missing : map (λ o. course_refusal yard o foreign 0) (0 ∷ 1 ∷ []) ≡ 2 ∷ 1 ∷ []
unfolding computing counting laying yard foreign
foreign-is-missing = refl

-- "then W-201's own refusals, the first stone in order deciding"
first-decides : asked 0 (10 ∷ 11 ∷ []) ≡ 6 ∷ 4 ∷ []
unfolding computing counting laying yard laid asked
first-decides = refl
