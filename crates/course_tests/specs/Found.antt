-- What is found of a course before its stones are weighed, as one number: 2 where something is missing, else 1 where a course lies too deep, else 0. No reader of a public promise needs this file. Definitions only.
use Rattle.std.specs.Prelude.{ℕ, false, not, cond, List, ltb}
use Rattle.geom_lines_planes.specs.Refuse.{◌unless◌, ◌then◌}
use Rattle.meaning.specs.Model.{Model}
use Rattle.meaning.specs.Refuse.{◌if◌}
use Rattle.meaning_courses.specs.Courses.{Entry, of_body, of_course, Courses, some_entry, there, missing, too_deep}

abbrev pub worse : ℕ → ℕ → ℕ
worse a b = cond (ltb a b) b a

unfoldable pub body_found : Model → ℕ → ℕ → ℕ
body_found m o b = 2 unless there m o b

unfoldable pub course_found : Model → ℕ → Courses → ℕ → ℕ → ℕ
course_found m o t n c = 2 if missing m o t n c then 1 if too_deep t n c

unfoldable pub entries_found : Model → ℕ → Courses → ℕ → List Entry → ℕ
entries_found m o t n l = 2 if some_entry (λ b. not (there m o b)) (λ d. missing m o t n d) l then 1 if some_entry (λ b. false) (λ d. too_deep t n d) l

unfoldable pub entry_found : Model → ℕ → Courses → ℕ → Entry → ℕ
entry_found m o t n (of_body b) = body_found m o b
entry_found m o t n (of_course d) = course_found m o t n d
