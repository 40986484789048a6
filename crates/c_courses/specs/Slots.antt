-- The three lent words of a course's stones. Definitions only.
use Rattle.std.specs.Prelude.{ℕ, List, [], ◌∷◌, Float}
use Rattle.meaning_courses.specs.Courses.{course_stones, course_total}
use Rattle.memory_layout.specs.Decode.{decode}
use Rattle.sheet_words.specs.Totals.{words_of_total}
use Rattle.course_table.specs.Table.{courses_in}
use Rattle.course_stones.specs.declared.CourseSum.{CourseSum}

-- slot 0 has the number of stones, 1 and 2 the total, its lower word first, as in the sheet's
abbrev pub sum_slots : CourseSum → List ℕ
sum_slots s = s.stones ∷ s.low ∷ s.high ∷ []

unfoldable pub course_slots : List ℕ → List ℕ → List Float → ℕ → List ℕ → ℕ → List ℕ
course_slots room w x o k c = course_stones (courses_in k) c ∷ (words_of_total (course_total (decode room w x) o (courses_in k) c)).low ∷ (words_of_total (course_total (decode room w x) o (courses_in k) c)).high ∷ []
