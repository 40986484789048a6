-- What a course answers an office (W-213), of lent tables and a lent course table. Definitions only.
-- Which courses lent words hold, and when they can be read, stands in `course_table`.
use Rattle.std.specs.Prelude.{ℕ, List, Float}
use Rattle.geom_lines_planes.specs.Refuse.{◌unless◌, ◌then◌}
use Rattle.meaning_courses.specs.Courses.{course_refusal, course_stones, course_total}
use Rattle.memory_layout.specs.Names.{FACES}
use Rattle.memory_layout.specs.Decode.{decode}
use Rattle.memory_writes.specs.Put.{unless_refused}
use Rattle.memory_offices.specs.Sight.{by_office}
use Rattle.walk_answers.specs.Calls.{reach}
use Rattle.sheet_words.specs.Totals.{words_of_total}
use Rattle.course_table.specs.Table.{courses_in, courses_ok}
use Rattle.course_stones.specs.declared.CourseSum.{CourseSum}

module _ (room w : List ℕ) (x : List Float) (o : ℕ) (k : List ℕ) (c : ℕ) (face_marks : List ℕ) where
  -- "9 for an unreadable course table", or tables; 1 for the office, 8 for short marks; "then 2 for a course or body missing within the four levels, then 1 ..; then W-201's own refusals"
  unfoldable pub course_number : ℕ
  course_number =
      9 unless courses_ok k
      then by_office room w x o
      (8 unless reach room FACES face_marks
      then course_refusal (decode room w x) o (courses_in k) c)

  -- "the number of stones and W-201's exact total", in two words as the sheet has it
  unfoldable pub course_answer : CourseSum
  course_answer =
      record {
        refused = course_number;
        stones = unless_refused course_number (course_stones (courses_in k) c) 0;
        low = unless_refused course_number (words_of_total (course_total (decode room w x) o (courses_in k) c)).low 0;
        high = unless_refused course_number (words_of_total (course_total (decode room w x) o (courses_in k) c)).high 0;
      }
