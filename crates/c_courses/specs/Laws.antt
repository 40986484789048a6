-- How the answer about a course crosses. Assumes nothing.
use Prim.Native.Nat.{ℕ, zero, suc}
use Rattle.std.specs.Prelude.{◌≡◌, List, [], ◌∷◌, Float}
use Rattle.std.proofs.Math.Path.{refl, ap}
use Rattle.std.proofs.Common.{◌∙◌}
use Rattle.memory_writes.specs.Put.{unless_refused}
use Rattle.meaning_courses.specs.Courses.{course_stones, course_total}
use Rattle.memory_layout.specs.Decode.{decode}
use Rattle.sheet_words.specs.Totals.{words_of_total}
use Rattle.course_table.specs.Table.{courses_in}
use Rattle.course_stones.specs.declared.CourseSum.{CourseSum}
use Rattle.office_courses.specs.Answers.{course_number, course_answer}
use Rattle.c_courses.specs.Slots.{sum_slots, course_slots}

module _ (room w : List ℕ) (x : List Float) (o : ℕ) (k : List ℕ) (c : ℕ) (marks : List ℕ) (s : CourseSum) (e : s ≡ course_answer room w x o k c marks) where
  pub number-crosses : s.refused ≡ course_number room w x o k c marks
  unfolding course_answer
  number-crosses = ap (λ (i : CourseSum). i.refused) e

  pub value-crosses : (old : List ℕ) → unless_refused s.refused (sum_slots s) old ≡ unless_refused (course_number room w x o k c marks) (course_slots room w x o k c) old
  unfolding course_answer course_slots
  value-crosses old = ap (λ (i : CourseSum). unless_refused i.refused (sum_slots i) old) e ∙ by (course_number room w x o k c marks) (course_stones (courses_in k) c) (words_of_total (course_total (decode room w x) o (courses_in k) c)).low (words_of_total (course_total (decode room w x) o (courses_in k) c)).high
    where
      by : (n a b d : ℕ) → unless_refused n (unless_refused n a 0 ∷ unless_refused n b 0 ∷ unless_refused n d 0 ∷ []) old ≡ unless_refused n (a ∷ b ∷ d ∷ []) old
      by zero a b d = refl
      by (suc n) a b d = refl
