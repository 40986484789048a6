-- The stones of a course, added one after the other in the words of the code. No reader of a public promise needs this file. Definitions only.
use Rattle.std.specs.Prelude.{ℕ, zero, suc, ◌+◌, ◌*◌, ◌^◌, Bool, false, cond, ◌||◌, List, [], ◌∷◌, ltb, leb, Float, ℤ, ◌+ℤ◌, set, replicate}
use Rattle.std.proofs.Math.IntN.{sub_ℕ}
use Rattle.geom_lines_planes.specs.Refuse.{◌unless◌, ◌then◌}
use Rattle.meaning.specs.Lists.{member}
use Rattle.meaning.specs.Offices.{body_for}
use Rattle.meaning_courses.specs.Courses.{Courses, stones_of, LEVELS}
use Rattle.memory_layout.specs.Layout.{word}
use Rattle.memory_layout.specs.Decode.{decode, list_at}
use Rattle.inquire_stone.specs.declared.Stone.{Stone}
use Rattle.inquire_stone.specs.Answers.{stone_answer}
use Rattle.sheet_words.specs.Words.{as_signed}
use Rattle.sheet_words.specs.Totals.{words_of_total}
use Rattle.course_table.specs.Table.{course_at, courses_in}
use Rattle.course_stones.specs.declared.CourseSum.{CourseSum}

-- ---- sums

-- the total that two words tell
abbrev pub total_in : CourseSum → ℤ
total_in s = as_signed (2 ^ 127) (s.high * 2 ^ 64 + s.low)

abbrev pub sum_with : ℕ → CourseSum → ℕ → ℕ → CourseSum
sum_with zero s p m = record { refused = s.refused; stones = s.stones + 1; low = (words_of_total (total_in s +ℤ sub_ℕ p m)).low; high = (words_of_total (total_in s +ℤ sub_ℕ p m)).high }
sum_with (suc n) s p m = record { refused = s.refused then suc n; stones = s.stones; low = s.low; high = s.high }

-- a stone with its refusal; W-201's "8 where the sheet already has 65,536 stones"
unfoldable pub with_stone : CourseSum → ℕ → ℕ → ℕ → CourseSum
with_stone s n p m = sum_with (n then 8 unless ltb s.stones 65536) s p m

-- a body, by what was worked out of all
unfoldable pub with_body : List ℕ → List ℕ → List ℕ → CourseSum → ℕ → CourseSum
with_body R P M s b = cond (leb 64 b) (with_stone s 2 0 0) (with_stone s (word R b) (word P b) (word M b))

unfoldable pub with_bodies : List ℕ → List ℕ → List ℕ → CourseSum → List ℕ → CourseSum
with_bodies R P M s [] = s
with_bodies R P M s (b ∷ l) = with_bodies R P M (with_body R P M s b) l

-- the stones of a course that has n levels left
abbrev pub within : Courses → ℕ → ℕ → List ℕ
within t n d = stones_of t n d

abbrev pub new_sum : CourseSum
new_sum = record { refused = 0; stones = 0; low = 0; high = 0 }

-- ---- what is worked out before

unfoldable pub some_below : (ℕ → Bool) → ℕ → Bool
some_below p zero = false
some_below p (suc n) = some_below p n || p n

-- the body is an entry of a course of the table
unfoldable pub listed_in : List ℕ → ℕ → Bool
listed_in k b = some_below (λ c. member b (list_at k (course_at c))) (word k 0)

abbrev pub noted_if : Bool → ℕ → ℕ → List ℕ → List ℕ
noted_if wanted b v l = cond wanted (set l b v) l

-- a list with f of each number below n that is wanted in its place
unfoldable pub noted : (ℕ → Bool) → (ℕ → ℕ) → ℕ → List ℕ → List ℕ
noted p f zero l = l
noted p f (suc n) l = noted_if (p n) n (f n) (noted p f n l)

-- of those of the first n bodies that are listed
module _ (room w : List ℕ) (x : List Float) (o : ℕ) (marks : List ℕ) where
  abbrev pub stone_for : ℕ → Stone
  stone_for b = stone_answer room w x (body_for (decode room w x) o b) marks

  abbrev pub weighed_numbers : List ℕ → ℕ → List ℕ → List ℕ
  weighed_numbers k n l = noted (listed_in k) (λ b. (stone_for b).refused) n l

  abbrev pub weighed_plus : List ℕ → ℕ → List ℕ → List ℕ
  weighed_plus k n l = noted (listed_in k) (λ b. (stone_for b).plus) n l

  abbrev pub weighed_minus : List ℕ → ℕ → List ℕ → List ℕ
  weighed_minus k n l = noted (listed_in k) (λ b. (stone_for b).minus) n l

unfoldable pub course_sum : List ℕ → List ℕ → List Float → ℕ → List ℕ → ℕ → List ℕ → CourseSum
course_sum room w x o k c marks =
    let n = word w 0 in
    with_bodies (weighed_numbers room w x o marks k n (replicate 64 0)) (weighed_plus room w x o marks k n (replicate 64 0)) (weighed_minus room w x o marks k n (replicate 64 0)) new_sum (stones_of (courses_in k) LEVELS c)
