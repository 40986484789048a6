-- What the edits of a course table do to the courses that it holds (W-213), where they are not refused. Assumes nothing.
use Rattle.std.specs.Prelude.{ℕ, suc, ◌+◌, ◌*◌, ◌≤◌, ◌<◌, ◌≡◌, refl, length, set, take, drop}
use Rattle.std.proofs.Math.Decide.{dec_lt}
use Rattle.std.proofs.Common.{arith, sym, ◌∙◌, length-append, length-set, length-drop, length-take-le}
use Rattle.std.proofs.Math.Path.{ap}
use mathlib.Core.List.{List, [], ◌∷◌, map}
use Rattle.std.proofs.Math.Seq.{get_or-set_same}
use Rattle.geom_lines_planes.specs.Refuse.{◌unless◌}
use Rattle.meaning_list_laws.specs.Tests.{then-zero, unless-zero}
use Rattle.memory_writes.specs.Over.{one_store}
use Rattle.memory_layout.specs.Layout.{word}
use Rattle.memory_layout.specs.Decode.{list_at}
use Rattle.memory_layout.specs.Laws.{held-length}
use Rattle.edit_lists.specs.Place.{struck, with_list}
use Rattle.edit_lists.specs.Records.{word-before, list-there, list-before, list-behind}
use Rattle.course_table.specs.Table.{course_at, entry_of, courses_in, courses_ok}
use Rattle.course_table.specs.Laws.{laid_of}
use Rattle.course_edits.specs.Answers.{make_number, made_words, insert_number, inserted_words}
use Rattle.course_edits.specs.Laws.{Open, insert-room}

-- as many courses as before, course c with these entries, and every other as it was
pub record Relaid (w w' : List ℕ) (c : ℕ) (l : List ℕ) : Type 0 where
  pub count : (courses_in w').used ≡ (courses_in w).used
  pub course : (courses_in w').slot c ≡ map entry_of l
  pub others : (d : ℕ) → d < (courses_in w).used → (d ≡ c → ⊥) → (courses_in w').slot d ≡ (courses_in w).slot d

module _ (w : List ℕ) (c : ℕ) (o : Open w c) where
  -- the entries that course c has
  abbrev l : List ℕ
  l = list_at w (course_at c)

  pub entries-length : length l ≡ word w (course_at c)
  entries-length = held-length w (course_at c) o.held

  pub relaid : (k : List ℕ) → length k ≤ 16 → Relaid w (with_list (course_at c) k w) c k
  unfolding courses_in
  relaid k few =
      let whole = o.lies.whole in
      record {
        count = word-before (course_at c) k w (omega arith) 0 (omega arith);
        course = ap (map entry_of) (list-there (course_at c) k w (omega arith));
        others = λ d h n. ap (map entry_of) (other d h n);
      }
    where
      other : (d : ℕ) → d < word w 0 → (d ≡ c → ⊥) → list_at (with_list (course_at c) k w) (course_at d) ≡ list_at w (course_at d)
      other d h n = elim (dec_lt d c) [
        | yes less ↦ let short = o.laid.short d h in let whole = o.lies.whole in list-before (course_at c) k w (omega arith) (course_at d) (omega arith)
        | no more ↦ let whole = o.lies.whole in list-behind (course_at c) k w (omega arith) (course_at d) (omega arith)
      ]

pub struck-few : (l : List ℕ) (p : ℕ) → p < length l → length (struck l p) ≤ length l
unfolding struck
struck-few l p h =
    let n = length-append (take p l) (drop (suc p) l) in
    let a = length-take-le p l (omega arith) in
    let b = length-drop (suc p) l in
    omega arith

-- a table that is made has no course
pub table-made : (w : List ℕ) → make_number w ≡ 0 → 0 < length w → (courses_in (made_words w)).used ≡ 0
unfolding made_words courses_in
table-made w z h = rw z (get_or-set_same w 0 0 0 h)

-- a course more: it is empty, and every other is as it was
pub record Grown (w w' : List ℕ) : Type 0 where
  pub count : (courses_in w').used ≡ (courses_in w).used + 1
  pub new : (courses_in w').slot (courses_in w).used ≡ []
  pub others : (d : ℕ) → d < (courses_in w).used → (courses_in w').slot d ≡ (courses_in w).slot d

-- the count is no part of a course
count-apart : (v : List ℕ) (x d : ℕ) → list_at (set v 0 x) (course_at d) ≡ list_at v (course_at d)
unfolding list_at
count-apart v x d = ap (list_at (set v 0 x)) place ∙ by v ∙ ap (list_at v) (sym place)
  where
    place : course_at d ≡ suc (17 * d)
    place = omega arith

    by : (v : List ℕ) → list_at (set v 0 x) (suc (17 * d)) ≡ list_at v (suc (17 * d))
    by [] = refl
    by (y ∷ r) = refl

pub course-inserted : (w : List ℕ) → insert_number w ≡ 0 → Grown w (inserted_words w)
unfolding inserted_words insert_number courses_in
course-inserted w z =
    let laid = laid_of w (unless-zero 8 (courses_ok w) (then-zero (9 unless courses_ok w) _ z).0) in
    let room = (insert-room w z).1 in
    let u : ℕ = word w 0 in
    let v : List ℕ = set w (course_at u) 0 in
    let long : length v ≡ length w = length-set w (course_at u) 0 in
    let laying : v ≡ with_list (course_at u) [] w = unfold with_list in one_store w (course_at u) 0 (omega arith) in
    rw z
    (record {
      count = get_or-set_same v 0 (u + 1) 0 (omega arith);
      new = ap (map entry_of) (count-apart v (u + 1) u ∙ ap (λ (k : List ℕ). list_at k (course_at u)) laying ∙ list-there (course_at u) [] w (omega arith));
      others = λ d h. let short = laid.short d h in ap (map entry_of) (count-apart v (u + 1) d ∙ ap (λ (k : List ℕ). list_at k (course_at d)) laying ∙ list-before (course_at u) [] w (omega arith) (course_at d) (omega arith));
    })
