-- A course table that can be read. Assumes nothing.
use Rattle.std.specs.Prelude.{ℕ, ◌+◌, ◌≤◌, ◌<◌, ◌≡◌, refl, Bool, true, false, ◌&&◌, List, [], ◌∷◌, leb, ltb, length, get_or, take}
use Rattle.std.proofs.Common.{arith, add-one, sym, ap, ◌∙◌, take-suc, leb-true, le-leb}
use Rattle.std.proofs.lemmas.Bool.{lt-leb}
use Rattle.meaning.specs.Lists.{all_below, all, every}
use Rattle.meaning_list_laws.specs.Tests.{and_both, every-at, all_below-at}
use Rattle.meaning_list_laws.specs.Lists.{all_snoc}
use Rattle.memory_layout.specs.Layout.{word}
use Rattle.memory_layout.specs.Decode.{list_at}
use Rattle.memory_layout.specs.Fit.{Held}
use Rattle.course_table.specs.Table.{course_at, course_ok, courses_ok}
use Rattle.course_table.specs.Facts.{Lies, Rows, Laid}

-- one more entry is one turn of a loop
pub all-turn : (p : ℕ → Bool) (l : List ℕ) (k : ℕ) (ok x : Bool) → k < length l → ok ≡ all p (take k l) → x ≡ p (get_or l k 0) → (ok && x) ≡ all p (take (k + 1) l)
all-turn p l k ok x h e f =
    ap (λ (b : Bool). b && x) e ∙ ap (λ (b : Bool). all p (take k l) && b) f ∙ sym (all_snoc p (take k l) (get_or l k 0))
    ∙ ap (all p) (sym (take-suc l k 0 h)) ∙ ap (λ (n : ℕ). all p (take n l)) (sym (add-one k))

-- the list of a course stands whole
pub course-held : (w : List ℕ) (c : ℕ) → Lies w c → word w (course_at c) ≤ 16 → Held w (course_at c)
course-held w c r h = let a = r.whole in record { place = omega arith; whole = omega arith }

pub row_lies : (w : List ℕ) (n c : ℕ) → Rows w n → c < n → Lies w c
row_lies w n c r h = let a = r.few in let b = r.long in record { few = omega arith; whole = omega arith }

-- ---- the test

pub course-long : (w : List ℕ) (c : ℕ) → 16 < word w (course_at c) → false ≡ course_ok w c
unfolding course_ok
course-long w c h = rw (lt-leb (word w (course_at c)) 16 h)

pub course-short : (w : List ℕ) (c : ℕ) (b : Bool) → word w (course_at c) ≤ 16 → b ≡ all (λ e. ltb e 131072) (list_at w (course_at c)) → b ≡ course_ok w c
unfolding course_ok
course-short w c b h e = rw (le-leb (word w (course_at c)) 16 h) e

pub no_words : (w : List ℕ) → length w ≡ 0 → false ≡ courses_ok w
unfolding courses_ok every
no_words [] h = refl
no_words (x ∷ w) h = absurd (omega arith)

pub too_many : (w : List ℕ) → 256 < word w 0 → false ≡ courses_ok w
unfolding courses_ok every
too_many w h = rw (lt-leb (word w 0) 256 h)

pub too-few-words : (w : List ℕ) → word w 0 ≤ 256 → length w < course_at (word w 0) → false ≡ courses_ok w
unfolding courses_ok every
too-few-words w g h = rw (le-leb (word w 0) 256 g, lt-leb (course_at (word w 0)) (length w) h)

pub by_rows : (w : List ℕ) (b : Bool) → word w 0 ≤ 256 → course_at (word w 0) ≤ length w → b ≡ all_below (course_ok w) (word w 0) → b ≡ courses_ok w
unfolding courses_ok every
by_rows w b g h e = rw (le-leb (word w 0) 256 g, le-leb (course_at (word w 0)) (length w) h) (e ∙ sym (and_one (all_below (course_ok w) (word w 0))))
  where
    and_one : (b : Bool) → (b && true) ≡ b
    and_one true = refl
    and_one false = refl

-- ---- what it says

pub laid_of : (w : List ℕ) → courses_ok w ≡ true → Laid w
unfolding courses_ok course_ok
laid_of w e =
    let l : List Bool = leb (word w 0) 256 ∷ leb (course_at (word w 0)) (length w) ∷ all_below (course_ok w) (word w 0) ∷ [] in
    record {
      few = leb-true (word w 0) 256 (every-at l e 0);
      long = leb-true (course_at (word w 0)) (length w) (every-at l e 1);
      short = λ c h. leb-true (word w (course_at c)) 16 (one c (all_below-at (course_ok w) (word w 0) c (every-at l e 2) h));
    }
  where
    one : (c : ℕ) → course_ok w c ≡ true → leb (word w (course_at c)) 16 ≡ true
    one c q = (and_both (leb (word w (course_at c)) 16) (all (λ k. ltb k 131072) (list_at w (course_at c))) q).0

pub laid-lies : (w : List ℕ) (c : ℕ) → Laid w → c < word w 0 → Lies w c
laid-lies w c r h = let a = r.few in let b = r.long in record { few = omega arith; whole = omega arith }
