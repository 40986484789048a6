-- What a call answers an office is what the call of before answers, or 9 and 1 for an office above 1. Assumes nothing.
use Rattle.std.specs.Prelude.{ℕ, zero, suc, ◌+◌, ◌*◌, ◌<◌, ◌≤◌, ◌≡◌, Bool, List, [], ◌∷◌, length, drop, Float}
use Rattle.std.proofs.Common.{arith, ◌∙◌, lit≤, get_or-take, get_or-drop}
use Rattle.std.proofs.Math.Path.{refl}
use Rattle.std.proofs.Math.Bool.{true, false}
use borrow.Author.Tests.{le-leb, lt-leb, lt-ltb, le-ltb, eq-eqb, ne_eqb}
use Rattle.geom_lines_planes.specs.Refuse.{◌unless◌, ◌then◌}
use Rattle.meaning.specs.Offices.{office_number, body_for}
use Rattle.memory_layout.specs.Names.{BODIES, AT_BODY_OFFICE}
use Rattle.memory_layout.specs.Layout.{word, base, word_at, words_of}
use Rattle.memory_layout.specs.Decode.{office_of, decode}
use Rattle.memory_layout.specs.Readable.{readable, tag_number}
use Rattle.memory_offices.specs.Sight.{by_office}

-- behind the last word
pub word-behind : (l : List ℕ) (k : ℕ) → length l ≤ k → word l k ≡ 0
word-behind [] k h = refl
word-behind (y ∷ l) zero h = absurd (omega arith)
word-behind (y ∷ l) (suc k) h = word-behind l k (omega arith)

-- no table stands in front of the bodies
pub body-place : (room : List ℕ) (b : ℕ) → word_at room BODIES b ≡ 11 + 19 * b
unfolding base
body-place room b = refl

-- the word of a body's office, among all words
pub office-word : (room w : List ℕ) (b : ℕ) → word (words_of room w BODIES b) AT_BODY_OFFICE ≡ word w (word_at room BODIES b + 1)
unfolding words_of
office-word room w b = get_or-take 19 (drop (word_at room BODIES b) w) 1 0 (lit≤ tt) ∙ get_or-drop (word_at room BODIES b) w 1 0

-- which body an id is for the office o
module _ (room w : List ℕ) (x : List Float) (o b : ℕ) where
  pub missing-stays : word w BODIES ≤ b → b ≡ body_for (decode room w x) o b
  unfolding body_for decode
  missing-stays h = rw (le-ltb b (word w BODIES) h)

  pub own-stays : b < word w BODIES → office_number (office_of (word w (word_at room BODIES b + 1))) ≡ o → b ≡ body_for (decode room w x) o b
  unfolding body_for decode
  own-stays h e = rw (lt-ltb b (word w BODIES) h, office-word room w b, eq-eqb _ o e)

  pub other-missing : b < word w BODIES → (office_number (office_of (word w (word_at room BODIES b + 1))) ≡ o → ⊥) → word w BODIES ≡ body_for (decode room w x) o b
  unfolding body_for decode
  other-missing h e = rw (lt-ltb b (word w BODIES) h, office-word room w b, ne_eqb _ o e)

module _ (room w : List ℕ) (x : List Float) (o : ℕ) where
  -- an office that there is: the number of before, which begins with 9
  pub office-there : (n : ℕ) → o ≤ 1 → by_office room w x o (9 unless readable room w x then n) ≡ (9 unless readable room w x then n)
  unfolding by_office
  office-there n h = let e = le-leb o 1 h in rw e (go (readable room w x))
    where
      go : (b : Bool) → (9 unless b then 9 unless b then n) ≡ (9 unless b then n)
      go true = refl
      go false = refl

  -- an office above 1: whatever the call, and its value
  pub office-above : (n : ℕ) → 1 < o → by_office room w x o n ≡ tag_number room w x
  unfolding by_office tag_number
  office-above n h = let e = lt-leb o 1 h in rw e (go (readable room w x))
    where
      go : (b : Bool) → (9 unless b then 1 then n) ≡ (9 unless b then 1)
      go true = refl
      go false = refl

  -- a call that is refused with 9 alone
  pub office-alone : o ≤ 1 → (9 unless readable room w x) ≡ by_office room w x o 0
  unfolding by_office
  office-alone h = let e = le-leb o 1 h in rw e (go (readable room w x))
    where
      go : (b : Bool) → (9 unless b) ≡ (9 unless b then 0)
      go true = refl
      go false = refl
