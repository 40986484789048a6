-- What the proofs of the records cite. Assumes nothing.
use Rattle.std.specs.Prelude.{ℕ, zero, suc, ◌<◌, ◌≤◌, ◌≡◌, refl, List, Float, length}
use Rattle.std.proofs.Common.{sym, ap, ◌∙◌, subst, inl, inr, eq-or-lt_of_le, arith}
use Rattle.meaning.specs.Model.{general}
use Rattle.memory_layout.specs.Layout.{word_strides, real_strides, word, words_needed, reals_needed, words_of, reals_of}
use Rattle.memory_layout.specs.Decode.{kind_of}
use Rattle.memory_layout.specs.Entries.{list_tables, list_places}
use Rattle.memory_layout.specs.Fit.{Inside, Sized, Held, Lists}
use Rattle.memory_layout.specs.Laws.{version-there}
use Rattle.memory_layout.proofs.Laws.{words-length, reals-length, list_held}

-- ---- a record, read off its words

-- every tag from 4 on
pub general-kind : (n : ℕ) → 4 ≤ n → kind_of n ≡ general
general-kind zero h = absurd (omega arith)
general-kind (suc zero) h = absurd (omega arith)
general-kind (suc (suc zero)) h = absurd (omega arith)
general-kind (suc (suc (suc zero))) h = absurd (omega arith)
general-kind (suc (suc (suc (suc n)))) h = refl

-- a place of a slice whose length is known
pub within : {n m : ℕ} (k : ℕ) → n ≡ m → k < m → k < n
within k e h = subst (λ (z : ℕ). k < z) (sym e) h

-- ---- a used record's words and floats

-- list j stands whole in them
pub list-stands : (room w l : List ℕ) (j i : ℕ) → l ≡ words_of room w (word list_tables j) i → Lists room w → j < 8 → i < word w (word list_tables j)
    → Held l (word list_places j)
list-stands room w l j i e f h g = subst (λ (s : List ℕ). Held s (word list_places j)) (sym e) (list_held room w j i f h g)

pub words-whole : (room w l : List ℕ) (k i : ℕ) → l ≡ words_of room w k i → Inside (words_needed room) (length w) room k i → length l ≡ word word_strides k
words-whole room w l k i e h = ap length e ∙ words-length room w k i h

pub reals-whole : (room : List ℕ) (x l : List Float) (k i : ℕ) → l ≡ reals_of room x k i → Inside (reals_needed room) (length x) room k i → length l ≡ word real_strides k
reals-whole room x l k i e h = ap length e ∙ reals-length room x k i h

-- the used counts and the version are there
pub counts-there : (room w : List ℕ) (x : List Float) → Sized room w x → 11 ≤ length w
counts-there room w x s = version-there room w s.words

-- a carrier's words and floats
pub carrier-strides : (k : ℕ) → 7 < k → k < 10 → (word word_strides k ≡ 1) × (word real_strides k ≡ 6)
carrier-strides k h g = elim (eq-or-lt_of_le h) [
  | inl e ↦ (ap (word word_strides) (sym e), ap (word real_strides) (sym e))
  | inr l ↦ let e : k ≡ 9 = omega arith in (ap (word word_strides) e, ap (word real_strides) e)
]
