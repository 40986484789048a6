-- What the code needs of single tables and of lent bytes. Assumes nothing.
use Prim.Native.Nat.{ℕ, zero, suc, ◌+◌, ◌-◌, ◌*◌, ◌≤◌, ◌<◌}
use Rattle.std.proofs.Common.{eq-or-lt_of_le, arith, sym, ◌∙◌, inl, inr}
use Rattle.std.specs.Prelude.{◌≡◌, refl, true, false, List, [], ◌∷◌, eqb, leb, get_or, drop}
use Rattle.std.proofs.Math.ListN.{length, length-drop}
use borrow.Author.Tests.{eqb-true, ne_eqb, le-leb, lt-leb}
use Rattle.meaning.specs.Lists.{all_below}
use Rattle.meaning_list_laws.specs.Tests.{all_below-at, and-false}
use Rattle.memory_layout.specs.Layout.{word}
use Rattle.image_format.specs.Bytes.{number}
use Rattle.image_format.specs.Fields.{list_limits_of, marks}
use Rattle.image_laws.specs.Numbers.{Bytes}
use Rattle.image_record_test.specs.Parts.{fixed_size, carrier_good, fields_good, fixed_good, list_end, lists_end}
use Rattle.image_record_test.specs.Good.{record_end}
use Rattle.image_record_test.specs.Tested.{record-end}

-- ---- the arrays of the code

abbrev pub ten_marks : List ℕ
ten_marks = 0x4f42 ∷ 0x4552 ∷ 0x4853 ∷ 0x4146 ∷ 0x4f4c ∷ 0x4946 ∷ 0x4445 ∷ 0x4556 ∷ 0x5543 ∷ 0x5553 ∷ []

abbrev pub ten_sizes : List ℕ
ten_sizes = 6 ∷ 10 ∷ 6 ∷ 30 ∷ 6 ∷ 18 ∷ 38 ∷ 38 ∷ 54 ∷ 54 ∷ []

pub its-mark : (k : ℕ) → k < 10 → get_or ten_marks k 0 ≡ word marks k
unfolding all_below
its-mark k h = eqb-true (get_or ten_marks k 0) (word marks k) (all_below-at (λ j. eqb (get_or ten_marks j 0) (word marks j)) 10 k refl h)

pub its-size : (k : ℕ) → k < 10 → get_or ten_sizes k 0 ≡ fixed_size k
unfolding all_below
its-size k h = eqb-true (get_or ten_sizes k 0) (fixed_size k) (all_below-at (λ j. eqb (get_or ten_sizes j 0) (fixed_size j)) 10 k refl h)

-- ---- tables without a test, and the two of carriers

pub nothing-tested : (k : ℕ) (p : List ℕ) → k < 5 → (k ≡ 0 → ⊥) → (k ≡ 1 → ⊥) → (k ≡ 3 → ⊥) → true ≡ fields_good k p
unfolding fields_good
nothing-tested zero p h a b c = absurd (a refl)
nothing-tested (suc zero) p h a b c = absurd (b refl)
nothing-tested (suc (suc zero)) p h a b c = refl
nothing-tested (suc (suc (suc zero))) p h a b c = absurd (c refl)
nothing-tested (suc (suc (suc (suc zero)))) p h a b c = refl
nothing-tested (suc (suc (suc (suc (suc k))))) p h a b c = absurd (omega arith)

pub carrier-tested : (k : ℕ) (p : List ℕ) → 8 ≤ k → k < 10 → (fields_good k p ≡ carrier_good p) × (fixed_size k ≡ 54)
unfolding fields_good
carrier-tested k p h g = elim (eq-or-lt_of_le h) [
  | inl e ↦ rw (← e) (refl, refl)
  | inr l ↦ let e : k ≡ 9 = omega arith in rw e (refl, refl)
]

pub no-lists : (k : ℕ) → (k ≡ 0 → ⊥) → (k ≡ 1 → ⊥) → (k ≡ 2 → ⊥) → (k ≡ 3 → ⊥) → (k ≡ 4 → ⊥) → (k ≡ 6 → ⊥) → get_or list_limits_of k [] ≡ []
no-lists zero a b c d e f = absurd (a refl)
no-lists (suc zero) a b c d e f = absurd (b refl)
no-lists (suc (suc zero)) a b c d e f = absurd (c refl)
no-lists (suc (suc (suc zero))) a b c d e f = absurd (d refl)
no-lists (suc (suc (suc (suc zero)))) a b c d e f = absurd (e refl)
no-lists (suc (suc (suc (suc (suc zero))))) a b c d e f = refl
no-lists (suc (suc (suc (suc (suc (suc zero)))))) a b c d e f = absurd (f refl)
no-lists (suc (suc (suc (suc (suc (suc (suc k))))))) a b c d e f = refl

-- ---- one list: too long, cut off, and whole

module _ (limit : ℕ) (b : List ℕ) (at n : ℕ) (p : 0 < at) (e : n ≡ number 4 (drop at b)) where
  pub list-long : limit < n → 0 ≡ list_end limit b at
  unfolding list_end
  list-long h = rw (← e, ne_eqb at 0 (λ q. omega arith), lt-leb n limit h)

  pub list-short : length b - at < 4 * suc n → 0 ≡ list_end limit b at
  unfolding list_end
  list-short h =
      let left : length (drop at b) ≡ length b - at = length-drop at b in
      rw (← e, ne_eqb at 0 (λ q. omega arith), lt-leb (4 * suc n) (length (drop at b)) (omega arith), and-false (leb n limit))

  pub list-there : n ≤ limit → 4 * suc n ≤ length b - at → at + 4 * suc n ≡ list_end limit b at
  unfolding list_end
  list-there h g =
      let left : length (drop at b) ≡ length b - at = length-drop at b in
      rw (← e, ne_eqb at 0 (λ q. omega arith), le-leb n limit h, le-leb (4 * suc n) (length (drop at b)) (omega arith))

-- ---- a record: cut off, with a wrong fixed part, and good so far

module _ (k : ℕ) (h : k < 10) (b : List ℕ) (bytes : Bytes b) (at : ℕ) (p : 0 < at) (q : at ≤ length b) where
  pub record-short : length b - at < fixed_size k → 0 ≡ record_end k b at
  record-short g =
      let left : length (drop at b) ≡ length b - at = length-drop at b in
      sym (record-end k h b bytes at p q ∙ rw (lt-leb (fixed_size k) (length (drop at b)) (omega arith)))

  pub record-bad : fixed_good k (drop at b) ≡ false → 0 ≡ record_end k b at
  record-bad e = sym (record-end k h b bytes at p q ∙ rw (e, and-false (leb (fixed_size k) (length (drop at b)))))

  pub record-there : fixed_size k ≤ length b - at → fixed_good k (drop at b) ≡ true → lists_end (get_or list_limits_of k []) b (at + fixed_size k) ≡ record_end k b at
  record-there g e =
      let left : length (drop at b) ≡ length b - at = length-drop at b in
      sym (record-end k h b bytes at p q ∙ rw (le-leb (fixed_size k) (length (drop at b)) (omega arith), e))
