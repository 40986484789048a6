-- A field that is read and written again is the same just where the code's test passes. Assumes nothing.
use Rattle.std.specs.Prelude.{ℕ, zero, suc, ◌*◌, ◌<◌, ◌≡◌, refl, Bool, true, false, not, cond, ◌&&◌, ◌||◌, [], ◌∷◌, T, eqb, leb, Float}
use Rattle.std.proofs.Common.{arith, ap, ◌∙◌, eq-eqb, ne_eqb}
use Rattle.std.proofs.lemmas.Bool.{false≢true, lt-leb}
use Rattle.std.proofs.Math.Option.{none, some}
use Rattle.std.specs.Float.{nan, inf, fin, binary64}
use Rattle.std.specs.Float.Ieee.{top, to_bits, of_bits, is_nan, le}
use Rattle.std.specs.Float.Ieee.Scale.{finite}
use Rattle.std.specs.Float.Ieee.Bits.{to_bits-of_bits}
use Rattle.interval_arithmetic.specs.Ops.{zero_f}
use Rattle.geom_lines_planes.specs.declared.tolerance.Tolerance.TheVariants.{Own, Session}
use Rattle.meaning.specs.Model.{positive, negative, office-0, office-1}
use Rattle.meaning.specs.Edits.{tolerance_ok}
use Rattle.meaning_list_laws.specs.Tests.{and_both, and-true, and-false}
use Rattle.memory_layout.specs.Names.{BODIES}
use Rattle.memory_layout.specs.Layout.{word}
use Rattle.memory_layout.specs.Decode.{kind_of, tolerance_of}
use Rattle.memory_layout.specs.Laid.{bit, sense, kind, maybe, tag, own}
use Rattle.image_format.specs.Bytes.{same_bytes}
use Rattle.image_format.specs.Fields.{marks, SECOND_BODY_MARK, mark_of, office_in}
use Rattle.image_laws.specs.Starts.{eqb-sym}
use Rattle.image_record_test.specs.Parts.{mark_good, optional_good, bits_good, tolerance_good}

-- ---- marks

-- a body's mark is written again for the office that it tells
pub mark-kept : (n : ℕ) → eqb n (mark_of BODIES (office_in BODIES n)) ≡ mark_good BODIES n
unfolding mark_good
mark-kept n = go (eqb n SECOND_BODY_MARK) refl
  where
    go : (b : Bool) → eqb n SECOND_BODY_MARK ≡ b → eqb n (mark_of BODIES (cond b office-1 office-0)) ≡ (b || eqb n (word marks BODIES))
    go true e = e
    go false e = refl

-- ---- tags

pub kind-kept : (n : ℕ) → eqb (kind (kind_of n)) n ≡ leb n 4
kind-kept zero = refl
kind-kept (suc zero) = refl
kind-kept (suc (suc zero)) = refl
kind-kept (suc (suc (suc zero))) = refl
kind-kept (suc (suc (suc (suc zero)))) = refl
kind-kept (suc (suc (suc (suc (suc n))))) = rw (ne_eqb 4 (suc (suc (suc (suc (suc n))))) (λ e. omega arith), lt-leb (suc (suc (suc (suc (suc n))))) 4 (omega arith))

-- a tag that is 1 for all but 0
two-kept : (n : ℕ) → eqb (cond (eqb n 0) 0 1) n ≡ leb n 1
two-kept zero = refl
two-kept (suc zero) = refl
two-kept (suc (suc n)) = rw (ne_eqb (suc (suc n)) 0 (λ e. omega arith), ne_eqb 1 (suc (suc n)) (λ e. omega arith), lt-leb (suc (suc n)) 1 (omega arith))

bit_is : (b : Bool) → bit (not b) ≡ cond b 0 1
bit_is true = refl
bit_is false = refl

sense-is : (b : Bool) → sense (cond b positive negative) ≡ cond b 0 1
sense-is true = refl
sense-is false = refl

tag_is : (b : Bool) (t : Float) → tag (cond b Session (Own t)) ≡ cond b 0 1
tag_is true t = refl
tag_is false t = refl

pub bit_kept : (n : ℕ) → eqb (bit (not (eqb n 0))) n ≡ leb n 1
bit_kept n = ap (λ (k : ℕ). eqb k n) (bit_is (eqb n 0)) ∙ two-kept n

pub sense-kept : (n : ℕ) → eqb (sense (cond (eqb n 0) positive negative)) n ≡ leb n 1
sense-kept n = ap (λ (k : ℕ). eqb k n) (sense-is (eqb n 0)) ∙ two-kept n

pub tag-kept : (n : ℕ) (t : Float) → eqb (tag (tolerance_of n t)) n ≡ leb n 1
tag-kept n t = ap (λ (k : ℕ). eqb k n) (tag_is (eqb n 0) t) ∙ two-kept n

-- ---- optional ids

eqb-itself : (n : ℕ) → eqb n n ≡ true
eqb-itself n = eq-eqb n n refl

pub maybe-kept : (t i : ℕ) → same_bytes (maybe (cond (eqb t 0) none (some i))) (t ∷ i ∷ []) ≡ optional_good t i
unfolding same_bytes optional_good
maybe-kept zero i = rw (eqb-sym 0 i, and-true (eqb i 0))
maybe-kept (suc zero) i = rw (eqb-itself i)
maybe-kept (suc (suc t)) i =
    rw (ne_eqb (suc (suc t)) 0 (λ e. omega arith), ne_eqb 1 (suc (suc t)) (λ e. omega arith), lt-leb (suc (suc t)) 1 (omega arith))

-- ---- floats

finite_number : (x : Float) → finite x ≡ true → T (not (is_nan x))
unfolding is_nan
finite_number nan e = absurd (false≢true e)
finite_number (inf s) e = tt
finite_number (fin s m e) h = tt

-- bits of a finite float are those that it is written with
pub finite-kept : (n : ℕ) → n < 2 * top binary64 → finite (of_bits binary64 n) ≡ true → bits_good n ≡ true
unfolding bits_good
finite-kept n h e = eq-eqb _ _ (to_bits-of_bits binary64 n h (finite_number (of_bits binary64 n) e))

pub zero_bits : to_bits binary64 zero_f ≡ 0
unfolding to_bits
zero_bits = refl

-- an own tolerance that is held is a finite float
own_held : (n : ℕ) → n < 2 * top binary64 → (b : Bool) → tolerance_ok (Own (of_bits binary64 n)) ≡ b
    → (bits_good n && tolerance_ok (Own (of_bits binary64 n))) ≡ tolerance_ok (Own (of_bits binary64 n))
own_held n h true e = rw (finite-kept n h (and_both (finite (of_bits binary64 n)) (le zero_f (of_bits binary64 n)) e).0)
own_held n h false e = rw (e, and-false (bits_good n))

pub tolerance-kept : (t n : ℕ) → n < 2 * top binary64
    → (eqb (to_bits binary64 (own (tolerance_of t (of_bits binary64 n)))) n && tolerance_ok (tolerance_of t (of_bits binary64 n))) ≡ tolerance_good t n
unfolding tolerance_good bits_good
tolerance-kept t n h = by-tag (eqb t 0) refl
  where
    by-tag : (b : Bool) → eqb t 0 ≡ b
        → (eqb (to_bits binary64 (own (cond b Session (Own (of_bits binary64 n))))) n && tolerance_ok (cond b Session (Own (of_bits binary64 n))))
        ≡ cond b (eqb n 0) (tolerance_ok (Own (of_bits binary64 n)))
    by-tag true e = and-true (eqb (to_bits binary64 zero_f) n) ∙ ap (λ (k : ℕ). eqb k n) zero_bits ∙ eqb-sym 0 n
    by-tag false e = own_held n h (tolerance_ok (Own (of_bits binary64 n))) refl
