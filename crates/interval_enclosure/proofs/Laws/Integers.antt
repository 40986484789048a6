-- Between the two ways to say that an interval holds a number: `Holds` of an integer over a power of two, and `In` of a difference of natural numbers over a scale. Assumes nothing.
use Rattle.std.specs.Prelude.{◌≡◌, ℕ, zero, suc, ◌+◌, ◌*◌, ◌^◌, ◌<◌, true, false, ℤ, pos, negsuc, Float}
use Rattle.std.proofs.Common.{sym, ap, ◌∙◌, le_of_eq, add-mul, mul_assoc, mul_comm, mul_left_comm, zero-lt-suc, arith, lt→ltb, pow_pos}
use Rattle.std.specs.Int.Signed.{lt_z_yes}
use Rattle.std.specs.Float.{nan, inf, fin}
use Rattle.interval_arithmetic.specs.declared.Interval.{Interval}
use Rattle.interval_arithmetic.specs.declared.Sign.{Sign}
use Rattle.interval_arithmetic.specs.declared.Sign.TheVariants.{Negative, Zero, Positive, Unresolved}
use Rattle.float_values.specs.Value.{ONE, value}
use Rattle.interval_enclosure.specs.Value.{LowerBound, UpperBound, Holds, SignOf}
use Rattle.float_values.specs.Laws.Pairs.{Lower, Upper, over, under}
use Rattle.interval_enclosure.specs.Laws.Pairs.{In}
use Rattle.float_values.specs.Laws.Near.{lower_mono, upper_mono}
use Rattle.float_values.specs.Laws.Integers.{scaled-out, scaled-in, over-value, under-value}
use Rattle.interval_enclosure.specs.Laws.Squares.{Says}

-- ---- one number, written as two differences
same_in : (D : ℕ) (x : Interval) (p n p' n' : ℕ) → 0 < D → p + n' ≡ p' + n → In D x p n → In D x p' n'
same_in D x p n p' n' D-pos e h =
    let k : p * D + n' * D ≡ p' * D + n * D = sym (add-mul p n' D) ∙ ap (λ (z : ℕ). z * D) e ∙ add-mul p' n D in
    record {
      lo-held = h.lo-held;
      hi-held = h.hi-held;
      low = lower_mono x.lo D D p n p' n' D-pos (le_of_eq k) h.low;
      high = upper_mono x.hi D D p n p' n' D-pos (le_of_eq (sym k)) h.high;
    }

-- the same number, both parts and the scale multiplied
pub in-rescaled : (D E : ℕ) (x : Interval) (p n : ℕ) → 0 < D → In D x p n → In (D * E) x (p * E) (n * E)
in-rescaled D E x p n D-pos h =
    let e : p * (D * E) + n * E * D ≡ p * E * D + n * (D * E) = simp (mul_assoc, mul_comm, mul_left_comm) in
    record {
      lo-held = h.lo-held;
      hi-held = h.hi-held;
      low = lower_mono x.lo D (D * E) p n (p * E) (n * E) D-pos (le_of_eq e) h.low;
      high = upper_mono x.hi D (D * E) p n (p * E) (n * E) D-pos (le_of_eq (sym e)) h.high;
    }

-- ---- `Holds` and `In`
low-to : (k : ℕ) (x : Float) (A : ℤ) → LowerBound k x A → Lower (2 ^ k) x (over A) (under A)
low-to k nan A h = h
low-to k (inf true) A h = h
low-to k (inf false) A h = h
low-to k (fin s m e) A h = rw (← over-value (fin s m e), ← under-value (fin s m e)) (scaled-out (value (fin s m e)) A (2 ^ k) ONE h)

high-to : (k : ℕ) (x : Float) (A : ℤ) → UpperBound k x A → Upper (2 ^ k) x (over A) (under A)
high-to k nan A h = h
high-to k (inf true) A h = h
high-to k (inf false) A h = h
high-to k (fin s m e) A h = rw (← over-value (fin s m e), ← under-value (fin s m e)) (scaled-out A (value (fin s m e)) ONE (2 ^ k) h)

low_of : (k : ℕ) (x : Float) (A : ℤ) → Lower (2 ^ k) x (over A) (under A) → LowerBound k x A
low_of k nan A h = h
low_of k (inf true) A h = h
low_of k (inf false) A h = h
low_of k (fin s m e) A h = scaled-in (value (fin s m e)) A (2 ^ k) ONE (rw (over-value (fin s m e), under-value (fin s m e)) h)

high-of : (k : ℕ) (x : Float) (A : ℤ) → Upper (2 ^ k) x (over A) (under A) → UpperBound k x A
high-of k nan A h = h
high-of k (inf true) A h = h
high-of k (inf false) A h = h
high-of k (fin s m e) A h = scaled-in A (value (fin s m e)) ONE (2 ^ k) (rw (over-value (fin s m e), under-value (fin s m e)) h)

pub to_in : (k : ℕ) (x : Interval) (A : ℤ) → Holds k x A → In (2 ^ k) x (over A) (under A)
to_in k x A h = record { lo-held = h.lo-held; hi-held = h.hi-held; low = low-to k x.lo A h.low; high = high-to k x.hi A h.high }

-- from any pair (p, n) with p - n = A
pub of-in : (k : ℕ) (x : Interval) (p n : ℕ) (A : ℤ) → p + under A ≡ over A + n → In (2 ^ k) x p n → Holds k x A
of-in k x p n A e h =
    let g = same_in (2 ^ k) x p n (over A) (under A) (pow_pos k) e h in
    record { lo-held = g.lo-held; hi-held = g.hi-held; low = low_of k x.lo A g.low; high = high-of k x.hi A g.high }

-- ---- the sign
pub says-sign : (s : Sign) (A : ℤ) → Says s (over A) (under A) → SignOf s A
unfolding Says
says-sign Negative (pos a) h = absurd (no a h)
  where
    no : (a : ℕ) → a < 0 → ⊥
    no a h = omega arith
says-sign Negative (negsuc a) h = lt_z_yes tt
says-sign Zero (pos a) h = ap pos h
says-sign Zero (negsuc a) h = absurd (no a h)
  where
    no : (a : ℕ) → 0 ≡ suc a → ⊥
    no a h = omega arith
says-sign Positive (pos zero) h = absurd (no h)
  where
    no : 0 < 0 → ⊥
    no h = omega arith
says-sign Positive (pos (suc a)) h = lt_z_yes (lt→ltb 0 (suc a) (zero-lt-suc a))
says-sign Positive (negsuc a) h = absurd (no a h)
  where
    no : (a : ℕ) → suc a < 0 → ⊥
    no a h = omega arith
says-sign Unresolved A h = tt
