-- A float's own pattern tells whether binary32 holds it. M is the odd number of `fin s M e`, p its digits, and the float is M * 2 ^ j of binary64's smallest values: binary32 holds it
-- where p is at most 24, j at least 925 and p + j at most 1202. Assumes nothing.
use Prim.Native.Nat.{ℕ, zero, suc, ◌+◌, ◌-◌, ◌*◌, ◌/◌, ◌%◌, ◌^◌, ◌≤◌, ◌<◌}
use Rattle.std.proofs.Math.Nat.{mul_assoc, zero-add, mul-mod_left, mul-pos, div-one, zero-div, lt_of_lt_of_le}
use Rattle.std.proofs.Common.{mul-one, one-mul, zero-mul, not-le_of_lt, mul-le-mul_right, ◌∙◌, subst, pow_pos, pow_mono, shl_lt, shl_exact}
use native.Mathlib.Omega.{arith}
use Rattle.std.proofs.Math.Decide.{dec_lt}
use Rattle.std.specs.Prelude.{◌≡◌, Bool, true, false, not, cond, ◌&&◌, T, eqb, ℤ, pos, negsuc, Float}
use Rattle.std.proofs.Math.Path.{refl, sym, ap}
use Rattle.std.proofs.Math.Dec.{ltb, leb}
use Rattle.std.proofs.Math.Pow.{pow-lt, pow-add, shl-shr, mod-mod-pow}
use Rattle.std.proofs.lemmas.Nat.{mod-pow-add}
use Rattle.std.specs.Float.{nan, inf, fin, binary32, binary64}
use Rattle.std.specs.Float.Ieee.{up, down, size, fits, is_nan, to_bits}
use Rattle.std.specs.Float.Ieee.Digits.{size-lt, size_reaches, size-le}
use Rattle.std.specs.Float.Ieee.Fits.{and_l, and_r, kept-lt}
use Rattle.std.specs.Float.Ieee.Bits.{is_true}
use borrow.Author.Tests.{leb-true, eqb-true, lt-ltb, le-ltb, le-leb, lt-leb, eq-eqb, ne_eqb}
use Rattle.float_narrow.specs.Narrow.{narrow}
use Rattle.float_narrow.specs.Digits.{held}

-- ---- how many digits

size-least : (n q : ℕ) → 2 ^ q ≤ n → q < size n
size-least n q h = elim (dec_lt q (size n)) [
  | yes less ↦ less
  | no more ↦ absurd (not-le_of_lt (lt_of_lt_of_le (size-lt n) (pow_mono (omega arith))) h)
]

-- j digits more
size-shifted : (M j : ℕ) → 0 < M → size (M * 2 ^ j) ≡ size M + j
size-shifted M j h =
    let most : size (M * 2 ^ j) ≤ size M + j = size-le (M * 2 ^ j) (size M + j) (shl_lt (size M) j (size-lt M)) in
    let some : 0 < size M = size-least M 0 h in
    let first : 2 ^ (size M - 1) ≤ M = size_reaches M (size M - 1) (omega arith) in
    let least : size M - 1 + j < size (M * 2 ^ j) = size-least (M * 2 ^ j) (size M - 1 + j) (subst (λ (z : ℕ). z ≤ M * 2 ^ j) (sym (pow-add 2 (size M - 1) j)) (mul-le-mul_right (2 ^ j) first)) in
    omega arith

size-test : (n q : ℕ) → ltb n (2 ^ q) ≡ leb (size n) q
size-test n q = elim (dec_lt n (2 ^ q)) [
  | yes less ↦ lt-ltb n (2 ^ q) less ∙ sym (le-leb (size n) q (size-le n q less))
  | no more ↦ le-ltb n (2 ^ q) (omega arith) ∙ sym (lt-leb (size n) q (size-least n q (omega arith)))
]

-- ---- which powers of two divide an odd number's multiple

odd-left : (M u : ℕ) → M % 2 ≡ 1 → 0 < M % 2 ^ suc u
odd-left M u h = elim (dec_lt 0 (M % 2 ^ suc u)) [
  | yes some ↦ some
  | no none ↦
      let next : u + 1 ≡ suc u = omega arith in
      let gone : M % 2 ^ suc u ≡ 0 = omega arith in
      let e : M % 2 ^ (u + 1) ≡ 0 = ap (λ (z : ℕ). M % 2 ^ z) next ∙ gone in
      let f : M % 2 ^ (u + 1) % 2 ^ 1 ≡ M % 2 ^ 1 = mod-mod-pow M u 1 in
      let g : ◌≡◌ {A = ℕ} 0 1 = sym (ap (λ (z : ℕ). z % 2 ^ 1) e) ∙ f ∙ h in
      absurd (omega arith)
]

divides : (M i t : ℕ) → M % 2 ≡ 1 → eqb (M * 2 ^ i % 2 ^ t) 0 ≡ leb t i
divides M i t h = elim (dec_lt i t) [
  | yes less ↦
      let parts : suc (t - suc i) + i ≡ t = omega arith in
      let whole : M * 2 ^ i % 2 ^ (suc (t - suc i) + i) ≡ M * 2 ^ i / 2 ^ i % 2 ^ suc (t - suc i) * 2 ^ i + M * 2 ^ i % 2 ^ i = mod-pow-add (M * 2 ^ i) (suc (t - suc i)) i in
      let more : 0 < M * 2 ^ i / 2 ^ i % 2 ^ suc (t - suc i) * 2 ^ i = mul-pos (subst (λ (z : ℕ). 0 < z % 2 ^ suc (t - suc i)) (sym (shl-shr M i)) (odd-left M (t - suc i) h)) (pow_pos i) in
      let some : 0 < M * 2 ^ i % 2 ^ t = subst (λ (z : ℕ). 0 < M * 2 ^ i % 2 ^ z) parts (omega arith) in
      ne_eqb (M * 2 ^ i % 2 ^ t) 0 (λ e. omega arith) ∙ sym (lt-leb t i less)
  | no more ↦
      let parts : i - t + t ≡ i = omega arith in
      let whole : M * 2 ^ i ≡ M * 2 ^ (i - t) * 2 ^ t = ap (λ (z : ℕ). M * 2 ^ z) (sym parts) ∙ ap (λ (z : ℕ). M * z) (pow-add 2 (i - t) t) ∙ sym (mul_assoc M (2 ^ (i - t)) (2 ^ t)) in
      eq-eqb (M * 2 ^ i % 2 ^ t) 0 (ap (λ (z : ℕ). z % 2 ^ t) whole ∙ mul-mod_left (M * 2 ^ (i - t)) (2 ^ t)) ∙ sym (le-leb t i (omega arith))
]

-- ---- the pattern

abbrev within : ℕ → ℕ → Bool
within p j = leb p 24 && leb 925 j && leb (p + j) 1202

-- the pattern of N = M * 2 ^ j
abbrev pattern : ℕ → ℕ
pattern N = (size N - 53) * 2 ^ 52 + N / 2 ^ (size N - 53)

-- two tests that pass together
same-leb : (a b c d : ℕ) → (a ≤ b → c ≤ d) → (c ≤ d → a ≤ b) → leb a b ≡ leb c d
same-leb a b c d f g = elim (dec_lt b a) [
  | yes less ↦ lt-leb a b less ∙ sym (elim (dec_lt d c) [
    | yes far ↦ lt-leb c d far
    | no near ↦ absurd (not-le_of_lt less (g (omega arith)))
  ])
  | no more ↦ le-leb a b (omega arith) ∙ sym (le-leb c d (f (omega arith)))
]

never : (a : Bool) → (a && false) ≡ false
never true = refl
never false = refl

-- the tests of the pattern, over the number of digits and the place alone
counted : (p j k i : ℕ) → 1 ≤ p → p ≤ 53 → k + 53 ≡ p + j → i + p ≡ 53
    → cond (ltb (k + 1) 874) false (cond (ltb (k + 1) 897) (leb (926 - (k + 1)) i) (ltb (k + 1) 1151 && leb 29 i)) ≡ within p j
counted p j k i first last e f = elim (dec_lt (k + 1) 874) [
  | yes a ↦ rw (lt-ltb (k + 1) 874 a, lt-leb 925 j (omega arith), never (leb p 24))
  | no a ↦ rw (le-ltb (k + 1) 874 (omega arith)) (elim (dec_lt (k + 1) 897) [
    | yes b ↦ rw (lt-ltb (k + 1) 897 b) (elim (dec_lt j 925) [
      | yes d ↦ rw (lt-leb (926 - (k + 1)) i (omega arith), lt-leb 925 j d, never (leb p 24))
      | no d ↦ rw (le-leb (926 - (k + 1)) i (omega arith), le-leb 925 j (omega arith), le-leb p 24 (omega arith), le-leb (p + j) 1202 (omega arith))
    ])
    | no b ↦ rw (le-ltb (k + 1) 897 (omega arith)) (elim (dec_lt (k + 1) 1151) [
      | yes d ↦ rw (lt-ltb (k + 1) 1151 d) (elim (dec_lt 24 p) [
        | yes g ↦ rw (lt-leb 29 i (omega arith), lt-leb p 24 g)
        | no g ↦ rw (le-leb 29 i (omega arith), le-leb 925 j (omega arith), le-leb p 24 (omega arith), le-leb (p + j) 1202 (omega arith))
      ])
      | no d ↦ rw (le-ltb (k + 1) 1151 (omega arith), lt-leb (p + j) 1202 (omega arith), never (leb p 24 && leb 925 j))
    ])
  ])
]

module _ (M j : ℕ) (odd : M % 2 ≡ 1) (digits : size M ≤ 53) where
  some : 0 < M
  some = elim (dec_lt 0 M) [
    | yes a ↦ a
    | no a ↦ let none : M ≡ 0 = omega arith in let g : ◌≡◌ {A = ℕ} 0 1 = sym (ap (λ (z : ℕ). z % 2) none) ∙ odd in absurd (omega arith)
  ]

  least : 1 ≤ size M
  least = size-least M 0 some

  -- a float of fewer digits than binary64's smallest normal number
  short : size M + j < 53 → held (pattern (M * 2 ^ j)) ≡ within (size M) j
  unfolding held
  short h =
      let n : size (M * 2 ^ j) ≡ size M + j = size-shifted M j some in
      let none : size (M * 2 ^ j) - 53 ≡ 0 = omega arith in
      let all : pattern (M * 2 ^ j) ≡ M * 2 ^ j = ap (λ (z : ℕ). z * 2 ^ 52 + M * 2 ^ j / 2 ^ z) none ∙ zero-add (M * 2 ^ j / 1) ∙ div-one (M * 2 ^ j) in
      let below : M * 2 ^ j < 2 ^ 52 = lt_of_lt_of_le (size-lt (M * 2 ^ j)) (pow_mono {j = 52} (omega arith)) in
      let there : 0 < M * 2 ^ j = mul-pos some (pow_pos j) in
      let field : M * 2 ^ j / 0x10000000000000 < 874 = omega arith in
      rw (all, lt-ltb (M * 2 ^ j / 0x10000000000000) 874 field, ne_eqb (M * 2 ^ j) 0 (λ e. omega arith), lt-leb 925 j (omega arith), never (leb (size M) 24))

  -- any other: its digits D, with a leading one
  long : 53 ≤ size M + j → held (pattern (M * 2 ^ j)) ≡ within (size M) j
  unfolding held
  long h =
      rw (places, field, rest, ne_eqb (k * 2 ^ 52 + D) 0 (λ e. omega (arith, e, above)), tail, divides M i (926 - (k + 1)) odd, divides M i 29 odd)
      (counted (size M) j k i least digits (omega arith) (omega arith))
    where
      k : ℕ
      k = size M + j - 53

      i : ℕ
      i = 53 - size M

      D : ℕ
      D = M * 2 ^ i

      above : 2 ^ 52 ≤ D
      above = size_reaches D 52 (omega (arith, size-shifted M i some))

      places : pattern (M * 2 ^ j) ≡ k * 2 ^ 52 + D
      places =
          let n : size (M * 2 ^ j) - 53 ≡ k = omega (arith, size-shifted M j some) in
          let sum : i + k ≡ j = omega arith in
          let all : M * 2 ^ j ≡ D * 2 ^ k = ap (λ (z : ℕ). M * 2 ^ z) (sym sum) ∙ ap (λ (z : ℕ). M * z) (pow-add 2 i k) ∙ sym (mul_assoc M (2 ^ i) (2 ^ k)) in
          ap (λ (z : ℕ). z * 2 ^ 52 + M * 2 ^ j / 2 ^ z) n ∙ ap (λ (z : ℕ). k * 2 ^ 52 + z / 2 ^ k) all ∙ ap (λ (z : ℕ). k * 2 ^ 52 + z) (shl-shr D k)

      below : D < 2 ^ 53
      below = lt_of_lt_of_le (size-lt D) (pow_mono {j = 53} (omega (arith, size-shifted M i some)))

      field : (k * 2 ^ 52 + D) / 0x10000000000000 ≡ k + 1
      field = omega (arith, above, below)

      rest : 0x10000000000000 + (k * 2 ^ 52 + D) % 0x10000000000000 ≡ D
      rest = omega (arith, above, below)

      tail : (k * 2 ^ 52 + D) % 0x20000000 ≡ D % 2 ^ 29
      tail = omega arith

  pub pattern-held : held (pattern (M * 2 ^ j)) ≡ within (size M) j
  pattern-held = elim (dec_lt (size M + j) 53) [
    | yes a ↦ short a
    | no a ↦ long (omega arith)
  ]

-- ---- the float

-- its place
place : ℤ → ℕ
place (pos i) = i + 1074
place (negsuc i) = 1074 - suc i

powers : (a b : ℕ) → 2 ^ a ≤ 2 ^ b → a ≤ b
powers a b h = elim (dec_lt b a) [
  | yes more ↦ absurd (not-le_of_lt (pow-lt more) h)
  | no less ↦ omega arith
]

powers-test : (a b : ℕ) → leb (2 ^ a) (2 ^ b) ≡ leb a b
powers-test a b = same-leb (2 ^ a) (2 ^ b) a b (powers a b) pow_mono

module _ (M : ℕ) (some : 0 < M) where
  -- below 2 ^ q in size
  range : (e : ℤ) (q : ℕ) → leb (down e) (2 ^ 1074) ≡ true → ltb (M * up e) (2 ^ q * down e) ≡ leb (size M + place e) (q + 1074)
  unfolding place
  range (pos i) q h =
      ap (ltb (M * 2 ^ i)) (mul-one (2 ^ q)) ∙ size-test (M * 2 ^ i) q ∙ ap (λ (z : ℕ). leb z q) (size-shifted M i some)
      ∙ same-leb (size M + i) q (size M + (i + 1074)) (q + 1074) (λ a. omega arith) (λ a. omega arith)
  range (negsuc i) q h =
      let far : suc i ≤ 1074 = powers (suc i) 1074 (leb-true (2 ^ suc i) (2 ^ 1074) h) in
      ap (λ (z : ℕ). ltb z (2 ^ q * 2 ^ suc i)) (mul-one M) ∙ ap (ltb M) (sym (pow-add 2 q (suc i))) ∙ size-test M (q + suc i)
      ∙ same-leb (size M) (q + suc i) (size M + (1074 - suc i)) (q + 1074) (λ a. omega arith) (λ a. omega arith)

  -- a whole number of binary32's smallest values
  whole : (e : ℤ) → leb (down e) (2 ^ 1074) ≡ true → leb (down e) (2 ^ 149) ≡ leb 925 (place e)
  unfolding place
  whole (pos i) h = le-leb 1 (2 ^ 149) (pow_pos 149) ∙ sym (le-leb 925 (i + 1074) (omega arith))
  whole (negsuc i) h =
      let far : suc i ≤ 1074 = powers (suc i) 1074 (leb-true (2 ^ suc i) (2 ^ 1074) h) in
      powers-test (suc i) 149 ∙ same-leb (suc i) 149 925 (1074 - suc i) (λ a. omega arith) (λ a. omega arith)

  -- how many of binary64's smallest values it is
  many : (e : ℤ) → leb (down e) (2 ^ 1074) ≡ true → M * up e * 2 ^ 1074 / down e ≡ M * 2 ^ place e
  unfolding place
  many (pos i) h = div-one (M * 2 ^ i * 2 ^ 1074) ∙ mul_assoc M (2 ^ i) (2 ^ 1074) ∙ ap (λ (z : ℕ). M * z) (sym (pow-add 2 i 1074))
  many (negsuc i) h =
      let far : suc i ≤ 1074 = powers (suc i) 1074 (leb-true (2 ^ suc i) (2 ^ 1074) h) in
      let sum : 1074 - suc i + suc i ≡ 1074 = omega arith in
      let all : 2 ^ 1074 ≡ 2 ^ (1074 - suc i) * 2 ^ suc i = ap (λ (z : ℕ). 2 ^ z) (sym sum) ∙ pow-add 2 (1074 - suc i) (suc i) in
      ap (λ (z : ℕ). z * 2 ^ 1074 / 2 ^ suc i) (mul-one M) ∙ ap (λ (z : ℕ). M * z / 2 ^ suc i) all ∙ ap (λ (z : ℕ). z / 2 ^ suc i) (sym (mul_assoc M (2 ^ (1074 - suc i)) (2 ^ suc i)))
      ∙ shl-shr (M * 2 ^ (1074 - suc i)) (suc i)

-- what binary64 keeps of it
record Kept (M : ℕ) (e : ℤ) : Type 0 where
  odd : eqb (M % 2) 1 ≡ true
  digits : ltb M (2 ^ 53) ≡ true
  low : leb (down e) (2 ^ 1074) ≡ true
  high : ltb (M * up e) (2 ^ 1024 * down e) ≡ true

kept : (s : Bool) (m : ℕ) (e : ℤ) → T (fits binary64 (fin s (suc m) e)) → Kept (suc m) e
unfolding fits
kept s m e f =
    let a = and_l (eqb (suc m % 2) 1 && ltb (suc m) (2 ^ 53) && leb (down e) (2 ^ 1074)) _ f in
    let b = and_l (eqb (suc m % 2) 1 && ltb (suc m) (2 ^ 53)) _ a in
    record {
      odd = is_true _ (and_l (eqb (suc m % 2) 1) _ b);
      digits = is_true _ (and_r (eqb (suc m % 2) 1) _ b);
      low = is_true _ (and_r (eqb (suc m % 2) 1 && ltb (suc m) (2 ^ 53)) _ a);
      high = is_true _ (and_r (eqb (suc m % 2) 1 && ltb (suc m) (2 ^ 53) && leb (down e) (2 ^ 1074)) _ f);
    }

module _ (s : Bool) (m : ℕ) (e : ℤ) (f : T (fits binary64 (fin s (suc m) e))) where
  of : Kept (suc m) e
  of = kept s m e f

  there : 0 < suc m
  there = omega arith

  fits-is : fits binary32 (fin s (suc m) e) ≡ within (size (suc m)) (place e)
  unfolding fits
  fits-is = rw (of.odd, size-test (suc m) 24, whole (suc m) there e of.low, range (suc m) there e 128 of.low)

  digits-few : size (suc m) ≤ 53
  digits-few = leb-true (size (suc m)) 53 (sym (size-test (suc m) 53) ∙ of.digits)

  -- without its sign
  bits_are : to_bits binary64 (fin s (suc m) e) % 0x8000000000000000 ≡ pattern (suc m * 2 ^ place e)
  unfolding to_bits
  bits_are = ap unsigned (many (suc m) there e of.low) ∙ without s ((size N - 53) * 2 ^ 52) (N / 2 ^ (size N - 53)) small
    where
      N : ℕ
      N = suc m * 2 ^ place e

      unsigned : ℕ → ℕ
      unsigned n = (cond s 0x8000000000000000 0 + (size n - 53) * 2 ^ 52 + n / 2 ^ (size n - 53)) % 0x8000000000000000

      long : size N ≤ 2098
      long = omega (arith, size-shifted (suc m) (place e) there, leb-true (size (suc m) + place e) 2098 (sym (range (suc m) there e 1024 of.low) ∙ of.high))

      small : pattern N < 0x8000000000000000
      small = omega (arith, long, kept-lt 53 N)

      without : (t : Bool) (a b : ℕ) → a + b < 0x8000000000000000 → (cond t 0x8000000000000000 0 + a + b) % 0x8000000000000000 ≡ a + b
      without true a b h = omega arith
      without false a b h = omega arith

-- both zeros
zero-told : (s : Bool) (e : ℤ) → T (fits binary64 (fin s zero e)) → held (to_bits binary64 (fin s zero e) % 0x8000000000000000) ≡ fits binary32 (fin s zero e)
unfolding to_bits fits held size
zero-told s e f = ap (λ (n : ℕ). held ((cond s 0x8000000000000000 0 + (size n - 53) * 2 ^ 52 + n / 2 ^ (size n - 53)) % 0x8000000000000000)) none ∙ by s ∙ sym (is_true _ f)
  where
    none : 0 * up e * 2 ^ 1074 / down e ≡ 0
    none = ap (λ (z : ℕ). z * 2 ^ 1074 / down e) (zero-mul (up e)) ∙ zero-div (down e)

    by : (t : Bool) → held ((cond t 0x8000000000000000 0 + (size 0 - 53) * 2 ^ 52 + 0 / 2 ^ (size 0 - 53)) % 0x8000000000000000) ≡ true
    by true = refl
    by false = refl

-- the float's pattern tells
pub told : (x : Float) → T (fits binary64 x) → is_nan x ≡ false → held (to_bits binary64 x % 0x8000000000000000) ≡ narrow x
unfolding narrow is_nan
told nan f h = absurd (subst T h tt)
told (inf true) f h = unfold held to_bits in refl
told (inf false) f h = unfold held to_bits in refl
told (fin s zero e) f h = zero-told s e f
told (fin s (suc m) e) f h =
    ap held (bits_are s m e f) ∙ pattern-held (suc m) (place e) (eqb-true (suc m % 2) 1 (kept s m e f).odd) (digits-few s m e f) ∙ sym (fits-is s m e f)

-- ---- the code's shift, and what the casts ask

pub shifted : (a : ℕ) → 874 ≤ a → 2 ^ (926 - a) ≡ 1 * 2 ^ (926 - a) % 18446744073709551616
shifted a h = sym (one-mul (2 ^ (926 - a))) ∙ sym (shl_exact {a = 1} 1 (926 - a) 64 (omega arith) (omega arith))

pub no_number : (x : Float) → is_nan x ≡ true → false ≡ narrow x
unfolding narrow is_nan
no_number nan h = refl
no_number (inf s) h = absurd (subst (λ (t : Bool). T (not t)) h tt)
no_number (fin s m e) h = absurd (subst (λ (t : Bool). T (not t)) h tt)

pub narrow-number : (x : Float) → narrow x ≡ true → T (not (is_nan x))
unfolding narrow is_nan
narrow-number nan h = subst T (sym h) tt
narrow-number (inf s) h = tt
narrow-number (fin s m e) h = tt

pub narrow-fits : (x : Float) → narrow x ≡ true → T (fits binary32 x)
unfolding narrow
narrow-fits nan h = absurd (subst T (sym h) tt)
narrow-fits (inf s) h = absurd (subst T (sym h) tt)
narrow-fits (fin s m e) h = subst T (sym h) tt
