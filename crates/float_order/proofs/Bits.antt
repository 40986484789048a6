-- What the proofs ask of bit patterns: a step from a value's pattern is to a value's pattern, a NaN stays, and what lies between the infinities is finite. Assumes nothing.
use Rattle.std.specs.Prelude.{◌≡◌, refl, ℕ, ◌+◌, ◌-◌, ◌*◌, ◌%◌, ◌≤◌, ◌<◌, Bool, true, false, not, cond, ◌&&◌, ◌||◌, T, eqb, ltb, Float}
use Rattle.std.proofs.Common.{sym, ap, ◌∙◌, subst, arith, lit≤, ltb→lt, nltb→le}
use Rattle.std.specs.Bool.{beq}
use Rattle.std.proofs.Math.Dec.{eqb_refl}
use Rattle.std.proofs.Math.Arith.{le→nltb}
use Rattle.std.proofs.lemmas.Bool.{eqb-false}
use Rattle.std.specs.Float.{nan, inf, fin, binary64}
use Rattle.std.specs.Float.Ieee.{up, down, lt, ne, is_nan, fits, nan_bits, of_bits, to_bits}
use Rattle.std.specs.Float.Ieee.Bits.{cond_no, of_bits-to_bits, to_bits-lt, nan_bits_is, nan_bits_above}
use Rattle.std.specs.Float.Ieee.Compare.{differs_from_itself}
use Rattle.std.specs.Float.Ieee.Scale.{finite}
use Rattle.float_order.specs.Next.{INF, TOP, NEGINF, up_bits, down_bits, next_up, next_down}

pub pattern-no-nan : (n : ℕ) → n % TOP ≤ INF → T (not (nan_bits binary64 n))
pattern-no-nan n h = subst (λ (t : Bool). T (not t)) (sym (nan_bits_above binary64 n)) (le→nltb INF (n % TOP) h)

pub ne-self : (x : Float) → ne x x ≡ is_nan x
unfolding ne is_nan
ne-self nan = refl
ne-self (inf true) = refl
ne-self (inf false) = refl
ne-self (fin s m e) = go s (eqb (m * up e * down e) (m * up e * down e)) (eqb_refl (m * up e * down e))
  where
    go : (s t : Bool) → T t → not (t && (beq s s || eqb (m * up e * down e) 0)) ≡ false
    go true true h = refl
    go false true h = refl
    go s false h = absurd h

pub is-num : (x : Float) → ne x x ≡ false → T (not (is_nan x))
is-num x h = subst (λ (t : Bool). T (not t)) (sym h ∙ ne-self x) tt

pub up-nan : (x : Float) → ne x x ≡ true → x ≡ next_up x
unfolding next_up is_nan
up-nan x h = differs_from_itself x (subst T (sym h) tt) ∙ sym (ap next_up (differs_from_itself x (subst T (sym h) tt)))

pub down-nan : (x : Float) → ne x x ≡ true → x ≡ next_down x
unfolding next_down is_nan
down-nan x h = differs_from_itself x (subst T (sym h) tt) ∙ sym (ap next_down (differs_from_itself x (subst T (sym h) tt)))

pub up-num : (x : Float) → ne x x ≡ false → of_bits binary64 (up_bits (to_bits binary64 x)) ≡ next_up x
unfolding next_up
up-num x h = sym (cond_no (is_nan x) nan (of_bits binary64 (up_bits (to_bits binary64 x))) (is-num x h))

pub down-num : (x : Float) → ne x x ≡ false → of_bits binary64 (down_bits (to_bits binary64 x)) ≡ next_down x
unfolding next_down
down-num x h = sym (cond_no (is_nan x) nan (of_bits binary64 (down_bits (to_bits binary64 x))) (is-num x h))

bits_in : (x : Float) → T (fits binary64 x) → ne x x ≡ false → to_bits binary64 x % TOP ≤ INF
bits_in x f h =
    nltb→le INF (to_bits binary64 x % TOP)
    (subst (λ (t : Bool). T (not t)) (sym (nan_bits_is binary64 (to_bits binary64 x) ∙ ap is_nan (of_bits-to_bits binary64 x f)) ∙ nan_bits_above binary64 (to_bits binary64 x)) (is-num x h))

pub bits-le : (x : Float) → T (fits binary64 x) → ne x x ≡ false → to_bits binary64 x ≤ NEGINF
bits-le x f h = go (to_bits binary64 x) (to_bits-lt binary64 x f) (bits_in x f h)
  where
    go : (n : ℕ) → n < 18446744073709551616 → n % TOP ≤ INF → n ≤ NEGINF
    go n a b = omega arith

up_in : (n : ℕ) → n ≤ NEGINF → n % TOP ≤ INF → up_bits n % TOP ≤ INF
up_in n l h = go (eqb n INF) (eqb n 0) (ltb n TOP) (eqb n TOP) (eqb-false n INF) (ltb→lt n TOP) (nltb→le n TOP) (eqb-false n TOP)
  where
    up-1 : n < TOP → (n ≡ INF → ⊥) → n % TOP ≤ INF → (n + 1) % TOP ≤ INF
    up-1 b c d = omega arith

    down-1 : TOP ≤ n → (n ≡ TOP → ⊥) → n ≤ NEGINF → (n - 1) % TOP ≤ INF
    down-1 b c d = omega arith

    go : (t u v w : Bool) → (t ≡ false → n ≡ INF → ⊥) → (T v → n < TOP) → (T (not v) → TOP ≤ n) → (w ≡ false → n ≡ TOP → ⊥)
        → cond t n (cond u 1 (cond v (n + 1) (cond w 1 (n - 1)))) % TOP ≤ INF
    go true u v w a b c d = h
    go false true v w a b c d = lit≤ tt
    go false false true w a b c d = up-1 (b tt) (a refl) h
    go false false false true a b c d = lit≤ tt
    go false false false false a b c d = down-1 (c tt) (d refl) l

down-in : (n : ℕ) → n ≤ NEGINF → n % TOP ≤ INF → down_bits n % TOP ≤ INF
down-in n l h = go (eqb n NEGINF) (eqb n 0) (ltb n TOP) (eqb-false n NEGINF) (eqb-false n 0) (ltb→lt n TOP) (nltb→le n TOP)
  where
    down-1 : n < TOP → (n ≡ 0 → ⊥) → n % TOP ≤ INF → (n - 1) % TOP ≤ INF
    down-1 b c d = omega arith

    up-1 : TOP ≤ n → (n ≡ NEGINF → ⊥) → n ≤ NEGINF → (n + 1) % TOP ≤ INF
    up-1 b c d = omega arith

    go : (t u v : Bool) → (t ≡ false → n ≡ NEGINF → ⊥) → (u ≡ false → n ≡ 0 → ⊥) → (T v → n < TOP) → (T (not v) → TOP ≤ n)
        → cond t n (cond u (TOP + 1) (cond v (n - 1) (n + 1))) % TOP ≤ INF
    go true u v a b c d = h
    go false true v a b c d = lit≤ tt
    go false false true a b c d = down-1 (c tt) (b refl) h
    go false false false a b c d = up-1 (d tt) (a refl) l

pub up-good : (x : Float) → T (fits binary64 x) → ne x x ≡ false → T (not (nan_bits binary64 (up_bits (to_bits binary64 x))))
up-good x f h = pattern-no-nan (up_bits (to_bits binary64 x)) (up_in (to_bits binary64 x) (bits-le x f h) (bits_in x f h))

pub down-good : (x : Float) → T (fits binary64 x) → ne x x ≡ false → T (not (nan_bits binary64 (down_bits (to_bits binary64 x))))
down-good x f h = pattern-no-nan (down_bits (to_bits binary64 x)) (down-in (to_bits binary64 x) (bits-le x f h) (bits_in x f h))

-- a number is finite exactly if it lies between the infinities
pub finite-between : (x : Float) → (lt (inf true) x && lt x (inf false)) ≡ finite x
unfolding lt
finite-between nan = refl
finite-between (inf true) = refl
finite-between (inf false) = refl
finite-between (fin s m e) = refl
