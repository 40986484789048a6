-- Coordinates of the grid that are equal as numbers are one number of sixteenths, so that of two points that differ in one coordinate alone the way is along an axis in sixteenths too. Assumes nothing.
use Rattle.std.specs.Prelude.{ℕ, ◌+◌, ◌*◌, ◌^◌, ◌<◌, ◌≡◌, refl, ◌⊎◌, Bool, true, false, cond, ◌||◌, eqb, ℤ, pos, ◌-ℤ◌, ◌*ℤ◌, Float}
use Rattle.std.proofs.Common.{arith, mul_right_comm, zero-mul, sym, ap, ◌∙◌, inl, inr, eqb-true}
use Rattle.std.proofs.Math.Nat.{eq_of_mul-eq-mul_right}
use Rattle.std.specs.Bool.{beq}
use Rattle.std.proofs.lemmas.Bool.{false≢true}
use Rattle.std.proofs.Math.IntN.{+ℤ_invr, zero-*ℤ, *ℤ-zero}
use Rattle.std.specs.Float.{nan, inf, fin}
use Rattle.std.specs.Float.Ieee.{up, down, eq}
use Rattle.std.specs.Float.Ieee.Fits.{down_pos}
use Rattle.float_grid.specs.Grid.{on_grid, signed, sixteenths}
use Rattle.meaning_list_laws.specs.Tests.{and_both}
use Rattle.meaning_sheet_floats.specs.Exactly.{grid-exactly}
use Rattle.meaning_slabs.specs.Slabs.{Spot}
use Rattle.meaning_slab_areas.specs.Usual.{bend}

-- ---- floats

-- a / d and b / e, which are equal, in k-ths: they are P and Q of them
module _ (a b d e k P Q : ℕ) (d-pos : 0 < d) (e-pos : 0 < e) (same : a * e ≡ b * d) (first : a * k ≡ P * d) (second : b * k ≡ Q * e) where
  scaled : P * d * e ≡ a * e * k
  scaled = ap (λ n. n * e) (sym first) ∙ mul_right_comm a k e

  sizes : P ≡ Q
  sizes =
      eq_of_mul-eq-mul_right d d-pos P Q
      (eq_of_mul-eq-mul_right e e-pos (P * d) (Q * d) (scaled ∙ ap (λ n. n * k) same ∙ mul_right_comm b d k ∙ ap (λ n. n * d) second ∙ mul_right_comm Q e d))

  nothing : a * e ≡ 0 → P ≡ 0
  nothing z = eq_of_mul-eq-mul_right d d-pos P 0 (eq_of_mul-eq-mul_right e e-pos (P * d) (0 * d) (scaled ∙ ap (λ n. n * k) z ∙ zero-mul k ∙ sym (ap (λ n. n * e) (zero-mul d) ∙ zero-mul e)))

  signs : (s t : Bool) → (beq s t || eqb (a * e) 0) ≡ true → signed s P ≡ signed t Q
  signs true true h = ap (signed true) sizes
  signs false false h = ap (signed false) sizes
  signs true false h = ap (signed true) (nothing (eqb-true (a * e) 0 h)) ∙ ap (signed false) (sym (nothing (eqb-true (a * e) 0 h)) ∙ sizes)
  signs false true h = ap (signed false) (nothing (eqb-true (a * e) 0 h)) ∙ ap (signed true) (sym (nothing (eqb-true (a * e) 0 h)) ∙ sizes)

-- both zeros are 0
pub equal-sixteenths : (x y : Float) → on_grid x ≡ true → on_grid y ≡ true → eq x y ≡ true → sixteenths x ≡ sixteenths y
unfolding eq
equal-sixteenths nan y g h e = absurd (false≢true e)
equal-sixteenths (inf s) nan g h e = absurd (false≢true e)
equal-sixteenths (inf s) (inf t) g h e = absurd (grid-exactly (inf s) g).value
equal-sixteenths (inf s) (fin t n d) g h e = absurd (false≢true e)
equal-sixteenths (fin s m k) nan g h e = absurd (false≢true e)
equal-sixteenths (fin s m k) (inf t) g h e = absurd (false≢true e)
equal-sixteenths (fin s m k) (fin t n d) g h e =
    let p = grid-exactly (fin s m k) g in
    let q = grid-exactly (fin t n d) h in
    let both = and_both (eqb (m * up k * down d) (n * up d * down k)) (beq s t || eqb (m * up k * down d) 0) e in
    p.number
    ∙ ap (λ (b : Bool). signed b p.size) (sym p.value.0)
    ∙ signs (m * up k) (n * up d) (down k) (down d) (2 ^ 4) p.size q.size (down_pos k) (down_pos d) (eqb-true _ _ both.0) p.value.1 q.value.1 s t both.1
    ∙ ap (λ (b : Bool). signed b q.size) q.value.0
    ∙ sym q.number

-- ---- points

-- one of the two coordinates stays
abbrev pub Stays : Spot → Spot → Type 0
Stays p q = (p.u ≡ q.u) ⊎ (p.v ≡ q.v)

pub stays-straight : (p q : Spot) → Stays p q → bend p q ≡ pos 0
stays-straight p q (inl e) = ap (λ (z : ℤ). (q.u -ℤ z) *ℤ (q.v -ℤ p.v)) e ∙ ap (λ (z : ℤ). z *ℤ (q.v -ℤ p.v)) (+ℤ_invr q.u) ∙ zero-*ℤ (q.v -ℤ p.v)
stays-straight p q (inr e) = ap (λ (z : ℤ). (q.u -ℤ p.u) *ℤ (q.v -ℤ z)) e ∙ ap (λ (z : ℤ). (q.u -ℤ p.u) *ℤ z) (+ℤ_invr q.v) ∙ *ℤ-zero (q.u -ℤ p.u)

pub stays-back : (p q : Spot) → Stays p q → Stays q p
stays-back p q (inl e) = inl (sym e)
stays-back p q (inr e) = inr (sym e)

pub either : {A B : Type 0} (x y : Bool) → (x ≡ true → A) → (y ≡ true → B) → (x || y) ≡ true → A ⊎ B
either true y f g h = inl (f refl)
either false y f g h = inr (g h)

-- of three coordinates one differs: of any two, one stays
pub record Two (x y z : Bool) : Type 0 where
  pub xy : (x || y) ≡ true
  pub xz : (x || z) ≡ true
  pub yz : (y || z) ≡ true

pub two : (x y z : Bool) → cond x 0 1 + cond y 0 1 + cond z 0 1 ≡ 1 → Two x y z
two true true z h = record { xy = refl; xz = refl; yz = refl }
two true false true h = record { xy = refl; xz = refl; yz = refl }
two true false false h = absurd (omega (arith, h))
two false true true h = record { xy = refl; xz = refl; yz = refl }
two false true false h = absurd (omega (arith, h))
two false false z h = absurd (by z h)
  where
    by : (z : Bool) → 1 + 1 + cond z 0 1 ≡ 1 → ⊥
    by true h = omega (arith, h)
    by false h = omega (arith, h)
