-- `==` of finite floats is that their numbers are the same. Assumes nothing.
use Rattle.std.specs.Prelude.{◌≡◌, ℕ, ◌+◌, ◌*◌, Bool, true, false, ◌&&◌, ◌||◌, T, eqb, Float}
use Rattle.std.proofs.Common.{sym, ◌∙◌, inl, inr, le_of_eq, le_antisymm, arith, eqb→eq}
use Rattle.std.specs.Bool.{beq}
use Rattle.std.specs.Float.{nan, inf, fin, binary64}
use Rattle.std.specs.Float.Ieee.{fits, up, down, eq, le, lt}
use Rattle.std.specs.Float.Ieee.Fits.{and_l, and_r, and_i, eq→eqb}
use Rattle.std.specs.Float.Ieee.Scale.{finite}
use Rattle.float_values.specs.Value.{units}
use Rattle.float_values.specs.Laws.Small.{or_split, or_right}
use Rattle.float_values.specs.Laws.Pairs.{plus, minus}
use Rattle.float_values.specs.Laws.Floats.{numbers, of-numbers}
use Rattle.float_values.specs.Laws.Adjacent.{lt-le-clash}

level-turned : (s t : Bool) (a b : ℕ) → T (eqb a b && (beq s t || eqb a 0)) → T (eqb b a && (beq t s || eqb b 0))
level-turned s t a b h =
    let e = eqb→eq a b (and_l (eqb a b) (beq s t || eqb a 0) h) in
    and_i (eqb b a) (beq t s || eqb b 0) (eq→eqb (sym e)) (go s t (and_r (eqb a b) (beq s t || eqb a 0) h))
  where
    zero-too : T (eqb a 0) → T (eqb b 0)
    zero-too z = eq→eqb (sym (eqb→eq a b (and_l (eqb a b) (beq s t || eqb a 0) h)) ∙ eqb→eq a 0 z)

    go : (s t : Bool) → T (beq s t || eqb a 0) → T (beq t s || eqb b 0)
    go true true h = tt
    go true false h = zero-too h
    go false true h = zero-too h
    go false false h = tt

turned : (x y : Float) → T (eq x y) → T (eq y x)
unfolding eq
turned nan y h = absurd h
turned (inf s) nan h = absurd h
turned (inf true) (inf true) h = tt
turned (inf true) (inf false) h = h
turned (inf false) (inf true) h = h
turned (inf false) (inf false) h = tt
turned (inf s) (fin t n d) h = absurd h
turned (fin s m e) nan h = absurd h
turned (fin s m e) (inf t) h = absurd h
turned (fin s m e) (fin t n d) h = level-turned s t (m * up e * down d) (n * up d * down e) h

eq-le : (x y : Float) → T (eq x y) → T (le x y)
unfolding le
eq-le x y h = or_right (lt x y) (eq x y) h

pub le-le-eq : (x y : Float) → T (le x y) → T (le y x) → T (eq x y)
unfolding le
le-le-eq x y h k = elim (or_split (lt x y) (eq x y) h) [ inl t ↦ absurd (lt-le-clash x y t k) | inr t ↦ t ]

pub eq-finite : (x y : Float) → T (finite y) → T (eq x y) → T (finite x)
unfolding eq
eq-finite nan y f h = h
eq-finite (inf s) nan f h = h
eq-finite (inf s) (inf t) f h = absurd f
eq-finite (inf s) (fin t n d) f h = h
eq-finite (fin s m e) y f h = tt

module _ (x y : Float) (fx : T (fits binary64 x)) (fy : T (fits binary64 y)) (gx : T (finite x)) (gy : T (finite y)) where
  pub same_number : T (eq x y) → plus x + minus y ≡ plus y + minus x
  same_number h = le_antisymm (numbers x y fx fy gx gy (eq-le x y h)) (numbers y x fy fx gy gx (eq-le y x (turned x y h)))

  pub of-same-number : plus x + minus y ≡ plus y + minus x → T (eq x y)
  of-same-number e = le-le-eq x y (of-numbers x y fx fy gx gy (le_of_eq e)) (of-numbers y x fy fx gy gx (le_of_eq (sym e)))

pub same_units : (x y : Float) → T (finite x) → T (finite y) → plus x + minus y ≡ plus y + minus x → units x ≡ units y
same_units nan y f g h = absurd f
same_units (inf s) y f g h = absurd f
same_units (fin s m e) nan f g h = absurd g
same_units (fin s m e) (inf t) f g h = absurd g
same_units (fin true m e) (fin true n d) f g h = omega arith
same_units (fin true m e) (fin false n d) f g h = omega arith
same_units (fin false m e) (fin true n d) f g h = omega arith
same_units (fin false m e) (fin false n d) f g h = omega arith
