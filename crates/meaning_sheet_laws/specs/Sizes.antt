-- How large the whole numbers of the stone sheet are: of the grid, of a wedge and each step to it, of a side, of a body. Assumes nothing.
use Prim.Native.Nat.{ℕ, zero, suc, ◌+◌, ◌-◌, ◌*◌, ◌/◌, ◌%◌, ◌^◌, ◌≤◌, ◌<◌}
use Rattle.std.proofs.Common.{mul-le-mul, ◌∙◌, ltb→lt, leb-true, ltb-false}
use native.Mathlib.Omega.{arith}
use Rattle.std.specs.Prelude.{◌≡◌, refl, Bool, true, false, cond, ◌&&◌, T, eqb, leb, ℤ, pos, negsuc, neg_ℤ, ◌+ℤ◌, ◌-ℤ◌, ◌*ℤ◌, length, Float}
use Rattle.std.proofs.Math.Path.{sym, subst}
use mathlib.Core.List.{List, [], ◌∷◌, ◌++◌, map, reverse}
use Rattle.std.proofs.Math.Dec.{ltb}
use Rattle.std.proofs.Math.IntN.{nat_abs, sub_ℕ, +ℤ_idl, +ℤ_idr, +ℤ_assoc}
use Rattle.std.proofs.lemmas.List.{length-map, length-reverse}
use Rattle.std.specs.Float.{nan, inf, fin}
use Rattle.std.specs.Float.Ieee.{up, down}
use Rattle.float_grid.specs.Grid.{on_grid, signed, counted, sixteenths}
use Rattle.float_vectors.specs.declared.vector.Point3.{Point3}
use Rattle.geom_lines_planes.specs.Refuse.{◌unless◌}
use Rattle.meaning.specs.Lists.{the}
use Rattle.meaning.specs.Model.{Model, point_of}
use Rattle.meaning.specs.Refuse.{◌if◌}
use Rattle.meaning.specs.Inquire.{Side, solid_sides, rim, start_of, inward, volume_refusal}
use Rattle.meaning_list_laws.specs.Tests.{and-true, and_assoc, then-zero}
use Rattle.meaning_sheets.specs.Sheets.{Corner, minus_c, dot_c, cross_c, wedge, whole_fan, whole_polygon, side_points, whole_side, whole_sum, grid_points, grid_sides, triangles, stone_refusal}

-- ---- sizes of sums, differences and products

pub size-neg : (a : ℤ) → nat_abs (neg_ℤ a) ≡ nat_abs a
size-neg (pos zero) = refl
size-neg (pos (suc n)) = refl
size-neg (negsuc n) = refl

sub-size : (a b : ℕ) → nat_abs (sub_ℕ a b) ≤ a + b
sub-size a b = go (ltb a b) (ltb→lt a b)
  where
    low : a < b → suc (b - suc a) ≤ a + b
    low h = omega arith

    go : (t : Bool) → (T t → a < b) → nat_abs (cond t (negsuc (b - suc a)) (pos (a - b))) ≤ a + b
    go true f = low (f tt)
    go false f = omega arith

pub size-sum : (a b : ℤ) → nat_abs (a +ℤ b) ≤ nat_abs a + nat_abs b
size-sum (pos a) (pos b) = omega arith
size-sum (pos a) (negsuc b) = sub-size a (suc b)
size-sum (negsuc a) (pos b) = omega (arith, sub-size b (suc a))
size-sum (negsuc a) (negsuc b) = omega arith

pub size-difference : (a b : ℤ) → nat_abs (a -ℤ b) ≤ nat_abs a + nat_abs b
size-difference a b = subst (λ (n : ℕ). nat_abs (a -ℤ b) ≤ nat_abs a + n) (size-neg b) (size-sum a (neg_ℤ b))

pub size-product : (a b : ℤ) → nat_abs (a *ℤ b) ≡ nat_abs a * nat_abs b
size-product (pos a) (pos b) = refl
size-product (pos a) (negsuc b) = size-neg (pos (a * suc b))
size-product (negsuc a) (pos b) = size-neg (pos (suc a * b))
size-product (negsuc a) (negsuc b) = refl

-- the same with a bound of each part
pub sum-within : (n k : ℕ) (a b : ℤ) → nat_abs a ≤ n → nat_abs b ≤ k → nat_abs (a +ℤ b) ≤ n + k
sum-within n k a b h g = omega (arith, size-sum a b)

pub difference-within : (n k : ℕ) (a b : ℤ) → nat_abs a ≤ n → nat_abs b ≤ k → nat_abs (a -ℤ b) ≤ n + k
difference-within n k a b h g = omega (arith, size-difference a b)

pub product-within : (n k : ℕ) (a b : ℤ) → nat_abs a ≤ n → nat_abs b ≤ k → nat_abs (a *ℤ b) ≤ n * k
product-within n k a b h g = rw (size-product a b) (mul-le-mul h g)

-- ---- the grid

signed-size : (s : Bool) (n : ℕ) → nat_abs (signed s n) ≡ n
signed-size true n = size-neg (pos n)
signed-size false n = refl

-- "at most 2,048 mm in size"; off the grid it is 0
pub sixteenths-size : (x : Float) → nat_abs (sixteenths x) ≤ 32768
unfolding sixteenths on_grid
sixteenths-size nan = omega arith
sixteenths-size (inf s) = omega arith
sixteenths-size (fin s m e) = by (eqb (m * up e * 16 % down e) 0) (leb n 32768) (leb-true n 32768)
  where
    n : ℕ
    n = m * up e * 16 / down e

    by : (a b : Bool) → (b ≡ true → n ≤ 32768) → nat_abs (counted (a && b) s n) ≤ 32768
    by true true f = rw (signed-size s n) (f refl)
    by true false f = omega arith
    by false b f = omega arith

-- a corner, or a vector between corners, of which no coordinate is larger than n
pub record Within (n : ℕ) (c : Corner) : Type 0 where
  pub x : nat_abs c.x ≤ n
  pub y : nat_abs c.y ≤ n
  pub z : nat_abs c.z ≤ n

abbrev pub Small : Corner → Type 0
Small = Within 32768

-- ---- a wedge, step by step: each bound is the one before, as the code meets them

-- p - o
pub arm-size : (a b : ℤ) → nat_abs a ≤ 32768 → nat_abs b ≤ 32768 → nat_abs (a -ℤ b) ≤ 65536
arm-size = difference-within 32768 32768

-- the two products of a component of (p - o) × (q - o)
pub area-size : (a b : ℤ) → nat_abs a ≤ 65536 → nat_abs b ≤ 65536 → nat_abs (a *ℤ b) ≤ 2 ^ 32
area-size = product-within 65536 65536

-- the component
pub cross-size : (a b : ℤ) → nat_abs a ≤ 2 ^ 32 → nat_abs b ≤ 2 ^ 32 → nat_abs (a -ℤ b) ≤ 2 ^ 33
cross-size = difference-within (2 ^ 32) (2 ^ 32)

-- a coordinate of o times a component
pub term-size : (a b : ℤ) → nat_abs a ≤ 32768 → nat_abs b ≤ 2 ^ 33 → nat_abs (a *ℤ b) ≤ 2 ^ 48
term-size = product-within 32768 (2 ^ 33)

pub two-terms : (a b : ℤ) → nat_abs a ≤ 2 ^ 48 → nat_abs b ≤ 2 ^ 48 → nat_abs (a +ℤ b) ≤ 2 ^ 49
two-terms = sum-within (2 ^ 48) (2 ^ 48)

pub three-terms : (a b : ℤ) → nat_abs a ≤ 2 ^ 49 → nat_abs b ≤ 2 ^ 48 → nat_abs (a +ℤ b) ≤ 3 * 2 ^ 48
three-terms = sum-within (2 ^ 49) (2 ^ 48)

pub minus-within : (p q : Corner) → Small p → Small q → Within 65536 (minus_c p q)
unfolding minus_c
minus-within p q h g = record { x = arm-size p.x q.x h.x g.x; y = arm-size p.y q.y h.y g.y; z = arm-size p.z q.z h.z g.z }

pub part-size : (a b c d : ℤ) → nat_abs a ≤ 65536 → nat_abs b ≤ 65536 → nat_abs c ≤ 65536 → nat_abs d ≤ 65536 → nat_abs (a *ℤ b -ℤ c *ℤ d) ≤ 2 ^ 33
part-size a b c d h g k i = cross-size (a *ℤ b) (c *ℤ d) (area-size a b h g) (area-size c d k i)

pub cross-within : (v w : Corner) → Within 65536 v → Within 65536 w → Within (2 ^ 33) (cross_c v w)
unfolding cross_c
cross-within v w h g =
    record {
      x = part-size v.y w.z v.z w.y h.y g.z h.z g.y;
      y = part-size v.z w.x v.x w.z h.z g.x h.x g.z;
      z = part-size v.x w.y v.y w.x h.x g.y h.y g.x;
    }

pub dot-size : (o v : Corner) → Small o → Within (2 ^ 33) v → nat_abs (dot_c o v) ≤ 3 * 2 ^ 48
unfolding dot_c
dot-size o v h g =
    three-terms (o.x *ℤ v.x +ℤ o.y *ℤ v.y) (o.z *ℤ v.z)
    (two-terms (o.x *ℤ v.x) (o.y *ℤ v.y) (term-size o.x v.x h.x g.x) (term-size o.y v.y h.y g.y))
    (term-size o.z v.z h.z g.z)

pub wedge-size : (o p q : Corner) → Small o → Small p → Small q → nat_abs (wedge o p q) ≤ 3 * 2 ^ 48
unfolding wedge
wedge-size o p q h g k = dot-size o _ h (cross-within _ _ (minus-within p o g h) (minus-within q o k h))

-- ---- fans, sides and bodies

unfoldable pub AllSmall : List Corner → Type 0
AllSmall [] = Unit {0}
AllSmall (c ∷ l) = Small c × AllSmall l

pub fan-size : (o : Corner) (l : List Corner) → Small o → AllSmall l → nat_abs (whole_fan o l) ≤ 3 * 2 ^ 48 * (length l - 1)
unfolding whole_fan AllSmall
fan-size o [] h g = omega arith
fan-size o (p ∷ []) h g = omega arith
fan-size o (p ∷ q ∷ l) h g = omega (arith, size-sum (wedge o p q) (whole_fan o (q ∷ l)), wedge-size o p q h g.0 g.1.0, fan-size o (q ∷ l) h g.1)

-- one triangle more, as a loop over the points meets it
pub fan-more : (o : Corner) (l : List Corner) (p q : Corner) → whole_fan o (l ++ (p ∷ q ∷ [])) ≡ whole_fan o (l ++ (p ∷ [])) +ℤ wedge o p q
unfolding whole_fan
fan-more o [] p q = +ℤ_idr (wedge o p q) ∙ sym (+ℤ_idl (wedge o p q))
fan-more o (a ∷ []) p q = rw (fan-more o [] p q) (sym (+ℤ_assoc (wedge o a p) (whole_fan o (p ∷ [])) (wedge o p q)))
fan-more o (a ∷ b ∷ l) p q = rw (fan-more o (b ∷ l) p q) (sym (+ℤ_assoc (wedge o a b) (whole_fan o (b ∷ l ++ (p ∷ []))) (wedge o p q)))

pub polygon-size : (l : List Corner) → AllSmall l → nat_abs (whole_polygon l) ≤ 3 * 2 ^ 48 * (length l - 2)
unfolding whole_polygon AllSmall
polygon-size [] g = omega arith
polygon-size (o ∷ l) g = omega (arith, fan-size o l g.0 g.1)

module _ (m : Model) where
  -- a side's fan has as many points as its rim has fins
  pub points-length : (s : Side) → length (side_points m s) ≡ length (rim m s.face)
  unfolding side_points
  points-length s = by (inward m s)
    where
      points : List Point3
      points = map (λ i. point_of m (the (start_of m i))) (rim m s.face)

      by : (b : Bool) → length (cond b (reverse points) points) ≡ length (rim m s.face)
      by true = length-reverse points ∙ length-map (rim m s.face) _
      by false = length-map (rim m s.face) _

  module _ (b : ℕ) where
    pub stone-triangles : stone_refusal m b ≡ 0 → triangles m (solid_sides m b) ≤ 4096
    unfolding stone_refusal
    stone-triangles h = few (ltb 4096 n) (ltb-false 4096 n) (then-zero (5 unless grid_sides m (solid_sides m b)) (8 if ltb 4096 n) (then-zero (volume_refusal m b) _ h).1).1
      where
        n : ℕ
        n = triangles m (solid_sides m b)

        few : (t : Bool) → (t ≡ false → n ≤ 4096) → 8 if t ≡ 0 → n ≤ 4096
        few true f z = absurd (omega arith)
        few false f z = f refl

  -- ---- one side more, as a loop over the sides meets it

  pub sum_more : (l : List Side) (s : Side) → whole_sum m (l ++ (s ∷ [])) ≡ whole_sum m l +ℤ whole_side m s
  unfolding whole_sum
  sum_more [] s = +ℤ_idr (whole_side m s) ∙ sym (+ℤ_idl (whole_side m s))
  sum_more (t ∷ l) s = rw (sum_more l s) (sym (+ℤ_assoc (whole_side m t) (whole_sum m l) (whole_side m s)))

  pub triangles-more : (l : List Side) (s : Side) → triangles m (l ++ (s ∷ [])) ≡ triangles m l + (length (rim m s.face) - 2)
  unfolding triangles
  triangles-more [] s = omega arith
  triangles-more (t ∷ l) s = rw (triangles-more l s) (omega arith)

  pub grid-more : (l : List Side) (s : Side) → grid_sides m (l ++ (s ∷ [])) ≡ (grid_sides m l && grid_points (side_points m s))
  unfolding grid_sides
  grid-more [] s = and-true (grid_points (side_points m s))
  grid-more (t ∷ l) s = rw (grid-more l s) (sym (and_assoc (grid_points (side_points m t)) (grid_sides m l) (grid_points (side_points m s))))
