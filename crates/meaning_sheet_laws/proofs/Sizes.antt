-- How large the whole numbers of a corner on the grid, of a side and of a body are: they rest on `sixteenths-size` of specs/Sizes.antt. Assumes nothing.
use Prim.Native.Nat.{ℕ, ◌-◌, ◌*◌, ◌^◌, ◌≤◌}
use Rattle.std.proofs.Common.{◌∙◌}
use native.Mathlib.Omega.{arith}
use Rattle.std.specs.Prelude.{◌≡◌, length}
use Rattle.std.proofs.Math.Path.{subst}
use mathlib.Core.List.{List, [], ◌∷◌, map}
use Rattle.std.proofs.Math.IntN.{nat_abs}
use Rattle.std.proofs.lemmas.List.{length-map}
use Rattle.float_vectors.specs.declared.vector.Point3.{Point3}
use Rattle.meaning.specs.Model.{Model}
use Rattle.meaning.specs.Inquire.{Side, solid_sides, rim}
use Rattle.meaning_sheets.specs.Sheets.{corner, side_points, whole_side, whole_sum, six_volume, triangles, stone_refusal}
use Rattle.meaning_sheet_laws.specs.Sizes.{size-sum, sixteenths-size, Small, AllSmall, polygon-size, points-length, stone-triangles}

pub corner-small : (p : Point3) → Small (corner p)
unfolding corner
corner-small p = record { x = sixteenths-size p.x; y = sixteenths-size p.y; z = sixteenths-size p.z }

pub corners-small : (l : List Point3) → AllSmall (map corner l)
unfolding AllSmall
corners-small [] = tt
corners-small (p ∷ l) = (corner-small p, corners-small l)

module _ (m : Model) where
  pub side-size : (s : Side) → nat_abs (whole_side m s) ≤ 3 * 2 ^ 48 * (length (rim m s.face) - 2)
  unfolding whole_side
  side-size s =
      subst (λ (n : ℕ). nat_abs (whole_side m s) ≤ 3 * 2 ^ 48 * (n - 2)) (length-map (side_points m s) corner ∙ points-length m s)
      (polygon-size (map corner (side_points m s)) (corners-small (side_points m s)))

  pub sum-size : (l : List Side) → nat_abs (whole_sum m l) ≤ 3 * 2 ^ 48 * triangles m l
  unfolding whole_sum triangles
  sum-size [] = omega arith
  sum-size (s ∷ l) = omega (arith, size-sum (whole_side m s) (whole_sum m l), side-size s, sum-size l)

  module _ (b : ℕ) where
    pub stone-size : triangles m (solid_sides m b) ≤ 4096 → nat_abs (six_volume m b) ≤ 3 * 2 ^ 60
    stone-size h = omega (arith, sum-size (solid_sides m b))

    pub stone-taken : stone_refusal m b ≡ 0 → nat_abs (six_volume m b) ≤ 3 * 2 ^ 60
    stone-taken h = stone-size (stone-triangles m b h)
