-- What refuses the stone that a body is for a sheet (W-201), and its whole number, in two models that are alike from the body on. They rest on the box and volume. Assumes nothing.
use Prim.Native.Nat.{ℕ, ◌+◌, ◌-◌}
use Rattle.std.specs.Prelude.{◌≡◌, Bool, true}
use Rattle.std.proofs.Math.Path.{refl, ap, ap₂}
use Rattle.std.proofs.Common.{subst}
use Rattle.std.proofs.Math.Bool.{◌&&◌}
use mathlib.Core.List.{[], List, ◌∷◌, map}
use Rattle.std.proofs.Math.Dec.{ltb}
use Rattle.std.proofs.Math.IntN.{◌+ℤ◌}
use Rattle.std.proofs.Math.ListN.{length}
use Rattle.geom_lines_planes.specs.Refuse.{◌unless◌, ◌then◌}
use Rattle.meaning.specs.Lists.{member}
use Rattle.meaning.specs.Model.{Model}
use Rattle.meaning.specs.Refuse.{◌if◌}
use Rattle.meaning.specs.Walks.{face_walk}
use Rattle.meaning.specs.Inquire.{require_polyhedral, Side, solid_sides, side_refusal, sides_refusal, volume_refusal}
use Rattle.meaning_sheets.specs.Sheets.{corner, whole_polygon, whole_side, whole_sum, six_volume, grid_points, grid_sides, triangles, stone_refusal}
use Rattle.meaning_list_laws.specs.Tests.{and_both, then-zero}
use Rattle.meaning_isolation.specs.Reached.{Alike}
use Rattle.meaning_isolation.specs.Laws.{then_same}
use Rattle.meaning_isolation.specs.Measured.{sides_in}
use Rattle.meaning_isolation.proofs.Measured.{sides-same, sides-walked, fins-same, points-same, volume-refused, volume-given}
use Rattle.meaning_isolation.specs.Weighed.{SameWeight}

module _ (m n : Model) (b : ℕ) (a : Alike m n b) where
  -- sides whose faces are walked and that are not refused
  weighed : require_polyhedral m b ≡ 0 → (l : List Side) → sides_in (face_walk m b) l ≡ true → sides_refusal m l ≡ 0 → SameWeight m n l l
  unfolding sides_refusal grid_sides triangles whole_sum whole_side
  weighed z [] h y = record { grid = refl; fans = refl; sum = refl }
  weighed z (s ∷ l) h y =
      let t = and_both (member s.face (face_walk m b)) (sides_in (face_walk m b) l) h in
      let p = then-zero (side_refusal m s) (sides_refusal m l) y in
      let rest = weighed z l t.1 p.1 in
      let points = points-same m n b a z s t.0 p.0 in
      record {
        grid = ap₂ ◌&&◌ (ap grid_points points) rest.grid;
        fans = ap₂ ◌+◌ (ap (λ (k : List ℕ). length k - 2) (fins-same m n b a z s t.0 p.0)) rest.fans;
        sum = ap₂ ◌+ℤ◌ (ap (λ k. whole_polygon (map corner k)) points) rest.sum;
      }

  -- those of a body whose volume is given
  body-weighed : volume_refusal m b ≡ 0 → SameWeight m n (solid_sides m b) (solid_sides n b)
  body-weighed y =
      let p = volume-given m n b a y in
      subst (SameWeight m n (solid_sides m b)) (sides-same m n b a p.0) (weighed p.0 (solid_sides m b) (sides-walked m n b a p.0) p.1)

  -- what refuses the stone, its whole number where nothing does, and the answer
  pub stone-refused : stone_refusal m b ≡ stone_refusal n b
  unfolding stone_refusal
  stone-refused =
      then_same (volume_refusal m b) (volume_refusal n b) _ _ (volume-refused m n b a)
      (λ y. ap₂ (λ (g : Bool) (k : ℕ). 5 unless g then 8 if ltb 4096 k) (body-weighed y).grid (body-weighed y).fans)

  pub six-volume-same : stone_refusal m b ≡ 0 → six_volume m b ≡ six_volume n b
  unfolding stone_refusal
  six-volume-same y = (body-weighed (then-zero (volume_refusal m b) _ y).0).sum
