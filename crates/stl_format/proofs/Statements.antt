-- Theorems that rest on those of specs/Statements.antt, and are proved by them. Assumes nothing.
use Rattle.std.specs.Prelude.{◌+◌, ◌-◌, ◌≡◌, Bool, true, false, cond, length, Float}
use Rattle.std.proofs.Common.{arith, ◌∙◌, length-append}
use Rattle.std.proofs.Math.Path.{refl, ap}
use mathlib.Core.List.{List, [], ◌∷◌, map, reverse}
use Rattle.std.proofs.lemmas.List.{length-map, length-reverse}
use Rattle.std.specs.Float.Ieee.{div, of_int}
use Rattle.interval_arithmetic.specs.Ops.{zero_f}
use Rattle.float_vectors.specs.declared.vector.Point3.{Point3}
use Rattle.float_vectors.specs.Space.{◌+ᶠ◌, minus, dot_v, cross_v}
use Rattle.meaning.specs.Floats.{◌/ᶠ◌, float_of, to_vec}
use Rattle.meaning.specs.Lists.{the}
use Rattle.meaning.specs.Model.{Model, point_of}
use Rattle.meaning.specs.Inquire.{Side, inward, rim, start_of, fan, polygon_volume, side_volume}
use Rattle.meaning_sheets.specs.Sheets.{side_points, triangles}
use Rattle.stl_format.specs.Stl.{Triangle, fan_triangles, polygon_triangles, side_triangles, triangles_of}
use Rattle.stl_format.specs.Laws.{polygon-length}
use Rattle.stl_format.specs.Statements.{cone_sum, fan-sum}

pub volume-of-triangles : (m : Model) (s : Side) → side_volume m s ≡ cone_sum zero_f (side_triangles m s) /ᶠ float_of 6
volume-of-triangles m s = told ∙ by (side_points m s) ∙ drawn
  where
    told : side_volume m s ≡ polygon_volume (side_points m s)
    told = unfold side_volume side_points in refl

    drawn : cone_sum zero_f (polygon_triangles (side_points m s)) /ᶠ float_of 6 ≡ cone_sum zero_f (side_triangles m s) /ᶠ float_of 6
    drawn = unfold side_triangles in refl

    by : (l : List Point3) → polygon_volume l ≡ cone_sum zero_f (polygon_triangles l) /ᶠ float_of 6
    by [] = unfold polygon_volume polygon_triangles cone_sum div of_int in refl
    by (o ∷ l) = unfold polygon_volume polygon_triangles in ap (λ a. a /ᶠ float_of 6) (fan-sum o zero_f l)
