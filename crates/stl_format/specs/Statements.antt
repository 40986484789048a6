-- What holds of the triangles: how many they are, and that the volume is the sum over them. Assumes nothing.
use Rattle.std.specs.Prelude.{◌+◌, ◌-◌, ◌≡◌, Bool, true, false, cond, length, Float}
use Rattle.std.proofs.Common.{arith, ◌∙◌, length-append}
use Rattle.std.proofs.Math.Path.{refl, ap}
use mathlib.Core.List.{List, [], ◌∷◌, map, reverse}
use Rattle.std.proofs.lemmas.List.{length-map, length-reverse}
use Rattle.std.specs.Float.Ieee.{div, of_int}
use Rattle.interval_arithmetic.specs.Ops.{zero_f}
use Rattle.float_vectors.specs.declared.vector.Point3.{Point3}
use Rattle.float_vectors.specs.Space.{◌+ᶠ◌, minus, dot_v, cross_v}
use Rattle.meaning.specs.Floats.{◌/ᶠ◌, float_of, to_vec}
use Rattle.meaning.specs.Lists.{the}
use Rattle.meaning.specs.Model.{Model, point_of}
use Rattle.meaning.specs.Inquire.{Side, inward, rim, start_of, fan, polygon_volume, side_volume}
use Rattle.meaning_sheets.specs.Sheets.{side_points, triangles}
use Rattle.stl_format.specs.Stl.{Triangle, fan_triangles, polygon_triangles, side_triangles, triangles_of}
use Rattle.stl_format.specs.Laws.{polygon-length}

-- "The count equals fins minus two, added over the faces taken"
pub count-is : (m : Model) (l : List Side) → length (triangles_of m l) ≡ triangles m l
unfolding triangles_of triangles side_triangles
count-is m [] = refl
count-is m (s ∷ l) =
    let a = length-append (polygon_triangles (side_points m s)) (triangles_of m l) in
    let b = polygon-length (side_points m s) in
    let d = points-length m s in
    let c = count-is m l in
    omega arith
  where
    points-length : (m : Model) (s : Side) → length (side_points m s) ≡ length (rim m s.face)
    points-length m s = unfold side_points in by (inward m s)
      where
        points : List Point3
        points = map (λ i. point_of m (the (start_of m i))) (rim m s.face)

        by : (b : Bool) → length (cond b (reverse points) points) ≡ length (rim m s.face)
        by true = length-reverse points ∙ length-map (rim m s.face) (λ i. point_of m (the (start_of m i)))
        by false = length-map (rim m s.face) (λ i. point_of m (the (start_of m i)))

-- "the fans that volume uses": a side's volume is the sum over its triangles, from the first on, divided by six
unfoldable pub cone_sum : Float → List Triangle → Float
cone_sum acc [] = acc
cone_sum acc (t ∷ l) = cone_sum (acc +ᶠ dot_v (to_vec t.a) (cross_v (minus t.b t.a) (minus t.c t.a))) l

pub fan-sum : (o : Point3) (acc : Float) (l : List Point3) → fan o acc l ≡ cone_sum acc (fan_triangles o l)
unfolding fan fan_triangles cone_sum
fan-sum o acc [] = refl
fan-sum o acc (p ∷ []) = refl
fan-sum o acc (p ∷ q ∷ l) = fan-sum o (acc +ᶠ dot_v (to_vec o) (cross_v (minus p o) (minus q o))) (q ∷ l)
