-- The sign tests of `geom_signs` by a rule that says of two summands whether their sum stays. Definitions only, each the same expression as there, with the sums and differences by the rule.
-- W-205: "A sum or difference of finite bounds that is exact shall stay; any other moves."
use Rattle.std.specs.Prelude.{Bool, Float}
use Rattle.interval_arithmetic.specs.declared.Sign.{Sign}
use Rattle.interval_arithmetic.specs.Ops.{point_i, sqr_i, sign_i}
use Rattle.float_vectors.specs.declared.vector.Point3.{Point3}
use Rattle.float_vectors.specs.declared.vector.Vec3.{Vec3}
use Rattle.interval_vectors.specs.Vectors.{point_i3}
use Rattle.interval_narrowing.specs.Narrow.{add_by, sub_by, difference_by, vector_by, dot_by}
use Rattle.geom_lines_planes.specs.declared.surface.Plane.{Plane}

module _ (k : Float → Float → Bool) where
  unfoldable pub increasing_by : Vec3 → Point3 → Point3 → Sign
  increasing_by d start end = sign_i (dot_by k (vector_by k end start) (point_i3 d))

  unfoldable pub span_by : Float → Float → Sign
  span_by lo hi = sign_i (difference_by k hi lo)

  unfoldable pub apart_by : Point3 → Point3 → Float → Sign
  apart_by p q precision = sign_i (sub_by k (dot_by k (vector_by k p q) (vector_by k p q)) (sqr_i (point_i precision)))

  unfoldable pub off_plane_by : Plane → Point3 → Float → Sign
  off_plane_by s p tolerance = sign_i (sub_by k (sqr_i (dot_by k (point_i3 s.normal) (vector_by k p s.origin))) (sqr_i (point_i tolerance)))

  unfoldable pub off_curve_by : Point3 → Point3 → Float → Float → Sign
  off_curve_by p q vertex edge = sign_i (sub_by k (dot_by k (vector_by k p q) (vector_by k p q)) (sqr_i (add_by k (point_i vertex) (point_i edge))))
