-- The sign tests of euler.rs and gensolid-check, as intervals. Definitions only.
use Rattle.std.specs.Prelude.{Float}
use Rattle.interval_arithmetic.specs.declared.Sign.{Sign}
use Rattle.interval_arithmetic.specs.Ops.{point_i, add_i, sub_i, sqr_i, sign_i}
use Rattle.float_vectors.specs.declared.vector.Point3.{Point3}
use Rattle.float_vectors.specs.declared.vector.Vec3.{Vec3}
use Rattle.interval_vectors.specs.Vectors.{difference_i, point_i3, vector_i, dot_i}
use Rattle.geom_lines_planes.specs.declared.surface.Plane.{Plane}

-- 01, "Splitting", 7: "Interval of direction·(end - start)"
unfoldable pub increasing_s : Vec3 → Point3 → Point3 → Sign
increasing_s d start end = sign_i (dot_i (vector_i end start) (point_i3 d))

-- 01, "Splitting", 8: "interval hi - lo"
unfoldable pub span_s : Float → Float → Sign
span_s lo hi = sign_i (difference_i hi lo)

-- 01, "Splitting", 10: "squared distance (a dot product) less squared precision"
unfoldable pub apart_s : Point3 → Point3 → Float → Sign
apart_s p q precision = sign_i (sub_i (dot_i (vector_i p q) (vector_i p q)) (sqr_i (point_i precision)))

-- 01, "Splitting", 11: "squared plane distance less squared edge tolerance"
unfoldable pub off_plane_s : Plane → Point3 → Float → Sign
off_plane_s s p tolerance = sign_i (sub_i (sqr_i (dot_i (point_i3 s.normal) (vector_i p s.origin))) (sqr_i (point_i tolerance)))

-- 01, "Off curve": "the interval dot product of (vertex - nearest point) with itself, less the squared interval sum of both tolerances"
unfoldable pub off_curve_s : Point3 → Point3 → Float → Float → Sign
off_curve_s p q vertex edge = sign_i (sub_i (dot_i (vector_i p q) (vector_i p q)) (sqr_i (add_i (point_i vertex) (point_i edge))))
