-- Vectors of intervals (`vector` and `dot` of polyhedron.rs). Definitions only.
use Rattle.std.specs.Prelude.{Float}
use Rattle.interval_arithmetic.specs.declared.Interval.{Interval}
use Rattle.interval_arithmetic.specs.Ops.{point_i, add_i, sub_i, mul_i}
use Rattle.float_vectors.specs.declared.vector.Point3.{Point3}
use Rattle.float_vectors.specs.declared.vector.Vec3.{Vec3}
use Rattle.interval_vectors.specs.declared.Interval3.{Interval3}

-- a vector of floats, each an interval of one number
unfoldable pub point_i3 : Vec3 → Interval3
point_i3 v = record { x = point_i v.x; y = point_i v.y; z = point_i v.z }

-- a - b, of two floats
unfoldable pub difference_i : Float → Float → Interval
difference_i a b = sub_i (point_i a) (point_i b)

-- p - q (polyhedron.rs, `vector`)
unfoldable pub vector_i : Point3 → Point3 → Interval3
vector_i p q = record { x = difference_i p.x q.x; y = difference_i p.y q.y; z = difference_i p.z q.z }

-- polyhedron.rs, `dot`
unfoldable pub dot_i : Interval3 → Interval3 → Interval
dot_i a b = add_i (add_i (mul_i a.x b.x) (mul_i a.y b.y)) (mul_i a.z b.z)
