-- The points of a fan, and one of its triangles. No reader of a public promise needs this file. Definitions only.
use Rattle.std.specs.Prelude.{Bool, cond, List, reverse, Float}
use Rattle.interval_arithmetic.specs.Ops.{zero_f}
use Rattle.float_vectors.specs.declared.vector.Point3.{Point3}
use Rattle.float_vectors.specs.Space.{minus, dot_v, cross_v}
use Rattle.meaning.specs.Floats.{to_vec}

abbrev pub origin_p : Point3
origin_p = record { x = zero_f; y = zero_f; z = zero_f }

-- 01, "a front side reverses the points"
unfoldable pub turned : Bool → List Point3 → List Point3
turned back l = cond back (reverse l) l

-- a triangle of the fan, as `Inquire.fan` adds it
unfoldable pub wedge : Point3 → Point3 → Point3 → Float
wedge o p q = dot_v (to_vec o) (cross_v (minus p o) (minus q o))
