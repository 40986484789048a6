-- Points and vectors of floats (vector.rs). Each step is one IEEE 754 operation on binary64. Definitions only.
use Rattle.std.specs.Prelude.{Bool, ◌&&◌, Float}
use Rattle.std.specs.Float.{binary64}
use Rattle.std.specs.Float.Ieee.{add, sub, mul}
use Rattle.std.specs.Float.Ieee.Scale.{finite}
use Rattle.float_vectors.specs.declared.vector.Point3.{Point3}
use Rattle.float_vectors.specs.declared.vector.Vec3.{Vec3}

infixl 60 ◌+ᶠ◌
infixl 60 ◌-ᶠ◌
infixl 70 ◌*ᶠ◌
abbrev pub ◌+ᶠ◌ : Float → Float → Float
x +ᶠ y = add binary64 x y

abbrev pub ◌-ᶠ◌ : Float → Float → Float
x -ᶠ y = sub binary64 x y

abbrev pub ◌*ᶠ◌ : Float → Float → Float
x *ᶠ y = mul binary64 x y

-- `is_finite` of a point
unfoldable pub finite_point : Point3 → Bool
finite_point p = finite p.x && finite p.y && finite p.z

-- p - q, the way from q to p
unfoldable pub minus : Point3 → Point3 → Vec3
minus p q = record { x = p.x -ᶠ q.x; y = p.y -ᶠ q.y; z = p.z -ᶠ q.z }

-- p + v
unfoldable pub along : Point3 → Vec3 → Point3
along p v = record { x = p.x +ᶠ v.x; y = p.y +ᶠ v.y; z = p.z +ᶠ v.z }

-- v + w, v - w, v · s
unfoldable pub sum_v : Vec3 → Vec3 → Vec3
sum_v v w = record { x = v.x +ᶠ w.x; y = v.y +ᶠ w.y; z = v.z +ᶠ w.z }

unfoldable pub minus_v : Vec3 → Vec3 → Vec3
minus_v v w = record { x = v.x -ᶠ w.x; y = v.y -ᶠ w.y; z = v.z -ᶠ w.z }

unfoldable pub scaled_v : Vec3 → Float → Vec3
scaled_v v s = record { x = v.x *ᶠ s; y = v.y *ᶠ s; z = v.z *ᶠ s }

-- 01, "Dot products add x, y, z terms in that order"
unfoldable pub dot_v : Vec3 → Vec3 → Float
dot_v v w = v.x *ᶠ w.x +ᶠ v.y *ᶠ w.y +ᶠ v.z *ᶠ w.z

unfoldable pub cross_v : Vec3 → Vec3 → Vec3
cross_v v w =
    record {
      x = v.y *ᶠ w.z -ᶠ v.z *ᶠ w.y;
      y = v.z *ᶠ w.x -ᶠ v.x *ᶠ w.z;
      z = v.x *ᶠ w.y -ᶠ v.y *ᶠ w.x;
    }
