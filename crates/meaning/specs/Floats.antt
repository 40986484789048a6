-- What the crates below lack: whole numbers as floats, a quotient, the lesser and the greater. Each step is one IEEE 754 operation on binary64. Definitions only.
use Rattle.std.specs.Prelude.{ℕ, cond, pos, Float}
use Rattle.std.specs.Float.{binary64}
use Rattle.std.specs.Float.Ieee.{div, lt, of_int}
use Rattle.float_vectors.specs.declared.vector.Point3.{Point3}
use Rattle.float_vectors.specs.declared.vector.Vec3.{Vec3}

infixl 70 ◌/ᶠ◌
abbrev pub ◌/ᶠ◌ : Float → Float → Float
x /ᶠ y = div binary64 x y

-- a whole number as a float (Rust's `as f64`)
abbrev pub float_of : ℕ → Float
float_of n = of_int binary64 (pos n)

-- 01, "equal zeros keep the first met": of two that are equal, the first
abbrev pub lesser : Float → Float → Float
lesser a b = cond (lt b a) b a

abbrev pub greater : Float → Float → Float
greater a b = cond (lt a b) b a

-- the way from the origin to a point (vector.rs, `to_vec`)
abbrev pub to_vec : Point3 → Vec3
to_vec p = record { x = p.x; y = p.y; z = p.z }
