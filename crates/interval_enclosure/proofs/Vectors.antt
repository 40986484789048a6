-- A difference of points, and vectors of them: what holds of each sum and difference (`Enclose.antt`) holds of these. Assumes nothing.
use Rattle.std.specs.Prelude.{ℕ, ◌+◌, ◌*◌, ◌^◌, ◌≡◌, ◌↔◌, Bool, true, false, not, T, ℤ, pos, neg_ℤ, ◌+ℤ◌, ◌-ℤ◌, ◌*ℤ◌, Float}
use Rattle.std.proofs.Common.{sym, subst, pow_pos, pow-add}
use Rattle.std.specs.Float.{inf, fin, binary64}
use Rattle.std.specs.Float.Ieee.{fits, is_nan, up, down, le, lt}
use Rattle.std.specs.Float.Ieee.Fits.{and_l, and_r}
use Rattle.std.specs.Float.Ieee.Scale.{finite}
use Rattle.interval_arithmetic.specs.declared.Interval.{Interval}
use Rattle.interval_vectors.specs.declared.Interval3.{Interval3}
use Rattle.float_vectors.specs.declared.vector.Point3.{Point3}
use Rattle.float_vectors.specs.declared.vector.Vec3.{Vec3}
use Rattle.interval_arithmetic.specs.Ops.{point_i, add_i, sub_i, mul_i, neg_i, contains_i, sqr_i, sign_i}
use Rattle.interval_vectors.specs.Vectors.{difference_i, point_i3, vector_i, dot_i}
use Rattle.float_values.specs.Value.{ONE, units, value, Real}
use Rattle.interval_enclosure.specs.Value.{Holds, Whole3, minus_w, dot_w, value_p, value_v, RealP, RealV, Holds3, SignOf}
use Rattle.float_values.specs.Laws.Pairs.{plus, minus, over, under}
use Rattle.interval_enclosure.specs.Laws.Pairs.{In}
use Rattle.float_values.specs.Laws.Near.{own}
use Rattle.interval_enclosure.specs.Laws.Floats.{in_float}
use Rattle.float_order.specs.Next.{next_up, next_down}
use Rattle.float_values.specs.Laws.Adjacent as Adjacent
use Rattle.interval_enclosure.specs.Laws.Sums.{in-add, in-sub, in-neg, in-point}
use Rattle.interval_enclosure.specs.Laws.Products.{in-mul}
use Rattle.interval_enclosure.specs.Laws.Squares.{in-sqr, sign-says}
use Rattle.float_values.specs.Laws.Integers.{sum-parts, diff-parts, neg-parts, product-parts, over-scaled, under-scaled, over-value, under-value}
use Rattle.interval_enclosure.proofs.Laws.Integers.{to_in, of-in, in-rescaled, says-sign}
use Rattle.interval_enclosure.proofs.Enclose.{sub-encloses, point-holds}

pub difference-holds : (a b : Float) → Real a → Real b → Holds 1074 (difference_i a b) (value a -ℤ value b)
unfolding difference_i
difference-holds a b f g = sub-encloses 1074 (point_i a) (point_i b) (value a) (value b) (point-holds a f) (point-holds b g)

pub vector-holds : (p q : Point3) → RealP p → RealP q → Holds3 1074 (vector_i p q) (minus_w (value_p p) (value_p q))
unfolding vector_i
vector-holds p q f g =
    record {
      x = difference-holds p.x q.x f.x g.x;
      y = difference-holds p.y q.y f.y g.y;
      z = difference-holds p.z q.z f.z g.z;
    }
