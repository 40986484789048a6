-- Intervals within intervals, and the operations of which a rule says which sums stay. Definitions only. No reader of a public promise needs this file:
-- it is what the laws beside it compare the intervals of `interval_arithmetic` with.
-- W-205: "A sum or difference of finite bounds that is exact shall stay; any other moves." A rule k says of two summands whether their sum stays. The laws hold for every rule.
use Rattle.std.specs.Prelude.{Bool, false, cond, T, Float}
use Rattle.std.specs.Float.{binary64}
use Rattle.std.specs.Float.Ieee.{add, neg, le}
use Rattle.float_order.specs.Next.{next_up, next_down}
use Rattle.float_vectors.specs.declared.vector.Point3.{Point3}
use Rattle.interval_arithmetic.specs.declared.Interval.{Interval}
use Rattle.interval_arithmetic.specs.Ops.{checked_i, point_i, mul_i}
use Rattle.interval_vectors.specs.declared.Interval3.{Interval3}

-- the bounds are in their order, so that neither is a NaN
abbrev pub Sound : Interval → Type 0
Sound x = T (le x.lo x.hi)

-- x lies in y
pub record Within (x y : Interval) : Type 0 where
  pub sound : Sound x
  pub low : T (le y.lo x.lo)
  pub high : T (le x.hi y.hi)

pub record Within3 (v w : Interval3) : Type 0 where
  pub x : Within v.x w.x
  pub y : Within v.y w.y
  pub z : Within v.z w.z

-- the old rule, under which every sum moves
abbrev pub never : Float → Float → Bool
never a b = false

-- ---- the sums and differences by the rule k. A difference is the sum with the other's negative
module _ (k : Float → Float → Bool) where
  abbrev pub low_by : Float → Float → Float
  low_by a b = let s = add binary64 a b in cond (k a b) s (next_down s)

  abbrev pub high_by : Float → Float → Float
  high_by a b = let s = add binary64 a b in cond (k a b) s (next_up s)

  unfoldable pub add_by : Interval → Interval → Interval
  add_by x y = checked_i (low_by x.lo y.lo) (high_by x.hi y.hi)

  unfoldable pub sub_by : Interval → Interval → Interval
  sub_by x y = checked_i (low_by x.lo (neg y.hi)) (high_by x.hi (neg y.lo))

  -- `difference_i`, `vector_i` and `dot_i` of interval_vectors, with the sums and differences by k
  unfoldable pub difference_by : Float → Float → Interval
  difference_by a b = sub_by (point_i a) (point_i b)

  unfoldable pub vector_by : Point3 → Point3 → Interval3
  vector_by p q = record { x = difference_by p.x q.x; y = difference_by p.y q.y; z = difference_by p.z q.z }

  unfoldable pub dot_by : Interval3 → Interval3 → Interval
  dot_by a b = add_by (add_by (mul_i a.x b.x) (mul_i a.y b.y)) (mul_i a.z b.z)
