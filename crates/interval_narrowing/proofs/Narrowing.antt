-- Each operation on narrower operands gives a narrower interval than under the old rule, whichever sums and differences the rule k lets stay: W-205, "A decided sign under the old rule must never become another sign".
-- The bounds are any floats at all; a NaN gives the whole line. `Within` and the operations by a rule are in `Narrow.antt`. Assumes nothing.
use Rattle.std.specs.Prelude.{◌≡◌, refl, Bool, true, not, T, Float}
use Rattle.std.proofs.Common.{ap, ◌∙◌, subst}
use Rattle.std.specs.Float.{binary64}
use Rattle.std.specs.Float.Ieee.{fits, is_nan, add, le}
use Rattle.float_order.specs.Next.{next_up, next_down}
use Rattle.float_exact.specs.Exact.{exact_sum}
use Rattle.float_vectors.specs.declared.vector.Point3.{Point3}
use Rattle.float_vectors.specs.declared.vector.Vec3.{Vec3}
use Rattle.interval_arithmetic.specs.declared.Interval.{Interval}
use Rattle.interval_arithmetic.specs.declared.Sign.TheVariants.{Unresolved}
use Rattle.interval_arithmetic.specs.Ops.{point_i, add_i, sub_i, mul_i, sqr_i, sign_i}
use Rattle.interval_vectors.specs.declared.Interval3.{Interval3}
use Rattle.interval_vectors.specs.Vectors.{difference_i, point_i3, vector_i, dot_i}
use Rattle.interval_narrowing.specs.Narrow.{Sound, Within, Within3, never, add_by, sub_by, difference_by, vector_by, dot_by}
use Rattle.interval_narrowing.specs.Laws.Order.{refl-le}
use Rattle.interval_narrowing.specs.Laws.Ends.{bound-is, bound-refl, checked-within}
use Rattle.interval_narrowing.specs.Laws.Ends as Ends
use Rattle.interval_narrowing.proofs.Laws.Sums as Sums
use Rattle.interval_narrowing.proofs.Laws.Products as Products
use Rattle.interval_narrowing.proofs.Laws.Squares as Squares
use Rattle.interval_narrowing.specs.Laws.Signs as Signs
use Rattle.float_values.specs.Laws.Order.{le-nums}

-- ---- rounding and the steps keep the program's order
pub add-mono : (a a' b b' : Float) → T (le a a') → T (le b b') → T (not (is_nan (add binary64 a b))) → T (not (is_nan (add binary64 a' b'))) → T (le (add binary64 a b) (add binary64 a' b'))
add-mono a a' b b' h g n n' =
    subst (λ (z : Float). T (le z (add binary64 a' b'))) (bound-is true (add binary64 a b) n)
    (subst (λ (z : Float). T (le (Ends.bound true (add binary64 a b)) z)) (bound-is true (add binary64 a' b') n') (Sums.add-le true a a' b b' h g))

pub down-mono : (x y : Float) → T (fits binary64 x) → T (fits binary64 y) → T (le x y) → T (le (next_down x) (next_down y))
down-mono = Ends.down-mono

pub up-mono : (x y : Float) → T (fits binary64 x) → T (fits binary64 y) → T (le x y) → T (le (next_up x) (next_up y))
up-mono = Ends.up-mono

-- ---- an interval whose bounds are in their order lies in itself, and one around another has them so too: with the laws below, every operation gives such an interval of such operands
pub within-self : (x : Interval) → Sound x → Within x x
within-self x h =
    let n = le-nums x.lo x.hi h in
    record { sound = h; low = refl-le x.lo n.0; high = refl-le x.hi n.1 }

pub sound-around : (x y : Interval) → Within x y → Sound y
sound-around = Sums.wide

pub point-within : (a : Float) → Within (point_i a) (point_i a)
unfolding point_i
point-within a = checked-within a a a a (λ s. bound-refl s a) (λ s. bound-refl s a) (bound-refl _ a) (bound-refl _ a)

-- ---- the operations
pub mul-narrow : (x x' y y' : Interval) → Within x x' → Within y y' → Within (mul_i x y) (mul_i x' y')
mul-narrow = Products.mul-narrow

pub sqr-narrow : (x x' : Interval) → Within x x' → Within (sqr_i x) (sqr_i x')
sqr-narrow = Squares.sqr-narrow

pub point3-within : (v : Vec3) → Within3 (point_i3 v) (point_i3 v)
unfolding point_i3
point3-within v = record { x = point-within v.x; y = point-within v.y; z = point-within v.z }

module _ (k : Float → Float → Bool) where
  pub add-narrow : (x x' y y' : Interval) → Within x x' → Within y y' → Within (add_by k x y) (add_by never x' y')
  add-narrow = Sums.add-narrow k

  pub sub_narrow : (x x' y y' : Interval) → Within x x' → Within y y' → Within (sub_by k x y) (sub_by never x' y')
  sub_narrow = Sums.sub_narrow k

  pub difference-narrow : (a b : Float) → Within (difference_by k a b) (difference_by never a b)
  unfolding difference_by
  difference-narrow a b = sub_narrow (point_i a) (point_i a) (point_i b) (point_i b) (point-within a) (point-within b)

  pub vector-narrow : (p q : Point3) → Within3 (vector_by k p q) (vector_by never p q)
  unfolding vector_by
  vector-narrow p q = record { x = difference-narrow p.x q.x; y = difference-narrow p.y q.y; z = difference-narrow p.z q.z }

  pub dot-narrow : (a a' b b' : Interval3) → Within3 a a' → Within3 b b' → Within (dot_by k a b) (dot_by never a' b')
  unfolding dot_by
  dot-narrow a a' b b' h g =
      add-narrow _ _ _ _
      (add-narrow _ _ _ _ (mul-narrow _ _ _ _ h.x g.x) (mul-narrow _ _ _ _ h.y g.y))
      (mul-narrow _ _ _ _ h.z g.z)

-- ---- the operations of `interval_arithmetic` and `interval_vectors` are those by which a sum that is exact stays
pub add-exact : (x y : Interval) → add_by exact_sum x y ≡ add_i x y
unfolding add_by add_i
add-exact x y = refl

pub sub-exact : (x y : Interval) → sub_by exact_sum x y ≡ sub_i x y
unfolding sub_by sub_i
sub-exact x y = refl

pub difference-exact : (a b : Float) → difference_by exact_sum a b ≡ difference_i a b
unfolding difference_by difference_i
difference-exact a b = sub-exact (point_i a) (point_i b)

pub vector-exact : (p q : Point3) → vector_by exact_sum p q ≡ vector_i p q
unfolding vector_by vector_i
vector-exact p q = rw (difference-exact p.x q.x, difference-exact p.y q.y, difference-exact p.z q.z)

pub dot-exact : (a b : Interval3) → dot_by exact_sum a b ≡ dot_i a b
unfolding dot_by dot_i
dot-exact a b = add-exact _ _ ∙ ap (λ (z : Interval). add_i z (mul_i a.z b.z)) (add-exact (mul_i a.x b.x) (mul_i a.y b.y))

-- ---- a sign that the wider interval decides
pub sign_narrow : (x x' : Interval) → Within x x' → (sign_i x' ≡ Unresolved → ⊥) → sign_i x ≡ sign_i x'
sign_narrow = Signs.sign_narrow
