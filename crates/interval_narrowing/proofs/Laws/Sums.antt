-- The sum keeps the order, on either side, and so the sum and the difference of narrower intervals are narrower, whichever of their bounds stay. Assumes nothing.
use Rattle.std.specs.Prelude.{refl, ℕ, suc, ◌+◌, ◌-◌, ◌*◌, ◌≤◌, ◌<◌, Bool, true, false, not, cond, T, ltb, ℤ, Float}
use Rattle.std.proofs.Common.{add-mul, mul_assoc, mul_comm, mul_left_comm, mul-le-mul_right, mul-pos, arith, ltb→lt, nltb→le}
use Rattle.std.specs.Float.{nan, inf, fin, binary64}
use Rattle.std.specs.Float.Ieee.{up, down, is_nan, neg, sum, add, round, le}
use Rattle.std.specs.Float.Ieee.Fits.{add-fits, down_pos}
use Rattle.float_order.specs.Next.{next_up, next_down}
use Rattle.interval_arithmetic.specs.declared.Interval.{Interval}
use Rattle.float_values.specs.Laws.Order.{le-nums}
use Rattle.interval_narrowing.specs.Narrow.{Sound, Within, never, low_by, high_by, add_by, sub_by}
use Rattle.interval_narrowing.specs.Laws.Numbers.{beyond-both, reach, Cross, order-to}
use Rattle.float_values.specs.Laws.Adjacent.{ninf-le, le-pinf}
use Rattle.interval_narrowing.specs.Laws.Order.{trans_le, neg-le}
use Rattle.interval_narrowing.specs.Laws.Rounding.{Rounds, rounds-le, rounds-at}
use Rattle.interval_narrowing.specs.Laws.Ends.{bound, bound-num, bound-refl, bound-le, down-stay, up-stay, down_step, up_step, Pair, checked-within}

-- ---- the sum of two finite floats is their exact sum, rounded
sum-rounds : (s : Bool) (a : ℕ) (t : Bool) (b c : ℕ) → Rounds c (sum binary64 s a t b c) (cond s 0 a + cond t 0 b) (cond s a 0 + cond t b 0)
unfolding sum
sum-rounds false a false b c = record { sign = false; size = a + b; is = refl; number = omega arith }
sum-rounds true a true b c = record { sign = true; size = a + b; is = refl; number = omega arith }
sum-rounds false a true b c = go (ltb a b) (ltb→lt a b) (nltb→le a b)
  where
    go : (t : Bool) → (T t → a < b) → (T (not t) → b ≤ a) → Rounds c (cond t (round binary64 true (b - a) c) (round binary64 false (a - b) c)) (a + 0) (0 + b)
    go true f g = let l = f tt in record { sign = true; size = b - a; is = refl; number = omega arith }
    go false f g = let l = g tt in record { sign = false; size = a - b; is = refl; number = omega arith }
sum-rounds true a false b c = go (ltb a b) (ltb b a) (ltb→lt a b) (nltb→le a b) (nltb→le b a)
  where
    go : (t u : Bool) → (T t → a < b) → (T (not t) → b ≤ a) → (T (not u) → a ≤ b) → Rounds c (cond t (round binary64 false (b - a) c) (round binary64 u (a - b) c)) (0 + b) (a + 0)
    go true u f g h = let l = f tt in record { sign = false; size = b - a; is = refl; number = omega arith }
    go false true f g h = let l = g tt in record { sign = true; size = a - b; is = refl; number = omega arith }
    go false false f g h = let l = g tt in let k = h tt in record { sign = false; size = a - b; is = refl; number = omega arith }

add_rounds : (s : Bool) (m : ℕ) (e : ℤ) (t : Bool) (n : ℕ) (d : ℤ)
    → Rounds (down e * down d) (add binary64 (fin s m e) (fin t n d)) (cond s 0 (m * up e) * down d + cond t 0 (n * up d) * down e) (cond s (m * up e) 0 * down d + cond t (n * up d) 0 * down e)
unfolding add
add_rounds s m e t n d = go s t
  where
    go : (s t : Bool) → Rounds (down e * down d) (sum binary64 s (m * up e * down d) t (n * up d * down e) (down e * down d))
        (cond s 0 (m * up e) * down d + cond t 0 (n * up d) * down e) (cond s (m * up e) 0 * down d + cond t (n * up d) 0 * down e)
    go true true = rounds-at (down e * down d) _ _ _ _ _ (omega arith) (sum-rounds true (m * up e * down d) true (n * up d * down e) (down e * down d))
    go true false = rounds-at (down e * down d) _ _ _ _ _ (omega arith) (sum-rounds true (m * up e * down d) false (n * up d * down e) (down e * down d))
    go false true = rounds-at (down e * down d) _ _ _ _ _ (omega arith) (sum-rounds false (m * up e * down d) true (n * up d * down e) (down e * down d))
    go false false = rounds-at (down e * down d) _ _ _ _ _ (omega arith) (sum-rounds false (m * up e * down d) false (n * up d * down e) (down e * down d))

-- P / A ≤ P' / A' and Q / B ≤ Q' / B', each a difference, added
added : (P M A P' M' A' Q N B Q' N' B' : ℕ) → P * A' + M' * A ≤ P' * A + M * A' → Q * B' + N' * B ≤ Q' * B + N * B'
    → (P * B + Q * A) * (A' * B') + (M' * B' + N' * A') * (A * B) ≤ (P' * B' + Q' * A') * (A * B) + (M * B + N * A) * (A' * B')
added P M A P' M' A' Q N B Q' N' B' h k =
    let x : _ ≤ _ = simp (add-mul, mul_assoc, mul_comm) at (mul-le-mul_right (B * B') h) in
    let y : _ ≤ _ = simp (add-mul, mul_assoc, mul_comm, mul_left_comm) at (mul-le-mul_right (A * A') k) in
    simp (add-mul, mul_assoc, mul_comm, mul_left_comm) (omega arith)

-- ---- the sum keeps the order
cross : (x y : Float) → T (le x y) → Cross (suc (reach x + reach y)) x y
cross x y h = let i = beyond-both (reach x) (reach y) in order-to (suc (reach x + reach y)) x y i.0 i.1 h

finite-le : (s : Bool) (m : ℕ) (e : ℤ) (s' : Bool) (m' : ℕ) (e' : ℤ) (t : Bool) (n : ℕ) (d : ℤ) (t' : Bool) (n' : ℕ) (d' : ℤ) → T (le (fin s m e) (fin s' m' e')) → T (le (fin t n d) (fin t' n' d'))
    → T (le (add binary64 (fin s m e) (fin t n d)) (add binary64 (fin s' m' e') (fin t' n' d')))
finite-le s m e s' m' e' t n d t' n' d' h k =
    rounds-le (down e * down d) (down e' * down d') _ _ _ _ _ _ (mul-pos (down_pos e) (down_pos d)) (mul-pos (down_pos e') (down_pos d'))
    (add_rounds s m e t n d) (add_rounds s' m' e' t' n' d')
    (added (cond s 0 (m * up e)) (cond s (m * up e) 0) (down e) (cond s' 0 (m' * up e')) (cond s' (m' * up e') 0) (down e')
    (cond t 0 (n * up d)) (cond t (n * up d) 0) (down d) (cond t' 0 (n' * up d')) (cond t' (n' * up d') 0) (down d')
    (cross (fin s m e) (fin s' m' e') h) (cross (fin t n d) (fin t' n' d') k))

-- an infinity of the greater summand is the sum, or the other is its opposite; and so of the lesser one
to-pinf : (s : Bool) (x y y' : Float) → T (not (is_nan x)) → T (le y y') → T (le (bound s (add binary64 x y)) (bound s (add binary64 (inf false) y')))
unfolding add is_nan le
to-pinf s x y nan n h = absurd (le-nums y nan h).1
to-pinf s x y (inf false) n h = le-pinf (bound s (add binary64 x y)) (bound-num s (add binary64 x y))
to-pinf s x y (fin t m e) n h = le-pinf (bound s (add binary64 x y)) (bound-num s (add binary64 x y))
to-pinf s x nan (inf true) n h = absurd h
to-pinf s x (inf false) (inf true) n h = absurd h
to-pinf s x (fin t m e) (inf true) n h = absurd h
to-pinf s nan (inf true) (inf true) n h = absurd n
to-pinf s (inf true) (inf true) (inf true) n h = ninf-le (inf s) tt
to-pinf s (inf false) (inf true) (inf true) n h = bound-refl s nan
to-pinf s (fin t m e) (inf true) (inf true) n h = ninf-le (inf s) tt

from-ninf : (s : Bool) (x' y y' : Float) → T (not (is_nan x')) → T (le y y') → T (le (bound s (add binary64 (inf true) y)) (bound s (add binary64 x' y')))
unfolding add is_nan le
from-ninf s x' nan y' n h = absurd h
from-ninf s x' (inf true) y' n h = ninf-le (bound s (add binary64 x' y')) (bound-num s (add binary64 x' y'))
from-ninf s x' (fin t m e) y' n h = ninf-le (bound s (add binary64 x' y')) (bound-num s (add binary64 x' y'))
from-ninf s x' (inf false) nan n h = absurd h
from-ninf s x' (inf false) (inf true) n h = absurd h
from-ninf s x' (inf false) (fin t m e) n h = absurd h
from-ninf s nan (inf false) (inf false) n h = absurd n
from-ninf s (inf true) (inf false) (inf false) n h = bound-refl s nan
from-ninf s (inf false) (inf false) (inf false) n h = le-pinf (inf s) tt
from-ninf s (fin t m e) (inf false) (inf false) n h = le-pinf (inf s) tt

with-finite : (s : Bool) (u : Bool) (m : ℕ) (e : ℤ) (u' : Bool) (m' : ℕ) (e' : ℤ) (y y' : Float) → T (le (fin u m e) (fin u' m' e')) → T (le y y')
    → T (le (bound s (add binary64 (fin u m e) y)) (bound s (add binary64 (fin u' m' e') y')))
unfolding add is_nan le
with-finite s u m e u' m' e' nan y' h k = absurd k
with-finite s u m e u' m' e' (inf true) y' h k = ninf-le (bound s (add binary64 (fin u' m' e') y')) (bound-num s (add binary64 (fin u' m' e') y'))
with-finite s u m e u' m' e' (inf false) nan h k = absurd k
with-finite s u m e u' m' e' (inf false) (inf true) h k = absurd k
with-finite s u m e u' m' e' (inf false) (inf false) h k = tt
with-finite s u m e u' m' e' (inf false) (fin t n d) h k = absurd k
with-finite s u m e u' m' e' (fin t n d) nan h k = absurd k
with-finite s u m e u' m' e' (fin t n d) (inf true) h k = absurd k
with-finite s u m e u' m' e' (fin t n d) (inf false) h k = le-pinf (bound s (add binary64 (fin u m e) (fin t n d))) (bound-num s (add binary64 (fin u m e) (fin t n d)))
with-finite s u m e u' m' e' (fin t n d) (fin t' n' d') h k = bound-le s (add binary64 (fin u m e) (fin t n d)) (add binary64 (fin u' m' e') (fin t' n' d')) (finite-le u m e u' m' e' t n d t' n' d' h k)

pub add-le : (s : Bool) (x x' y y' : Float) → T (le x x') → T (le y y') → T (le (bound s (add binary64 x y)) (bound s (add binary64 x' y')))
unfolding le
add-le s nan x' y y' h k = absurd h
add-le s (inf true) x' y y' h k = from-ninf s x' y y' (le-nums (inf true) x' h).1 k
add-le s (inf false) nan y y' h k = absurd h
add-le s (inf false) (inf true) y y' h k = absurd h
add-le s (inf false) (inf false) y y' h k = to-pinf s (inf false) y y' (le-nums (inf false) (inf false) h).0 k
add-le s (inf false) (fin t m e) y y' h k = absurd h
add-le s (fin u m e) nan y y' h k = absurd h
add-le s (fin u m e) (inf true) y y' h k = absurd h
add-le s (fin u m e) (inf false) y y' h k = to-pinf s (fin u m e) y y' (le-nums (fin u m e) (inf false) h).0 k
add-le s (fin u m e) (fin u' m' e') y y' h k = with-finite s u m e u' m' e' y y' h k

-- ---- the bounds by a rule, against those that always move
module _ (k : Float → Float → Bool) where
  low-pair : (s : Bool) (a b : Float) → T (le (bound s (low_by k a b)) (bound s (add binary64 a b)))
  low-pair s a b = go (k a b)
    where
      go : (t : Bool) → T (le (bound s (cond t (add binary64 a b) (next_down (add binary64 a b)))) (bound s (add binary64 a b)))
      go true = bound-refl s (add binary64 a b)
      go false = down-stay s (add binary64 a b) (add-fits binary64 a b)

  high-pair : (s : Bool) (a b : Float) → T (le (bound s (add binary64 a b)) (bound s (high_by k a b)))
  high-pair s a b = go (k a b)
    where
      go : (t : Bool) → T (le (bound s (add binary64 a b)) (bound s (cond t (add binary64 a b) (next_up (add binary64 a b)))))
      go true = bound-refl s (add binary64 a b)
      go false = up-stay s (add binary64 a b) (add-fits binary64 a b)

  pair : (a a' b b' : Float) → T (le a a') → T (le b b') → Pair (low_by k a b) (high_by k a' b')
  pair a a' b b' h g s =
      trans_le (bound s (low_by k a b)) (bound s (add binary64 a b)) (bound s (high_by k a' b')) (low-pair s a b)
      (trans_le (bound s (add binary64 a b)) (bound s (add binary64 a' b')) (bound s (high_by k a' b')) (add-le s a a' b b' h g) (high-pair s a' b'))

  low-within : (a a' b b' : Float) → T (le a a') → T (le b b') → T (le (bound true (next_down (add binary64 a b))) (bound true (low_by k a' b')))
  low-within a a' b b' h g = go (k a' b')
    where
      step : T (le (bound true (next_down (add binary64 a b))) (bound true (next_down (add binary64 a' b'))))
      step = down_step (add binary64 a b) (add binary64 a' b') (add-fits binary64 a b) (add-fits binary64 a' b') (add-le true a a' b b' h g)

      go : (t : Bool) → T (le (bound true (next_down (add binary64 a b))) (bound true (cond t (add binary64 a' b') (next_down (add binary64 a' b')))))
      go true = trans_le (bound true (next_down (add binary64 a b))) (bound true (next_down (add binary64 a' b'))) (bound true (add binary64 a' b')) step (down-stay true (add binary64 a' b') (add-fits binary64 a' b'))
      go false = step

  high-within : (a a' b b' : Float) → T (le a a') → T (le b b') → T (le (bound false (high_by k a b)) (bound false (next_up (add binary64 a' b'))))
  high-within a a' b b' h g = go (k a b)
    where
      step : T (le (bound false (next_up (add binary64 a b))) (bound false (next_up (add binary64 a' b'))))
      step = up_step (add binary64 a b) (add binary64 a' b') (add-fits binary64 a b) (add-fits binary64 a' b') (add-le false a a' b b' h g)

      go : (t : Bool) → T (le (bound false (cond t (add binary64 a b) (next_up (add binary64 a b)))) (bound false (next_up (add binary64 a' b'))))
      go true = trans_le (bound false (add binary64 a b)) (bound false (next_up (add binary64 a b))) (bound false (next_up (add binary64 a' b'))) (up-stay false (add binary64 a b) (add-fits binary64 a b)) step
      go false = step

-- ---- the sum and the difference of narrower intervals
pub low-in : (x y : Interval) → Within x y → T (le x.lo y.hi)
low-in x y h = trans_le x.lo x.hi y.hi h.sound h.high

pub high-in : (x y : Interval) → Within x y → T (le y.lo x.hi)
high-in x y h = trans_le y.lo x.lo x.hi h.low h.sound

pub wide : (x y : Interval) → Within x y → Sound y
wide x y h = trans_le y.lo x.lo y.hi h.low (low-in x y h)

module _ (k : Float → Float → Bool) (x x' y y' : Interval) (h : Within x x') (g : Within y y') where
  pub add-narrow : Within (add_by k x y) (add_by never x' y')
  unfolding add_by
  add-narrow =
      checked-within (low_by k x.lo y.lo) (high_by k x.hi y.hi) (low_by never x'.lo y'.lo) (high_by never x'.hi y'.hi)
      (pair k x.lo x.hi y.lo y.hi h.sound g.sound)
      (pair never x'.lo x'.hi y'.lo y'.hi (wide x x' h) (wide y y' g))
      (low-within k x'.lo x.lo y'.lo y.lo h.low g.low)
      (high-within k x.hi x'.hi y.hi y'.hi h.high g.high)

  pub sub_narrow : Within (sub_by k x y) (sub_by never x' y')
  unfolding sub_by
  sub_narrow =
      checked-within (low_by k x.lo (neg y.hi)) (high_by k x.hi (neg y.lo)) (low_by never x'.lo (neg y'.hi)) (high_by never x'.hi (neg y'.lo))
      (pair k x.lo x.hi (neg y.hi) (neg y.lo) h.sound (neg-le y.lo y.hi g.sound))
      (pair never x'.lo x'.hi (neg y'.hi) (neg y'.lo) (wide x x' h) (neg-le y'.lo y'.hi (wide y y' g)))
      (low-within k x'.lo x.lo (neg y'.hi) (neg y.hi) h.low (neg-le y.hi y'.hi g.high))
      (high-within k x.hi x'.hi (neg y.lo) (neg y'.lo) h.high (neg-le y'.lo y.lo g.low))
