-- A sign that a wider interval decides is that of each interval within it. Assumes nothing.
use Rattle.std.specs.Prelude.{◌≡◌, refl, Bool, true, false, not, ◌&&◌, T, Float}
use Rattle.std.proofs.Math.Dec.{not_T}
use Rattle.std.specs.Float.Ieee.{le, lt, eq}
use Rattle.std.specs.Float.Ieee.Fits.{and_l, and_r, and_i}
use Rattle.interval_arithmetic.specs.declared.Interval.{Interval}
use Rattle.interval_arithmetic.specs.declared.Sign.{Sign}
use Rattle.interval_arithmetic.specs.declared.Sign.TheVariants.{Negative, Zero, Positive, Unresolved}
use Rattle.interval_arithmetic.specs.Ops.{zero_f, pick_sign, sign_i}
use Rattle.float_values.specs.Laws.Equal.{le-le-eq}
use Rattle.float_values.specs.Laws.Adjacent.{eq-back, lt-le-clash}
use Rattle.interval_narrowing.specs.Narrow.{Within}
use Rattle.interval_narrowing.specs.Laws.Order.{trans_le, eq-le, lt-le, before, after}

abbrev pick : Bool → Bool → Bool → Sign
pick p q z = pick_sign p Positive (pick_sign q Negative (pick_sign z Zero Unresolved))

picked : (p q z p' q' z' : Bool) → (T p' → T p) → (T q' → T (not p && q)) → (T z' → T (not p && (not q && z))) → (pick p' q' z' ≡ Unresolved → ⊥) → pick p q z ≡ pick p' q' z'
picked true q z true q' z' a b c n = refl
picked false q z true q' z' a b c n = absurd (a tt)
picked true q z false true z' a b c n = absurd (b tt)
picked false true z false true z' a b c n = refl
picked false false z false true z' a b c n = absurd (b tt)
picked true q z false false true a b c n = absurd (c tt)
picked false true z false false true a b c n = absurd (c tt)
picked false false true false false true a b c n = refl
picked false false false false false true a b c n = absurd (c tt)
picked p q z false false false a b c n = absurd (n refl)

pub sign_narrow : (x x' : Interval) → Within x x' → (sign_i x' ≡ Unresolved → ⊥) → sign_i x ≡ sign_i x'
unfolding sign_i
sign_narrow x x' h n = picked (lt zero_f lo) (lt hi zero_f) (eq lo zero_f && eq hi zero_f) (lt zero_f lo') (lt hi' zero_f) (eq lo' zero_f && eq hi' zero_f) positive negative none n
  where
    lo : Float
    lo = x.lo

    hi : Float
    hi = x.hi

    lo' : Float
    lo' = x'.lo

    hi' : Float
    hi' = x'.hi

    -- ¬ 0 < a, where a ≤ 0
    no_lt : (a b : Float) → T (le b a) → T (not (lt a b))
    no_lt a b k = not_T (lt a b) (λ l. lt-le-clash a b l k)

    positive : T (lt zero_f lo') → T (lt zero_f lo)
    positive k = before zero_f lo' lo k h.low

    negative : T (lt hi' zero_f) → T (not (lt zero_f lo) && lt hi zero_f)
    negative k =
        let l : T (lt hi zero_f) = after hi hi' zero_f h.high k in
        and_i (not (lt zero_f lo)) (lt hi zero_f) (no_lt zero_f lo (trans_le lo hi zero_f h.sound (lt-le hi zero_f l))) l

    none : T (eq lo' zero_f && eq hi' zero_f) → T (not (lt zero_f lo) && (not (lt hi zero_f) && (eq lo zero_f && eq hi zero_f)))
    none k =
        let a : T (le zero_f lo) = trans_le zero_f lo' lo (eq-back lo' zero_f (and_l (eq lo' zero_f) (eq hi' zero_f) k)) h.low in
        let b : T (le hi zero_f) = trans_le hi hi' zero_f h.high (eq-le hi' zero_f (and_r (eq lo' zero_f) (eq hi' zero_f) k)) in
        let c : T (le lo zero_f) = trans_le lo hi zero_f h.sound b in
        let d : T (le zero_f hi) = trans_le zero_f lo hi a h.sound in
        and_i (not (lt zero_f lo)) (not (lt hi zero_f) && (eq lo zero_f && eq hi zero_f)) (no_lt zero_f lo c)
        (and_i (not (lt hi zero_f)) (eq lo zero_f && eq hi zero_f) (no_lt hi zero_f d)
        (and_i (eq lo zero_f) (eq hi zero_f) (le-le-eq lo zero_f c a) (le-le-eq hi zero_f b d)))
