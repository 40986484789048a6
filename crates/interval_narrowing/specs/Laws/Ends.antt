-- A bound that is a NaN counts as the infinity of its side: so a NaN gives the whole line, and a bound keeps the order of what it is worked out from. Assumes nothing.
use Rattle.std.specs.Prelude.{◌≡◌, refl, ℕ, Bool, true, false, not, cond, T, ℤ, Float}
use Rattle.std.proofs.Common.{sym, ap, ◌∙◌, subst}
use Rattle.std.specs.Float.Ieee.{nan, fits, is_nan, neg, le, lt, eq}
use Rattle.std.specs.Float.{inf, fin, binary64}
use Rattle.std.specs.Float.Ieee.Bits.{cond_no}
use Rattle.std.specs.Float.Ieee.Fits.{cond-fits, inf-fits}
use Rattle.std.specs.Float.Ieee.Scale.{finite}
use Rattle.float_order.specs.Next.{next_up, next_down}
use Rattle.interval_arithmetic.specs.Ops.{entire, checked_i}
use Rattle.float_values.specs.Laws.Small.{or_left, neg-neg}
use Rattle.float_values.specs.Laws.Order.{le-nums}
use Rattle.interval_enclosure.specs.Laws.Sums.{down-ninf, up-pinf, down_fits, up_fits}
use Rattle.float_values.specs.Laws.Adjacent.{ninf-le, le-pinf, up_least, up_above, down-greatest, down-below}
use Rattle.interval_narrowing.specs.Narrow.{Within}
use Rattle.interval_narrowing.specs.Laws.Numbers.{sign}
use Rattle.interval_narrowing.specs.Laws.Order.{refl-le, trans_le, before, after, neg-le}

-- the low bound r for s true, and the high one for s false
abbrev pub bound : Bool → Float → Float
bound s r = cond (is_nan r) (inf s) r

pub bound-is : (s : Bool) (r : Float) → T (not (is_nan r)) → bound s r ≡ r
bound-is s r n = cond_no (is_nan r) (inf s) r n

pub bound-num : (s : Bool) (r : Float) → T (not (is_nan (bound s r)))
unfolding is_nan
bound-num s nan = tt
bound-num s (inf t) = tt
bound-num s (fin t m e) = tt

pub bound-fits : (s : Bool) (r : Float) → T (fits binary64 r) → T (fits binary64 (bound s r))
bound-fits s r f = cond-fits binary64 (is_nan r) (inf s) r (inf-fits binary64 s) f

pub bound-refl : (s : Bool) (r : Float) → T (le (bound s r) (bound s r))
bound-refl s r = refl-le (bound s r) (bound-num s r)

-- of two numbers, as of themselves
pub bound-le : (s : Bool) (r q : Float) → T (le r q) → T (le (bound s r) (bound s q))
bound-le s r q h =
    let n = le-nums r q h in
    subst (λ (z : Float). T (le z (bound s q))) (sym (bound-is s r n.0)) (subst (λ (z : Float). T (le r z)) (sym (bound-is s q n.1)) h)

pub low-high : (r : Float) → T (le (bound true r) (bound false r))
unfolding is_nan le
low-high nan = tt
low-high (inf s) = refl-le (inf s) tt
low-high (fin s m e) = refl-le (fin s m e) tt

-- a low bound of a negative is the negative of the high bound
bound-neg : (r : Float) → bound true (neg r) ≡ neg (bound false r)
unfolding neg is_nan
bound-neg nan = refl
bound-neg (inf s) = refl
bound-neg (fin s m e) = refl

pub bound-turned : (r q : Float) → T (le (bound true (neg r)) (bound true (neg q))) → T (le (bound false q) (bound false r))
bound-turned r q h =
    subst (λ (z : Float). T (le z (bound false r))) (neg-neg (bound false q))
    (subst (λ (z : Float). T (le (neg (neg (bound false q))) z)) (neg-neg (bound false r))
    (neg-le (neg (bound false r)) (neg (bound false q)) (subst (λ (z : Float). T (le z (neg (bound false q)))) (bound-neg r) (subst (λ (z : Float). T (le (bound true (neg r)) z)) (bound-neg q) h))))

-- ---- a step goes outward, or stays at the infinity
not-inf : (s t : Bool) (m : ℕ) (e : ℤ) → fin s m e ≡ inf t → ⊥
not-inf s t m e h = subst (λ (z : Float). T (finite z)) h tt

pub down_le : (r : Float) → T (fits binary64 r) → T (not (is_nan r)) → T (le (next_down r) r)
unfolding is_nan le
down_le nan f n = absurd n
down_le (inf true) f n = subst (λ (z : Float). T (le z (inf true))) (sym down-ninf) tt
down_le (inf false) f n = or_left (lt (next_down (inf false)) (inf false)) (eq (next_down (inf false)) (inf false)) (down-below (inf false) f n (λ h. subst (λ (z : Float). T (not (sign z))) h tt))
down_le (fin s m e) f n = or_left (lt (next_down (fin s m e)) (fin s m e)) (eq (next_down (fin s m e)) (fin s m e)) (down-below (fin s m e) f n (not-inf s true m e))

pub up_le : (r : Float) → T (fits binary64 r) → T (not (is_nan r)) → T (le r (next_up r))
unfolding is_nan le
up_le nan f n = absurd n
up_le (inf false) f n = subst (λ (z : Float). T (le (inf false) z)) (sym up-pinf) tt
up_le (inf true) f n = or_left (lt (inf true) (next_up (inf true))) (eq (inf true) (next_up (inf true))) (up_above (inf true) f n (λ h. subst (λ (z : Float). T (sign z)) h tt))
up_le (fin s m e) f n = or_left (lt (fin s m e) (next_up (fin s m e))) (eq (fin s m e) (next_up (fin s m e))) (up_above (fin s m e) f n (not-inf s false m e))

-- ---- a step keeps the order
pub down-mono : (x y : Float) → T (fits binary64 x) → T (fits binary64 y) → T (le x y) → T (le (next_down x) (next_down y))
down-mono nan y f g h = absurd (unfold le in h)
down-mono (inf true) y f g h = subst (λ (z : Float). T (le z (next_down y))) (sym down-ninf) (ninf-le (next_down y) (le-nums (next_down y) y (down_le y g (le-nums (inf true) y h).1)).0)
down-mono (inf false) y f g h = down-greatest (next_down (inf false)) y (down_fits (inf false)) g (before (next_down (inf false)) (inf false) y (down-below (inf false) f (le-nums (inf false) y h).0 (λ e. subst (λ (z : Float). T (not (sign z))) e tt)) h)
down-mono (fin s m e) y f g h = down-greatest (next_down (fin s m e)) y (down_fits (fin s m e)) g (before (next_down (fin s m e)) (fin s m e) y (down-below (fin s m e) f (le-nums (fin s m e) y h).0 (not-inf s true m e)) h)

pub up-mono : (x y : Float) → T (fits binary64 x) → T (fits binary64 y) → T (le x y) → T (le (next_up x) (next_up y))
up-mono x nan f g h = absurd (unfold is_nan in (le-nums x nan h).1)
up-mono x (inf false) f g h = subst (λ (z : Float). T (le (next_up x) z)) (sym up-pinf) (le-pinf (next_up x) (le-nums x (next_up x) (up_le x f (le-nums x (inf false) h).0)).1)
up-mono x (inf true) f g h = up_least x (next_up (inf true)) f (up_fits (inf true)) (after x (inf true) (next_up (inf true)) h (up_above (inf true) g (le-nums x (inf true) h).1 (λ e. subst (λ (z : Float). T (sign z)) e tt)))
up-mono x (fin s m e) f g h = up_least x (next_up (fin s m e)) f (up_fits (fin s m e)) (after x (fin s m e) (next_up (fin s m e)) h (up_above (fin s m e) g (le-nums x (fin s m e) h).1 (not-inf s false m e)))

-- ---- a bound's step
down-nan : next_down nan ≡ nan
unfolding next_down is_nan
down-nan = refl

up-nan : next_up nan ≡ nan
unfolding next_up is_nan
up-nan = refl

pub down-stay : (s : Bool) (r : Float) → T (fits binary64 r) → T (le (bound s (next_down r)) (bound s r))
unfolding is_nan
down-stay s nan f = subst (λ (z : Float). T (le (bound s z) (inf s))) (sym down-nan) (bound-refl s nan)
down-stay s (inf t) f = bound-le s (next_down (inf t)) (inf t) (down_le (inf t) f tt)
down-stay s (fin t m e) f = bound-le s (next_down (fin t m e)) (fin t m e) (down_le (fin t m e) f tt)

pub up-stay : (s : Bool) (r : Float) → T (fits binary64 r) → T (le (bound s r) (bound s (next_up r)))
unfolding is_nan
up-stay s nan f = subst (λ (z : Float). T (le (inf s) (bound s z))) (sym up-nan) (bound-refl s nan)
up-stay s (inf t) f = bound-le s (inf t) (next_up (inf t)) (up_le (inf t) f tt)
up-stay s (fin t m e) f = bound-le s (fin t m e) (next_up (fin t m e)) (up_le (fin t m e) f tt)

bound-down : (r : Float) → T (fits binary64 r) → bound true (next_down r) ≡ next_down (bound true r)
unfolding is_nan
bound-down nan f = ap (bound true) down-nan ∙ sym down-ninf
bound-down (inf t) f = bound-is true (next_down (inf t)) (le-nums (next_down (inf t)) (inf t) (down_le (inf t) f tt)).0
bound-down (fin t m e) f = bound-is true (next_down (fin t m e)) (le-nums (next_down (fin t m e)) (fin t m e) (down_le (fin t m e) f tt)).0

bound-up : (r : Float) → T (fits binary64 r) → bound false (next_up r) ≡ next_up (bound false r)
unfolding is_nan
bound-up nan f = ap (bound false) up-nan ∙ sym up-pinf
bound-up (inf t) f = bound-is false (next_up (inf t)) (le-nums (inf t) (next_up (inf t)) (up_le (inf t) f tt)).1
bound-up (fin t m e) f = bound-is false (next_up (fin t m e)) (le-nums (fin t m e) (next_up (fin t m e)) (up_le (fin t m e) f tt)).1

pub down_step : (r q : Float) → T (fits binary64 r) → T (fits binary64 q) → T (le (bound true r) (bound true q)) → T (le (bound true (next_down r)) (bound true (next_down q)))
down_step r q f g h = rw (bound-down r f, bound-down q g) (down-mono (bound true r) (bound true q) (bound-fits true r f) (bound-fits true q g) h)

pub up_step : (r q : Float) → T (fits binary64 r) → T (fits binary64 q) → T (le (bound false r) (bound false q)) → T (le (bound false (next_up r)) (bound false (next_up q)))
up_step r q f g h = rw (bound-up r f, bound-up q g) (up-mono (bound false r) (bound false q) (bound-fits false r f) (bound-fits false q g) h)

-- ---- the interval of two bounds, each the infinity of its side where it is a NaN
abbrev pub Pair : Float → Float → Type 0
Pair l h = (s : Bool) → T (le (bound s l) (bound s h))

pub top : (r : Float) → T (le (inf false) r) → r ≡ inf false
unfolding le
top nan h = absurd h
top (inf true) h = absurd h
top (inf false) h = refl
top (fin s m e) h = absurd h

pub bottom : (r : Float) → T (le r (inf true)) → r ≡ inf true
unfolding le
bottom nan h = absurd h
bottom (inf true) h = refl
bottom (inf false) h = absurd h
bottom (fin s m e) h = absurd h

checked-is : (l h : Float) → Pair l h → checked_i l h ≡ record { lo = bound true l; hi = bound false h }
checked-is l h p = go (is_nan l) (is_nan h) p
  where
    go : (a b : Bool) → ((s : Bool) → T (le (cond a (inf s) l) (cond b (inf s) h)))
        → cond a entire (cond b entire (record { lo = l; hi = h })) ≡ record { lo = cond a (inf true) l; hi = cond b (inf false) h }
    go true true p = refl
    go true false p = ap (λ (z : Float). record { lo = inf true; hi = z }) (sym (top h (p false)))
    go false true p = ap (λ (z : Float). record { lo = z; hi = inf false }) (sym (bottom l (p true)))
    go false false p = refl

pub checked-within : (l h l' h' : Float) → Pair l h → Pair l' h' → T (le (bound true l') (bound true l)) → T (le (bound false h) (bound false h')) → Within (checked_i l h) (checked_i l' h')
checked-within l h l' h' p p' a b = rw (checked-is l h p, checked-is l' h' p') (record { sound = trans_le (bound true l) (bound true h) (bound false h) (p true) (low-high h); low = a; high = b })
