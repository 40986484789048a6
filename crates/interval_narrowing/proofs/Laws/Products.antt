-- Of two numbers between bounds, the product lies between the least and the greatest of the four of the bounds, all rounded: so the product of narrower intervals is narrower.
-- Where one of its four products is a NaN, that of the wider intervals is the whole line. Assumes nothing.
use Rattle.std.specs.Prelude.{◌≡◌, ◌⊎◌, ℕ, zero, suc, ◌+◌, ◌*◌, ◌≤◌, ◌<◌, Bool, not, cond, eqb, ℤ, Float}
use Rattle.std.proofs.Math.Path.{refl, subst}
use Rattle.std.proofs.Common.{sym, ap, ◌∙◌, zero-mul, mul-pos, zero-lt-suc, arith, eqb→eq, T_not}
use Rattle.std.proofs.Math.Logic.{inl, inr}
use Rattle.std.proofs.Math.Bool.{true, false}
use Rattle.std.proofs.Math.Dec.{T}
use Rattle.std.specs.Float.{nan, inf, fin}
use Rattle.std.specs.Float.Ieee.{binary64, fits, up, down, unlike, is_nan, neg, mul, le}
use Rattle.std.specs.Float.Ieee.Fits.{up_pos, down_pos, mul-fits}
use Rattle.float_order.specs.Next.{next_up, next_down}
use Rattle.float_order.specs.Extremes.{least_f, greatest_f}
use Rattle.interval_arithmetic.specs.declared.Interval.{Interval}
use Rattle.interval_arithmetic.specs.Ops.{zero_f, least4, greatest4, on_products, mul_i}
use Rattle.float_values.specs.Laws.Order.{le-nums}
use Rattle.interval_enclosure.specs.Laws.Products.{mul-neg, least_fits, greatest-fits}
use Rattle.interval_narrowing.specs.Narrow.{Within}
use Rattle.interval_narrowing.specs.Laws.Numbers.{reach, sides-to}
use Rattle.float_values.specs.Laws.Adjacent.{ninf-le}
use Rattle.interval_narrowing.specs.Laws.Order.{trans_le, total-le, zero-num, neg-le}
use Rattle.interval_narrowing.specs.Laws.Ends.{bound, bound-is, bound-num, bound-turned, down-stay, up-stay, down_step, up_step, Pair, checked-within, top, bottom}
use Rattle.interval_narrowing.proofs.Laws.Sums.{low-in, high-in}
use Rattle.interval_narrowing.specs.Laws.Extremes.{nan-or-num, Any, least4-under, greatest4-over, least4-of, greatest4-of, ordered-self, ordered, ordered-bound}
use Rattle.interval_narrowing.specs.Laws.Times.{unlike-swap, times, times-swap, times-le, times-ge, times-num, mul_is, mul_low}

-- ---- a product that is a NaN: a zero and an infinity
mul-swap : (x y : Float) → mul binary64 x y ≡ mul binary64 y x
unfolding mul
mul-swap nan nan = refl
mul-swap nan (inf t) = refl
mul-swap nan (fin t n d) = refl
mul-swap (inf s) nan = refl
mul-swap (inf s) (inf t) = ap inf (unlike-swap s t)
mul-swap (inf s) (fin t n d) = ap (λ (u : Bool). cond (eqb n 0) nan (inf u)) (unlike-swap s t)
mul-swap (fin s m e) nan = refl
mul-swap (fin s m e) (inf t) = ap (λ (u : Bool). cond (eqb m 0) nan (inf u)) (unlike-swap s t)
mul-swap (fin s m e) (fin t n d) = times-swap 0 (fin s m e) (fin t n d)

no_size : (m u d r : ℕ) → 0 < u → 0 < d → m * u * d + r ≤ 0 → m ≡ 0
no_size zero u d r U D h = refl
no_size (suc m) u d r U D h = absurd (none (suc m * u * d) r (mul-pos (mul-pos (zero-lt-suc m) U) D) h)
  where
    none : (a r : ℕ) → 0 < a → a + r ≤ 0 → ⊥
    none a r h k = omega arith

-- +infinity times what is no more than a zero
low-nan : (x : Float) (s : Bool) (e : ℤ) → T (le x (fin s 0 e)) → bound true (mul binary64 x (inf false)) ≡ inf true
unfolding mul is_nan le
low-nan nan s e h = absurd h
low-nan (inf true) s e h = refl
low-nan (inf false) s e h = absurd h
low-nan (fin true m d) s e h = go (eqb m 0)
  where
    go : (z : Bool) → bound true (cond z nan (inf true)) ≡ inf true
    go true = refl
    go false = refl
low-nan (fin false m d) s e h = subst (λ (z : ℕ). bound true (cond (eqb z 0) nan (inf false)) ≡ inf true) (sym (is_zero s (sides-to false (m * up d * down e) s (0 * up e * down d) h))) refl
  where
    nought : 0 * up e * down d ≡ 0
    nought = ap (λ (z : ℕ). z * down d) (zero-mul (up e)) ∙ zero-mul (down d)

    is_zero : (s : Bool) → m * up d * down e + cond s (0 * up e * down d) 0 ≤ cond s 0 (0 * up e * down d) + 0 → m ≡ 0
    is_zero true k = no_size m (up d) (down e) (0 * up e * down d) (up_pos d) (down_pos e) k
    is_zero false k = no_size m (up d) (down e) 0 (up_pos d) (down_pos e) (let w = nought in omega arith)

-- -infinity times what is no less
high-nan : (x : Float) (s : Bool) (e : ℤ) → T (le (fin s 0 e) x) → bound true (mul binary64 x (inf true)) ≡ inf true
high-nan x s e h = ap (bound true) turned ∙ low-nan (neg x) (not s) e (subst (λ (z : Float). T (le (neg x) z)) zero-neg (neg-le (fin s 0 e) x h))
  where
    ends : neg (inf false) ≡ inf true
    ends = unfold neg in refl

    zero-neg : neg (fin s 0 e) ≡ fin (not s) 0 e
    zero-neg = unfold neg in refl

    turned : mul binary64 x (inf true) ≡ mul binary64 (neg x) (inf false)
    turned = ap (mul binary64 x) (sym ends) ∙ mul-swap x (neg (inf false)) ∙ mul-neg (inf false) x ∙ ap neg (mul-swap (inf false) x) ∙ sym (mul-neg x (inf false))

-- ---- one of the products of the bounds a, a' of x and b, b' of y is no more than x * y
abbrev Corner : Float → Float → Float → Float → Float → Float → Type 0
Corner a a' b b' x y = Any (λ r. T (le (bound true r) (bound true (mul binary64 x y)))) (mul binary64 a b) (mul binary64 a b') (mul binary64 a' b) (mul binary64 a' b')

lowest : (r q : Float) → bound true r ≡ inf true → T (le (bound true r) (bound true q))
lowest r q e = subst (λ (z : Float). T (le z (bound true q))) (sym e) (ninf-le (bound true q) (bound-num true q))

nan-zero : (n : ℕ) (r : Bool) → T (is_nan (cond (eqb n 0) nan (inf r))) → n ≡ 0
unfolding is_nan
nan-zero n r h = go (eqb n 0) (eqb→eq n 0) h
  where
    go : (z : Bool) → (T z → n ≡ 0) → T (is_nan (cond z nan (inf r))) → n ≡ 0
    go true e h = e tt
    go false e h = absurd h

nan-corner : (a a' b b' x y : Float) → T (le a x) → T (le x a') → T (le b y) → T (le y b') → T (is_nan (mul binary64 x y)) → Corner a a' b b' x y
unfolding mul
nan-corner a a' b b' nan y h h' g g' n = absurd (unfold le in h')
nan-corner a a' b b' (inf s) nan h h' g g' n = absurd (unfold le in g')
nan-corner a a' b b' (inf s) (inf t) h h' g g' n = absurd (unfold is_nan in n)
nan-corner a a' b b' (inf false) (fin t m d) h h' g g' n =
    inr (inl (lowest (mul binary64 a' b) _ (ap (bound true) (mul-swap a' b ∙ ap (mul binary64 b) (top a' h')) ∙ low-nan b t d (subst (λ (z : ℕ). T (le b (fin t z d))) (nan-zero m (unlike false t) n) g))))
nan-corner a a' b b' (inf true) (fin t m d) h h' g g' n =
    inl (inr (lowest (mul binary64 a b') _ (ap (bound true) (mul-swap a b' ∙ ap (mul binary64 b') (bottom a h)) ∙ high-nan b' t d (subst (λ (z : ℕ). T (le (fin t z d) b')) (nan-zero m (unlike true t) n) g'))))
nan-corner a a' b b' (fin s m e) nan h h' g g' n = absurd (unfold le in g')
nan-corner a a' b b' (fin s m e) (inf false) h h' g g' n =
    inl (inr (lowest (mul binary64 a b') _ (ap (bound true) (ap (mul binary64 a) (top b' g')) ∙ low-nan a s e (subst (λ (z : ℕ). T (le a (fin s z e))) (nan-zero m (unlike s false) n) h))))
nan-corner a a' b b' (fin s m e) (inf true) h h' g g' n =
    inr (inl (lowest (mul binary64 a' b) _ (ap (bound true) (ap (mul binary64 a') (bottom b g)) ∙ high-nan a' s e (subst (λ (z : ℕ). T (le (fin s z e) a')) (nan-zero m (unlike s true) n) h'))))
nan-corner a a' b b' (fin s m e) (fin t l d) h h' g g' n = absurd (T_not (is_nan (times 0 (fin s m e) (fin t l d))) (times-num 0 (fin s m e) (fin t l d)) n)

module _ (a a' b b' x y : Float) (h : T (le a x)) (h' : T (le x a')) (g : T (le b y)) (g' : T (le y b')) where
  module _ (H : ℕ) (ia : reach a < H) (ia' : reach a' < H) (ib : reach b < H) (ib' : reach b' < H) (ix : reach x < H) (iy : reach y < H) where
    Below : Float → Type 0
    Below r = T (le (bound true r) (times H x y))

    -- with a bound p of x, by p * y
    with_bound : (p : Float) → reach p < H → T (not (is_nan p)) → T (le (times H p y) (times H x y)) → Below (mul binary64 p b) ⊎ Below (mul binary64 p b')
    unfolding Below
    with_bound p i n l = elim (total-le zero_f p zero-num n) [
      | inl k ↦ inl (chain b ib (subst (λ (z : Float). T (le z (times H p y))) (times-swap H b p) (subst (λ (z : Float). T (le (times H b p) z)) (times-swap H y p) (times-le H b y p ib iy i g k))))
      | inr k ↦ inr (chain b' ib' (subst (λ (z : Float). T (le z (times H p y))) (times-swap H b' p) (subst (λ (z : Float). T (le (times H b' p) z)) (times-swap H y p) (times-ge H y b' p iy ib' i g' k))))
    ]
      where
        chain : (q : Float) → reach q < H → T (le (times H p q) (times H p y)) → T (le (bound true (mul binary64 p q)) (times H x y))
        chain q j k = trans_le (bound true (mul binary64 p q)) (times H p q) (times H x y) (mul_low H p q i j) (trans_le (times H p q) (times H p y) (times H x y) k l)

    num-corner : Any Below (mul binary64 a b) (mul binary64 a b') (mul binary64 a' b) (mul binary64 a' b')
    num-corner = elim (total-le zero_f y zero-num (le-nums b y g).1) [
      | inl k ↦ inl (with_bound a ia (le-nums a x h).0 (times-le H a x y ia ix iy h k))
      | inr k ↦ inr (with_bound a' ia' (le-nums x a' h').1 (times-ge H x a' y ix ia' iy h' k))
    ]

    corner-at : Corner a a' b b' x y
    unfolding Below
    corner-at = elim (nan-or-num (mul binary64 x y)) [
      | inl n ↦ nan-corner a a' b b' x y h h' g g' n
      | inr n ↦
          subst (λ (z : Float). Any (λ r. T (le (bound true r) z)) (mul binary64 a b) (mul binary64 a b') (mul binary64 a' b) (mul binary64 a' b'))
          (sym (bound-is true (mul binary64 x y) n ∙ mul_is H x y ix iy n)) num-corner
    ]

  low-corner : Corner a a' b b' x y
  low-corner = go (reach a) (reach a') (reach b) (reach b') (reach x) (reach y) corner-at
    where
      go : (i j k l m n : ℕ) → ((H : ℕ) → i < H → j < H → k < H → l < H → m < H → n < H → Corner a a' b b' x y) → Corner a a' b b' x y
      go i j k l m n f = f (suc (i + j + k + l + m + n)) (omega arith) (omega arith) (omega arith) (omega arith) (omega arith) (omega arith)

-- ---- and one is no less, which is the same of the negatives
high-corner : (a a' b b' x y : Float) → T (le a x) → T (le x a') → T (le b y) → T (le y b')
    → Any (λ r. T (le (bound false (mul binary64 x y)) (bound false r))) (mul binary64 a b) (mul binary64 a b') (mul binary64 a' b) (mul binary64 a' b')
high-corner a a' b b' x y h h' g g' = elim (low-corner (neg a') (neg a) b b' (neg x) y (neg-le x a' h') (neg-le a x h) g g') [
  | inl k ↦ elim k [ inl l ↦ inr (inl (turned a' b l)) | inr l ↦ inr (inr (turned a' b' l)) ]
  | inr k ↦ elim k [ inl l ↦ inl (inl (turned a b l)) | inr l ↦ inl (inr (turned a b' l)) ]
]
  where
    turned : (p q : Float) → T (le (bound true (mul binary64 (neg p) q)) (bound true (mul binary64 (neg x) y))) → T (le (bound false (mul binary64 x y)) (bound false (mul binary64 p q)))
    turned p q l =
        bound-turned (mul binary64 p q) (mul binary64 x y)
        (subst (λ (z : Float). T (le (bound true z) (bound true (neg (mul binary64 x y))))) (mul-neg p q) (subst (λ (z : Float). T (le (bound true (mul binary64 (neg p) q)) (bound true z))) (mul-neg x y) l))

-- ---- the product of narrower intervals
abbrev product : Float → Float → Float
product a b = mul binary64 a b

abbrev least_of : Interval → Interval → Float
least_of x y = on_products least4 x y

abbrev greatest_of : Interval → Interval → Float
greatest_of x y = on_products greatest4 x y

least-of-fits : (x y : Interval) → T (fits binary64 (least_of x y))
least-of-fits x y =
    least_fits (least_f (product x.lo y.lo) (product x.lo y.hi)) (least_f (product x.hi y.lo) (product x.hi y.hi))
    (least_fits (product x.lo y.lo) (product x.lo y.hi) (mul-fits binary64 x.lo y.lo) (mul-fits binary64 x.lo y.hi))
    (least_fits (product x.hi y.lo) (product x.hi y.hi) (mul-fits binary64 x.hi y.lo) (mul-fits binary64 x.hi y.hi))

greatest-of-fits : (x y : Interval) → T (fits binary64 (greatest_of x y))
greatest-of-fits x y =
    greatest-fits (greatest_f (product x.lo y.lo) (product x.lo y.hi)) (greatest_f (product x.hi y.lo) (product x.hi y.hi))
    (greatest-fits (product x.lo y.lo) (product x.lo y.hi) (mul-fits binary64 x.lo y.lo) (mul-fits binary64 x.lo y.hi))
    (greatest-fits (product x.hi y.lo) (product x.hi y.hi) (mul-fits binary64 x.hi y.lo) (mul-fits binary64 x.hi y.hi))

products-pair : (x y : Interval) → Pair (next_down (least_of x y)) (next_up (greatest_of x y))
products-pair x y s =
    trans_le (bound s (next_down (least_of x y))) (bound s (least_of x y)) (bound s (next_up (greatest_of x y))) (down-stay s (least_of x y) (least-of-fits x y))
    (trans_le (bound s (least_of x y)) (bound s (greatest_of x y)) (bound s (next_up (greatest_of x y)))
    (ordered-bound s (least_of x y) (greatest_of x y)
    (ordered (least_f a b) (greatest_f a b) (least_f c d) (greatest_f c d) (ordered a a b b (ordered-self a) (ordered-self b)) (ordered c c d d (ordered-self c) (ordered-self d))))
    (up-stay s (greatest_of x y) (greatest-of-fits x y)))
  where
    a : Float
    a = product x.lo y.lo

    b : Float
    b = product x.lo y.hi

    c : Float
    c = product x.hi y.lo

    d : Float
    d = product x.hi y.hi

module _ (x x' y y' : Interval) (h : Within x x') (g : Within y y') where
  -- for each product of bounds of x and y
  low_of : (u v : Float) → T (le x'.lo u) → T (le u x'.hi) → T (le y'.lo v) → T (le v y'.hi) → T (le (bound true (least_of x' y')) (bound true (product u v)))
  low_of u v i i' j j' = least4-under (product x'.lo y'.lo) (product x'.lo y'.hi) (product x'.hi y'.lo) (product x'.hi y'.hi) (bound true (product u v)) (low-corner x'.lo x'.hi y'.lo y'.hi u v i i' j j')

  high-of : (u v : Float) → T (le x'.lo u) → T (le u x'.hi) → T (le y'.lo v) → T (le v y'.hi) → T (le (bound false (product u v)) (bound false (greatest_of x' y')))
  high-of u v i i' j j' = greatest4-over (product x'.lo y'.lo) (product x'.lo y'.hi) (product x'.hi y'.lo) (product x'.hi y'.hi) (bound false (product u v)) (high-corner x'.lo x'.hi y'.lo y'.hi u v i i' j j')

  pub mul-narrow : Within (mul_i x y) (mul_i x' y')
  unfolding mul_i
  mul-narrow =
      let i : T (le x.lo x'.hi) = low-in x x' h in
      let i' : T (le x'.lo x.hi) = high-in x x' h in
      let j : T (le y.lo y'.hi) = low-in y y' g in
      let j' : T (le y'.lo y.hi) = high-in y y' g in
      checked-within (next_down (least_of x y)) (next_up (greatest_of x y)) (next_down (least_of x' y')) (next_up (greatest_of x' y')) (products-pair x y) (products-pair x' y')
      (down_step (least_of x' y') (least_of x y) (least-of-fits x' y') (least-of-fits x y)
      (least4-of (product x.lo y.lo) (product x.lo y.hi) (product x.hi y.lo) (product x.hi y.hi) (bound true (least_of x' y'))
      (low_of x.lo y.lo h.low i g.low j) (low_of x.lo y.hi h.low i j' g.high) (low_of x.hi y.lo i' h.high g.low j) (low_of x.hi y.hi i' h.high j' g.high)))
      (up_step (greatest_of x y) (greatest_of x' y') (greatest-of-fits x y) (greatest-of-fits x' y')
      (greatest4-of (product x.lo y.lo) (product x.lo y.hi) (product x.hi y.lo) (product x.hi y.hi) (bound false (greatest_of x' y'))
      (high-of x.lo y.lo h.low i g.low j) (high-of x.lo y.hi h.low i j' g.high) (high-of x.hi y.lo i' h.high g.low j) (high-of x.hi y.hi i' h.high j' g.high)))
