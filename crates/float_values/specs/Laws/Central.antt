-- The heart of the matter: a fraction N / D lies within one step of the float that it is rounded to. Assumes nothing.
-- `round` keeps the order and changes no float. So were N / D above the next float up, it would round to that float or a larger one.
use Rattle.std.specs.Prelude.{◌≡◌, refl, ◌⊎◌, Bool, true, false, not, cond, ◌||◌, ◌&&◌, T, ltb, eqb, Float}
use Rattle.std.proofs.Common.{sym, ap, ◌∙◌, subst, inl, inr, le_of_eq, le_of_lt, not-le_of_lt, eq-or-lt_of_le, le_of_mul-le-mul_right, true≢false, ltb→lt, eqb→eq, pow_pos}
use Prim.Native.Nat.{ℕ, zero, suc, ◌-◌, ◌*◌, ◌/◌, ◌%◌, ◌^◌, ◌≤◌, ◌<◌, compare}
use Rattle.std.specs.Float.{nan, inf, fin, binary64}
use Rattle.std.specs.Float.Ieee.{up, down, round, units, odd, size, nearest, neg, is_nan, le}
use Rattle.std.specs.Float.Ieee.Fits.{down_pos, round-fits, and_l}
use Rattle.std.specs.Float.Ieee.Exact.{HasValue}
use Rattle.std.specs.Float.Ieee.Order.{round_mono, transfer}
use Rattle.float_order.specs.Next.{INF}
use Rattle.float_values.specs.Value.{ONE}
use Rattle.float_values.specs.Laws.Small.{le-or-lt, or_split, in_top}
use Rattle.float_values.specs.Laws.Patterns.{F, val, F-value, F-inf, val-step, val-exact, odd-neg, F-neg, View, view}

pub one-pos : 0 < ONE
unfolding ONE
one-pos = pow_pos 1074

-- ---- `le` of two values that are not negative, as the order of their numbers
le-cross : (a b : ℕ) → T (ltb a b || (eqb a b && true)) → a ≤ b
le-cross a b t = elim (or_split (ltb a b) (eqb a b && true) t) [ inl h ↦ le_of_lt (ltb→lt a b h) | inr h ↦ le_of_eq (eqb→eq a b (and_l (eqb a b) true h)) ]

pub le-values : (x y : Float) (v w : ℕ) → HasValue x false v ONE → HasValue y false w ONE → T (le x y) → v ≤ w
unfolding le
le-values nan y v w p q h = absurd p
le-values (inf s) y v w p q h = absurd p
le-values (fin true m e) y v w p q h = absurd (true≢false p.0)
le-values (fin false m e) nan v w p q h = absurd q
le-values (fin false m e) (inf t) v w p q h = absurd q
le-values (fin false m e) (fin true n d) v w p q h = absurd (true≢false q.0)
le-values (fin false m e) (fin false n d) v w p q h =
    le_of_mul-le-mul_right (transfer v w ONE ONE (m * up e) (n * up d) (down e) (down d) (down_pos e) (down_pos d) (sym p.1) (sym q.1) (le-cross (m * up e * down d) (n * up d * down e) h)) one-pos

-- +infinity is not below a finite value
pub inf-not-le : (y : Float) (w : ℕ) → HasValue y false w ONE → T (le (inf false) y) → ⊥
unfolding le
inf-not-le nan w q h = q
inf-not-le (inf t) w q h = q
inf-not-le (fin t n d) w q h = h

-- ---- N / D rounded has the index b: the next float up is no lower than N / D, and the next one down is no higher
pub round_up : (N D b : ℕ) → 0 < D → round binary64 false N D ≡ F false b → suc b < INF → N * ONE ≤ val (suc b) * D
round_up N D b D-pos is h = elim (le-or-lt (N * ONE) (val (suc b) * D)) [
  | inl k ↦ k
  | inr k ↦
      absurd
      (not-le_of_lt (val-step b)
      (le-values (round binary64 false (val (suc b)) ONE) (F false b) (val (suc b)) (val b) (val-exact false (suc b) h) (F-value false b (le_of_lt h))
      (subst (λ (r : Float). T (le (round binary64 false (val (suc b)) ONE) r)) is (round_mono binary64 (val (suc b)) ONE N D one-pos D-pos (le_of_lt k)))))
]

pub round-down : (N D b : ℕ) → 0 < D → round binary64 false N D ≡ F false (suc b) → suc b ≤ INF → val b * D ≤ N * ONE
round-down N D b D-pos is h = elim (le-or-lt (val b * D) (N * ONE)) [ inl k ↦ k | inr k ↦ absurd (clash (eq-or-lt_of_le h) k) ]
  where
    exact : HasValue (round binary64 false (val b) ONE) false (val b) ONE
    exact = val-exact false b h

    below : N * ONE < val b * D → T (le (F false (suc b)) (round binary64 false (val b) ONE))
    below k = subst (λ (r : Float). T (le r (round binary64 false (val b) ONE))) is (round_mono binary64 N D (val b) ONE D-pos one-pos (le_of_lt k))

    clash : (suc b ≡ INF) ⊎ (suc b < INF) → N * ONE < val b * D → ⊥
    clash (inl e) k = inf-not-le (round binary64 false (val b) ONE) (val b) exact (subst (λ (r : Float). T (le r (round binary64 false (val b) ONE))) (ap (F false) e ∙ F-inf false) (below k))
    clash (inr l) k = not-le_of_lt (val-step b) (le-values (F false (suc b)) (round binary64 false (val b) ONE) (val (suc b)) (val b) (F-value false (suc b) l) exact (below k))

-- ---- the sign goes through `round`
-- how many digits `round` drops of N / D, and the number that it keeps
abbrev dropped : ℕ → ℕ → ℕ
dropped N D = size (N * 2 ^ 1074 / D) - 53

abbrev kept : ℕ → ℕ → ℕ
kept N D = nearest (N * 2 ^ 1074 / (D * 2 ^ dropped N D)) (compare (N * 2 ^ 1074 % (D * 2 ^ dropped N D) * 2) (D * 2 ^ dropped N D))

round-units : (s : Bool) (N D : ℕ) → round binary64 s N D ≡ units binary64 s (kept N D) (dropped N D)
unfolding round
round-units s N D = refl

units-neg : (q k : ℕ) → units binary64 true q k ≡ neg (units binary64 false q k)
unfolding units neg
units-neg q k = go (ltb (q * 2 ^ k) (2 ^ 2098))
  where
    go : (t : Bool) → cond t (odd 54 true q k 1074) (inf true) ≡ neg (cond t (odd 54 false q k 1074) (inf false))
    go true = odd-neg 54 q k 1074
    go false = refl

pub round-neg : (N D : ℕ) → round binary64 true N D ≡ neg (round binary64 false N D)
round-neg N D = round-units true N D ∙ units-neg (kept N D) (dropped N D) ∙ ap neg (sym (round-units false N D))

negative : Float → Bool
negative nan = false
negative (inf s) = s
negative (fin s m e) = s

value-sign : (x : Float) (s : Bool) (v : ℕ) → HasValue x s v ONE → negative x ≡ s
unfolding negative
value-sign nan s v p = absurd p
value-sign (inf t) s v p = absurd p
value-sign (fin t m e) s v p = p.0

F-sign : (s : Bool) (b : ℕ) → b ≤ INF → negative (F s b) ≡ s
unfolding negative
F-sign s b h = go (eq-or-lt_of_le h)
  where
    go : (b ≡ INF) ⊎ (b < INF) → negative (F s b) ≡ s
    go (inl e) = ap negative (ap (F s) e ∙ F-inf s)
    go (inr l) = value-sign (F s b) s (val b) (F-value s b l)

odd-sign-of : (d q k l : ℕ) → negative (odd d false q k l) ≡ false
unfolding odd negative
odd-sign-of d zero k l = refl
odd-sign-of d (suc q) k l = refl

units-sign : (q k : ℕ) → negative (units binary64 false q k) ≡ false
unfolding units negative
units-sign q k = go (ltb (q * 2 ^ k) (2 ^ 2098))
  where
    go : (t : Bool) → negative (cond t (odd 54 false q k 1074) (inf false)) ≡ false
    go true = odd-sign-of 54 q k 1074
    go false = refl

round-sign : (N D : ℕ) → negative (round binary64 false N D) ≡ false
round-sign N D = ap negative (round-units false N D) ∙ units-sign (kept N D) (dropped N D)

odd-num : (d q k l : ℕ) → T (not (is_nan (odd d false q k l)))
unfolding odd is_nan
odd-num d zero k l = tt
odd-num d (suc q) k l = tt

units-num : (q k : ℕ) → T (not (is_nan (units binary64 false q k)))
unfolding units is_nan
units-num q k = go (ltb (q * 2 ^ k) (2 ^ 2098))
  where
    go : (t : Bool) → T (not (is_nan (cond t (odd 54 false q k 1074) (inf false))))
    go true = odd-num 54 q k 1074
    go false = tt

round-num : (N D : ℕ) → T (not (is_nan (round binary64 false N D)))
round-num N D = subst (λ (x : Float). T (not (is_nan x))) (sym (round-units false N D)) (units-num (kept N D) (dropped N D))

-- ---- what N / D rounds to has the sign that was handed over, and an index that the sign does not change
pub record Rounded (N D : ℕ) : Type 0 where
  pub index : ℕ
  pub within : index ≤ INF
  pub size_is : round binary64 false N D ≡ F false index
  pub is : (s : Bool) → round binary64 s N D ≡ F s index

pub rounded : (N D : ℕ) → Rounded N D
rounded N D = go v.sign (sym (F-sign v.sign v.index v.within) ∙ ap negative (sym v.is) ∙ round-sign N D) v.is
  where
    v : View (round binary64 false N D)
    v = view (round binary64 false N D) (round-fits binary64 false N D) (round-num N D)

    both : round binary64 false N D ≡ F false v.index → (s : Bool) → round binary64 s N D ≡ F s v.index
    both e true = round-neg N D ∙ ap neg e ∙ sym (F-neg v.index (in_top v.index v.within))
    both e false = e

    go : (s : Bool) → s ≡ false → round binary64 false N D ≡ F s v.index → Rounded N D
    go true e is = absurd (true≢false e)
    go false e is = record { index = v.index; within = v.within; size_is = is; is = both is }
