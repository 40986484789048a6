-- Rounding keeps the order of fractions of either sign. Assumes nothing.
use Rattle.std.specs.Prelude.{◌≡◌, refl, ℕ, zero, suc, ◌+◌, ◌*◌, ◌≤◌, ◌<◌, Bool, true, false, not, cond, T, Float}
use Rattle.std.proofs.Common.{sym, ap, ◌∙◌, subst, le_refl, le_antisymm, add-mul, mul-one, suc-mul, arith, lit≤, pow_pos}
use Rattle.std.specs.Float.{inf, binary64}
use Rattle.std.specs.Float.Ieee.{is_nan, round, le, of_bits}
use Rattle.std.specs.Float.Ieee.Order.{round_mono}
use Rattle.float_order.specs.Next.{INF}
use Rattle.float_values.specs.Laws.Patterns.{F, F-inf, F-no-nan}
use Rattle.float_values.specs.Laws.Central.{rounded}
use Rattle.float_values.specs.Laws.Order.{Before, le-before, F-at}
use Rattle.float_values.specs.Laws.Adjacent.{before-le}
use Rattle.interval_narrowing.specs.Laws.Numbers.{BIG}

abbrev index : ℕ → ℕ → ℕ
index N D = (rounded N D).index

index-mono : (N D M E : ℕ) → 0 < D → 0 < E → N * E ≤ M * D → index N D ≤ index M E
index-mono N D M E P Q h =
    let v = rounded N D in
    let w = rounded M E in
    le-before false v.index false w.index v.within w.within
    (subst (λ (z : Float). T (le z (F false w.index))) v.size_is (subst (λ (z : Float). T (le (round binary64 false N D) z)) w.size_is (round_mono binary64 N D M E P Q h)))

-- ---- a zero, and what overflows
zero_is : round binary64 false 0 1 ≡ F false 0
unfolding round F of_bits
zero_is = refl

big-is : round binary64 false BIG 1 ≡ inf false
unfolding BIG round
big-is = refl

same_index : (b c : ℕ) → b ≤ INF → c ≤ INF → F false b ≡ F false c → b ≤ c
same_index b c B C e = le-before false b false c B C (subst (λ (z : Float). T (le (F false b) z)) e (before-le false b false b B B (le_refl b)))

index-zero : (N D : ℕ) → 0 < D → N ≡ 0 → index N D ≡ 0
index-zero N D P e = none (index N D) (index 0 1)
    (index-mono N D 0 1 P (pow_pos 0) (le-zero N D e))
    (same_index (index 0 1) 0 (rounded 0 1).within (lit≤ tt) (sym (rounded 0 1).size_is ∙ zero_is))
  where
    le-zero : (N D : ℕ) → N ≡ 0 → N * 1 ≤ 0 * D
    le-zero N D e = omega arith

    none : (a b : ℕ) → a ≤ b → b ≤ 0 → a ≡ 0
    none a b h k = omega arith

pub overflows : (s : Bool) (N D : ℕ) → 0 < D → BIG * D ≤ N → round binary64 s N D ≡ inf s
overflows s N D P h =
    let v = rounded N D in
    let w = rounded BIG 1 in
    let k : INF ≤ index BIG 1 = same_index INF w.index (le_refl INF) w.within (F-inf false ∙ sym big-is ∙ w.size_is) in
    let i : index BIG 1 ≤ index N D = index-mono BIG 1 N D (pow_pos 0) P (subst (λ (z : ℕ). BIG * D ≤ z) (sym (mul-one N)) h) in
    v.is s ∙ F-at s v.index (le_antisymm v.within (up (index BIG 1) v.index k i))
  where
    up : (a b : ℕ) → INF ≤ a → a ≤ b → INF ≤ b
    up a b h k = omega arith

-- ---- the order, by the signs
round-le : (s : Bool) (N D : ℕ) (t : Bool) (M E : ℕ) → 0 < D → 0 < E → cond s 0 N * E + cond t M 0 * D ≤ cond t 0 M * D + cond s N 0 * E
    → T (le (round binary64 s N D) (round binary64 t M E))
round-le s N D t M E P Q h =
    subst (λ (z : Float). T (le z (round binary64 t M E))) (sym ((rounded N D).is s))
    (subst (λ (z : Float). T (le (F s (index N D)) z)) (sym ((rounded M E).is t))
    (before-le s (index N D) t (index M E) (rounded N D).within (rounded M E).within (go s t h)))
  where
    first : (N E r : ℕ) → 0 < E → N * E + r ≤ 0 → N ≡ 0
    first zero E r Q h = refl
    first (suc N) E r Q h = absurd (no E (N * E) r Q (subst (λ (z : ℕ). z + r ≤ 0) (suc-mul N E) h))
      where
        no : (E w r : ℕ) → 0 < E → w + E + r ≤ 0 → ⊥
        no E w r Q h = omega arith

    go : (s t : Bool) → cond s 0 N * E + cond t M 0 * D ≤ cond t 0 M * D + cond s N 0 * E → Before s (index N D) t (index M E)
    go false false h = index-mono N D M E P Q (omega arith)
    go true true h = index-mono M E N D Q P (omega arith)
    go true false h = tt
    go false true h = (index-zero N D P (first N E (M * D) Q (omega arith)), index-zero M E Q (first M D (N * E) P (omega arith)))

-- ---- r is (p - n) / D rounded
pub record Rounds (D : ℕ) (r : Float) (p n : ℕ) : Type 0 where
  pub sign : Bool
  pub size : ℕ
  pub is : r ≡ round binary64 sign size D
  pub number : p + cond sign size 0 ≡ cond sign 0 size + n

pub rounds-le : (D E : ℕ) (r q : Float) (p n p' n' : ℕ) → 0 < D → 0 < E → Rounds D r p n → Rounds E q p' n' → p * E + n' * D ≤ p' * D + n * E → T (le r q)
rounds-le D E r q p n p' n' P Q v w h =
    subst (λ (z : Float). T (le z q)) (sym v.is)
    (subst (λ (z : Float). T (le (round binary64 v.sign v.size D) z)) (sym w.is)
    (round-le v.sign v.size D w.sign w.size E P Q (go (cond v.sign 0 v.size) (cond v.sign v.size 0) (cond w.sign 0 w.size) (cond w.sign w.size 0) v.number w.number)))
  where
    go : (a b c d : ℕ) → p + b ≡ a + n → p' + d ≡ c + n' → a * E + d * D ≤ c * D + b * E
    go a b c d i j =
        let x : (p + b) * E ≡ (a + n) * E = ap (λ (z : ℕ). z * E) i in
        let y : (p' + d) * D ≡ (c + n') * D = ap (λ (z : ℕ). z * D) j in
        let x' = add-mul p b E in
        let x'' = add-mul a n E in
        let y' = add-mul p' d D in
        let y'' = add-mul c n' D in
        omega arith

pub rounds-num : (D : ℕ) (r : Float) (p n : ℕ) → Rounds D r p n → T (not (is_nan r))
rounds-num D r p n v =
    let w = rounded v.size D in
    subst (λ (z : Float). T (not (is_nan z))) (sym (v.is ∙ w.is v.sign)) (F-no-nan v.sign w.index w.within)

-- the same number as another difference
pub rounds-at : (D : ℕ) (r : Float) (p n p' n' : ℕ) → p + n' ≡ p' + n → Rounds D r p n → Rounds D r p' n'
rounds-at D r p n p' n' h v = record { sign = v.sign; size = v.size; is = v.is; number = go (cond v.sign v.size 0) (cond v.sign 0 v.size) v.number }
  where
    go : (a b : ℕ) → p + a ≡ b + n → p' + a ≡ b + n'
    go a b e = omega arith
