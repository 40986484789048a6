-- Sixteen times a float of at most 2,048 in size is a float, so that its whole part and what is left of it can be told from it. Assumes nothing.
use Rattle.std.specs.Prelude.{◌≡◌, ℕ, zero, suc, ◌+◌, ◌-◌, ◌*◌, ◌/◌, ◌%◌, ◌^◌, ◌<◌, ◌≤◌, min, Bool, true, false, cond, not, ◌&&◌, ◌||◌, T, ◌⊎◌, ℤ, pos, negsuc, neg_ℤ, FitsSigned, ◌==◌, nat_le, nat_lt, Float}
use Rattle.std.proofs.Common.{le_trans, le_of_eq, lt_of_not-le, not-le_of_lt, lt_of_le_of_lt, mul-one, one-mul, zero-mul, mul_assoc, mul_comm, mul_left_comm, mul_right_comm, mul-pos, mul-le-mul_right, le_of_mul-le-mul_right, div-add-mod', div-mul-le_self, arith, ◌∙◌, inl, inr, eqb→eq, ltb→lt, leb→le, lit<, lit≤, pow-add, pow_pos}
use Rattle.std.proofs.Math.Nat.{eq_of_mul-eq-mul_right, div-le_of_le-mul, mod-eq-sub-div-mul}
use Rattle.std.proofs.Math.Decide.{dec_lt}
use Rattle.std.proofs.Math.Path.{refl, sym, ap, subst}
use Rattle.std.specs.Bool.{beq}
use Rattle.std.proofs.Math.Dec.{lt→ltb, le→leb}
use Rattle.std.proofs.Math.Pow.{pow-lt}
use Rattle.std.specs.Float.{nan, inf, fin}
use Rattle.std.specs.Float.Ieee.{binary64, up, down, below, level, lt, le, eq, mul, round, of_int, to_signed, fits, in_float}
use Rattle.std.specs.Float.Ieee.Fits.{down_pos, and_l, and_r}
use Rattle.std.specs.Float.Ieee.Exact.{HasValue, round_exact}
use Rattle.std.specs.Float.Ieee.Back.{round_whole}
use Rattle.std.specs.Float.Ieee.Nearest.{div_same}
use Rattle.std.specs.Float.Ieee.Casts.{to_signed_in}
use Rattle.std.specs.Int.{w64}
use borrow.Author.Tests.{ltb-true, ltb-false, leb-true, eqb-true, eqb-false, lt-ltb, le-ltb, le-leb, eq-eqb, ne_eqb}
use Rattle.float_grid.specs.Grid.{on_grid, signed, counted, sixteenths}

-- ---- the two tests of the size

no_truth : false ≡ true → ⊥
no_truth e = subst (λ (b : Bool). T (not b)) e tt

and-true : (b : Bool) → (b && true) ≡ b
and-true true = refl
and-true false = refl

or_right : (b : Bool) → (b || true) ≡ true
or_right true = refl
or_right false = refl

-- a ≤ b as the floats' order has it, on the positive and on the negative side
not-above : (a b : ℕ) → a ≤ b → (nat_lt a b || (a == b && true)) ≡ true
not-above a b h = elim (dec_lt a b) [
  | yes less ↦ rw (lt-ltb a b less)
  | no more ↦ rw (eq-eqb a b (omega arith)) (or_right (nat_lt a b))
]

not-above-told : (a b : ℕ) → (nat_lt a b || (a == b && true)) ≡ true → a ≤ b
not-above-told a b h = elim (dec_lt a b) [
  | yes less ↦ omega arith
  | no more ↦ told (nat_lt a b) (le-ltb a b (omega arith)) h
]
  where
    told : (t : Bool) → t ≡ false → (t || (a == b && true)) ≡ true → a ≤ b
    told true e q = absurd (no_truth (sym e))
    told false e q = le_of_eq (eqb-true a b (kept (a == b) q))
      where
        kept : (u : Bool) → (u && true) ≡ true → u ≡ true
        kept true r = r
        kept false r = r

module _ (s : Bool) (m : ℕ) (e : ℤ) where
  -- "at most 2,048 mm in size", both ways
  pub within : le (fin true 1 (pos 11)) (fin s m e) ≡ true → le (fin s m e) (fin false 1 (pos 11)) ≡ true → m * up e ≤ 2048 * down e
  unfolding le lt eq
  within = by s
    where
      by : (t : Bool) → (below true (1 * 2048 * down e) t (m * up e * 1) || level true (1 * 2048 * down e) t (m * up e * 1)) ≡ true
          → (below t (m * up e * 1) false (1 * 2048 * down e) || level t (m * up e * 1) false (1 * 2048 * down e)) ≡ true → m * up e ≤ 2048 * down e
      by true low high = omega (arith, lesser (m * up e * 1) (1 * 2048 * down e) low)
        where
          lesser : (a b : ℕ) → (nat_lt a b || (b == a && true)) ≡ true → a ≤ b
          lesser a b q = not-above-told a b (ap (λ t. nat_lt a b || (t && true)) (turned (b == a) refl) ∙ q)
            where
              turned : (t : Bool) → (b == a) ≡ t → (a == b) ≡ t
              turned true f = eq-eqb a b (sym (eqb-true b a f))
              turned false f = ne_eqb a b (λ g. eqb-false b a f (sym g))
      by false low high = omega (arith, not-above-told (m * up e * 1) (1 * 2048 * down e) high)

  pub low-passed : m * up e ≤ 2048 * down e → le (fin true 1 (pos 11)) (fin s m e) ≡ true
  unfolding le lt eq
  low-passed h = by s
    where
      by : (t : Bool) → (below true (1 * 2048 * down e) t (m * up e * 1) || level true (1 * 2048 * down e) t (m * up e * 1)) ≡ true
      by true = elim (dec_lt (m * up e * 1) (1 * 2048 * down e)) [
        | yes less ↦ rw (lt-ltb (m * up e * 1) (1 * 2048 * down e) less)
        | no more ↦ rw (eq-eqb (1 * 2048 * down e) (m * up e * 1) (omega arith)) (or_right (nat_lt (m * up e * 1) (1 * 2048 * down e)))
      ]
      by false = let d = down_pos e in rw (lt-ltb 0 (1 * 2048 * down e + m * up e * 1) (omega arith))

  pub high-passed : m * up e ≤ 2048 * down e → le (fin s m e) (fin false 1 (pos 11)) ≡ true
  unfolding le lt eq
  high-passed h = by s
    where
      by : (t : Bool) → (below t (m * up e * 1) false (1 * 2048 * down e) || level t (m * up e * 1) false (1 * 2048 * down e)) ≡ true
      by true = let d = down_pos e in rw (lt-ltb 0 (m * up e * 1 + 1 * 2048 * down e) (omega arith))
      by false = not-above (m * up e * 1) (1 * 2048 * down e) (omega arith)

-- what is on the grid is in that range
pub grid-within : (s : Bool) (m : ℕ) (e : ℤ) → on_grid (fin s m e) ≡ true → m * up e ≤ 2048 * down e
unfolding on_grid
grid-within s m e h =
    let whole : m * up e * 16 % down e ≡ 0 = eqb-true (m * up e * 16 % down e) 0 (first (m * up e * 16 % down e == 0) _ h) in
    let small : m * up e * 16 / down e ≤ 32768 = leb-true (m * up e * 16 / down e) 32768 (second (m * up e * 16 % down e == 0) _ h) in
    let all : m * up e * 16 / down e * down e + m * up e * 16 % down e ≡ m * up e * 16 = div-add-mod' (m * up e * 16) (down e) in
    let most : m * up e * 16 / down e * down e ≤ 32768 * down e = mul-le-mul_right (down e) small in
    omega (arith, whole, all, most)
  where
    first : (a b : Bool) → (a && b) ≡ true → a ≡ true
    first true b q = refl
    first false b q = q

    second : (a b : Bool) → (a && b) ≡ true → b ≡ true
    second true b q = q
    second false b q = absurd (no_truth q)

-- ---- sixteen times it

-- the digits that the format keeps, and the place of the last one
digits : (s : Bool) (m : ℕ) (e : ℤ) → T (fits binary64 (fin s m e)) → (m < 2 ^ 53) × (down e ≤ 2 ^ 1074)
unfolding fits
digits s zero (pos k) f = (lit< tt, lit≤ tt)
digits s zero (negsuc k) f = let one : 1 * 2 ^ suc k ≡ 1 = eqb→eq (1 * 2 ^ suc k) 1 f in (lit< tt, le_trans (le_of_eq (sym (one-mul (2 ^ suc k)) ∙ one)) (lit≤ tt))
digits s (suc m) e f =
    let a = and_l (suc m % 2 == 1 && nat_lt (suc m) (2 ^ 53) && nat_le (down e) (2 ^ 1074)) _ f in
    (ltb→lt (suc m) (2 ^ 53) (and_r (suc m % 2 == 1) _ (and_l (suc m % 2 == 1 && nat_lt (suc m) (2 ^ 53)) _ a)), leb→le (down e) (2 ^ 1074) (and_r (suc m % 2 == 1 && nat_lt (suc m) (2 ^ 53)) _ a))

-- the same number in units of 2 ^ -L, as q * 2 ^ j of them
up-place : (m k L : ℕ) → m * 2 ^ k * 16 * 2 ^ L ≡ m * 2 ^ (k + 4 + L) * 1
up-place m k L = grouped m (2 ^ k) 16 (2 ^ L) ∙ ap (λ (z : ℕ). m * z) (ap (λ (z : ℕ). z * 2 ^ L) (sym (pow-add 2 k 4)) ∙ sym (pow-add 2 (k + 4) L)) ∙ sym (mul-one (m * 2 ^ (k + 4 + L)))
  where
    grouped : (m a b c : ℕ) → m * a * b * c ≡ m * (a * b * c)
    grouped m a b c = simp mul_assoc

down-place : (m n L : ℕ) → n ≤ L → m * 1 * 16 * 2 ^ L ≡ m * 2 ^ (4 + (L - n)) * 2 ^ n
down-place m n L h =
    let back : L - n + n ≡ L = omega arith in
    let parts : 2 ^ L ≡ 2 ^ (L - n) * 2 ^ n = ap (λ (z : ℕ). 2 ^ z) (sym back) ∙ pow-add 2 (L - n) n in
    ap (λ (z : ℕ). m * 1 * 16 * z) parts ∙ grouped m 16 (2 ^ (L - n)) (2 ^ n) ∙ ap (λ (z : ℕ). m * z * 2 ^ n) (sym (pow-add 2 4 (L - n)))
  where
    grouped : (m a b c : ℕ) → m * 1 * a * (b * c) ≡ m * (a * b) * c
    grouped m a b c = ap (λ (z : ℕ). z * a * (b * c)) (mul-one m) ∙ sym (mul_assoc (m * a) b c) ∙ ap (λ (z : ℕ). z * c) (mul_assoc m a b)

-- at most 32,768 * 2 ^ L units, which the format holds
held : (num den p L : ℕ) → 0 < den → num ≤ 32768 * den → num * 2 ^ L ≡ p * den → p < 2 ^ (L + 1024)
held num den p L d small e =
    let less : 15 + L < L + 1024 = omega arith in
    lt_of_le_of_lt most (subst (λ (z : ℕ). z < 2 ^ (L + 1024)) (pow-add 2 15 L) (pow-lt less))
  where
    most : p ≤ 32768 * 2 ^ L
    most = le_of_mul-le-mul_right (le_trans (le_of_eq (sym e)) (le_trans (mul-le-mul_right (2 ^ L) small) (le_of_eq (mul_right_comm 32768 den (2 ^ L))))) d

exact : (s : Bool) (m : ℕ) (e : ℤ) → T (fits binary64 (fin s m e)) → m * up e * 16 ≤ 32768 * down e → HasValue (round binary64 s (m * up e * 16) (down e)) s (m * up e * 16) (down e)
exact s m (pos k) f h = let q = digits s m (pos k) f in let place = up-place m k 1074 in round_exact binary64 s (m * 2 ^ k * 16) 1 m (k + 4 + 1074) (lit< tt) q.0 (held (m * 2 ^ k * 16) 1 (m * 2 ^ (k + 4 + 1074)) 1074 (lit< tt) h place) place
exact s m (negsuc k) f h =
    let q = digits s m (negsuc k) f in
    let n : suc k ≤ 1074 = fewer q.1 in
    let place = down-place m (suc k) 1074 n in
    round_exact binary64 s (m * 1 * 16) (2 ^ suc k) m (4 + (1074 - suc k)) (pow_pos (suc k)) q.0 (held (m * 1 * 16) (2 ^ suc k) (m * 2 ^ (4 + (1074 - suc k))) 1074 (pow_pos (suc k)) h place) place
  where
    fewer : 2 ^ suc k ≤ 2 ^ 1074 → suc k ≤ 1074
    fewer g = elim (dec_lt 1074 (suc k)) [
      | yes more ↦ absurd (not-le_of_lt (pow-lt more) g)
      | no less ↦ omega arith
    ]

abbrev pub sixteen : Float
sixteen = fin false 1 (pos 4)

-- x * 16 is not rounded
pub scaled : (s : Bool) (m : ℕ) (e : ℤ) → T (fits binary64 (fin s m e)) → m * up e ≤ 2048 * down e → HasValue (mul binary64 (fin s m e) sixteen) s (m * up e * 16) (down e)
unfolding mul
scaled true m e f h = subst (λ (d : ℕ). HasValue (round binary64 true (m * up e * 16) d) true (m * up e * 16) (down e)) (sym (mul-one (down e))) (exact true m e f (omega arith))
scaled false m e f h = subst (λ (d : ℕ). HasValue (round binary64 false (m * up e * 16) d) false (m * up e * 16) (down e)) (sym (mul-one (down e))) (exact false m e f (omega arith))

-- ---- what is told from a float y of A / D in size, at most 32,768

-- a sign and a size, as a cast has them
signed-cond : (t : Bool) (a b n : ℕ) → a ≡ n → b ≡ n → cond t (neg_ℤ (pos a)) (pos b) ≡ signed t n
signed-cond true a b n e f = ap (λ (k : ℕ). neg_ℤ (pos k)) e
signed-cond false a b n e f = ap pos f

module _ (t s : Bool) (m : ℕ) (e : ℤ) (A D : ℕ) (d : 0 < D) (small : A ≤ 32768 * D) (v : HasValue (fin t m e) s A D) where
  quotient-small : A / D ≤ 32768
  quotient-small = div-le_of_le-mul D (omega (arith, mul_comm 32768 D))

  same-quotient : m * up e / down e ≡ A / D
  same-quotient = div_same (m * up e) (down e) A D (down_pos e) d v.1

  -- it is cut to its whole part
  cut-fin : to_signed 63 (fin t m e) ≡ signed s (A / D)
  unfolding to_signed
  cut-fin =
      let q = quotient-small in
      let n = same-quotient in
      signed-cond t (min (m * up e / down e) (2 ^ 63)) (min (m * up e / down e) (2 ^ 63 - 1)) (A / D) (omega arith) (omega arith) ∙ ap (λ (z : Bool). signed z (A / D)) v.0

  short : m * up e ≤ 32768 * down e
  short =
      le_of_mul-le-mul_right
      (le_trans (le_of_eq v.1) (le_trans (mul-le-mul_right (down e) small) (le_of_eq (mul_right_comm 32768 D (down e)))))
      d

  low-fin : T (le (fin true 1 (pos 63)) (fin t m e))
  unfolding le lt eq
  low-fin = by t
    where
      by : (u : Bool) → T (below true (1 * 2 ^ 63 * down e) u (m * up e * 1) || level true (1 * 2 ^ 63 * down e) u (m * up e * 1))
      by true = let h = short in let g = down_pos e in subst (λ (z : Bool). T (z || level true (1 * 2 ^ 63 * down e) true (m * up e * 1))) (sym (lt-ltb (m * up e * 1) (1 * 2 ^ 63 * down e) (omega arith))) tt
      by false = let g = down_pos e in subst (λ (z : Bool). T (z || level true (1 * 2 ^ 63 * down e) false (m * up e * 1))) (sym (lt-ltb 0 (1 * 2 ^ 63 * down e + m * up e * 1) (omega arith))) tt

  high-fin : T (lt (fin t m e) (fin false 1 (pos 63)))
  unfolding lt
  high-fin = by t
    where
      by : (u : Bool) → T (below u (m * up e * 1) false (1 * 2 ^ 63 * down e))
      by true = let g = down_pos e in subst T (sym (lt-ltb 0 (m * up e * 1 + 1 * 2 ^ 63 * down e) (omega arith))) tt
      by false = let h = short in let g = down_pos e in subst T (sym (lt-ltb (m * up e * 1) (1 * 2 ^ 63 * down e) (omega arith))) tt

  -- the whole part is all of it exactly where nothing is left of the division
  whole-fin : (u : Bool) (k : ℕ) (f : ℤ) → k * up f * 1 ≡ A / D * down f → (beq u t || k * up f * down e == 0) ≡ true → eq (fin u k f) (fin t m e) ≡ (A % D == 0)
  unfolding eq
  whole-fin u k f h alike = ap (λ (b : Bool). (k * up f * down e == m * up e * down f) && b) alike ∙ and-true (k * up f * down e == m * up e * down f) ∙ left (A % D == 0) refl
    where
      whole : k * up f ≡ A / D * down f
      whole = sym (mul-one (k * up f)) ∙ h

      left : (b : Bool) → (A % D == 0) ≡ b → (k * up f * down e == m * up e * down f) ≡ b
      left true r = eq-eqb (k * up f * down e) (m * up e * down f) (ap (λ (z : ℕ). z * down e) whole ∙ mul_right_comm (A / D) (down f) (down e) ∙ ap (λ (z : ℕ). z * down f) (sym all))
        where
          rest : A / D * D ≡ A
          rest = let z = eqb-true (A % D) 0 r in omega (arith, div-add-mod' A D)

          all : m * up e ≡ A / D * down e
          all = eq_of_mul-eq-mul_right D d (m * up e) (A / D * down e) (v.1 ∙ ap (λ (z : ℕ). z * down e) (sym rest) ∙ mul_right_comm (A / D) D (down e))
      left false r = ne_eqb (k * up f * down e) (m * up e * down f) (λ same. eqb-false (A % D) 0 r (none same))
        where
          all : k * up f * down e ≡ m * up e * down f → A / D * down e ≡ m * up e
          all same = eq_of_mul-eq-mul_right (down f) (down_pos f) (A / D * down e) (m * up e) (mul_right_comm (A / D) (down e) (down f) ∙ ap (λ (z : ℕ). z * down e) (sym whole) ∙ same)

          rest : k * up f * down e ≡ m * up e * down f → A / D * D ≡ A
          rest same = eq_of_mul-eq-mul_right (down e) (down_pos e) (A / D * D) A (mul_right_comm (A / D) D (down e) ∙ ap (λ (z : ℕ). z * D) (all same) ∙ v.1)

          none : k * up f * down e ≡ m * up e * down f → A % D ≡ 0
          none same = let g = rest same in omega (arith, div-add-mod' A D)

  unsigned-fin : (y : Float) → HasValue y false (A / D) 1 → (A / D ≡ 0) ⊎ (t ≡ false) → eq y (fin t m e) ≡ (A % D == 0)
  unsigned-fin nan h z = absurd h
  unsigned-fin (inf u) h z = absurd h
  unsigned-fin (fin u k f) h z = whole-fin u k f h.1 (go z)
    where
      nothing : A / D ≡ 0 → k * up f * down e ≡ 0
      nothing q = let g : k * up f * 1 ≡ 0 * down f = h.1 ∙ ap (λ (n : ℕ). n * down f) q in let none : k * up f ≡ 0 = omega arith in ap (λ (n : ℕ). n * down e) none ∙ zero-mul (down e)

      go : (A / D ≡ 0) ⊎ (t ≡ false) → (beq u t || k * up f * down e == 0) ≡ true
      go (inl q) = rw (eq-eqb (k * up f * down e) 0 (nothing q)) (or_right (beq u t))
      go (inr q) = rw (h.0, q)

  negative-fin : (y : Float) → HasValue y true (A / D) 1 → t ≡ true → eq y (fin t m e) ≡ (A % D == 0)
  negative-fin nan h z = absurd h
  negative-fin (inf u) h z = absurd h
  negative-fin (fin u k f) h z = whole-fin u k f h.1 (rw (h.0, z))

  back-fin : eq (of_int binary64 (signed s (A / D))) (fin t m e) ≡ (A % D == 0)
  unfolding of_int
  back-fin = by s v.0 (A / D) refl quotient-small
    where
      by : (u : Bool) → t ≡ u → (n : ℕ) → A / D ≡ n → n ≤ 32768 → eq (of_int binary64 (signed u n)) (fin t m e) ≡ (A % D == 0)
      by false q n g h = unsigned-fin (round binary64 false n 1) (subst (λ (z : ℕ). HasValue (round binary64 false n 1) false z 1) (sym g) (round_whole binary64 false n (le_trans h (lit≤ tt)))) (inr q)
      by true q zero g h = unsigned-fin (round binary64 false 0 1) (subst (λ (z : ℕ). HasValue (round binary64 false 0 1) false z 1) (sym g) (round_whole binary64 false 0 (lit≤ tt))) (inl g)
      by true q (suc n) g h = negative-fin (round binary64 true (suc n) 1) (subst (λ (z : ℕ). HasValue (round binary64 true (suc n) 1) true z 1) (sym g) (round_whole binary64 true (suc n) (le_trans h (lit≤ tt)))) q

-- ---- the same of any float that has the size

module _ (y : Float) (s : Bool) (A D : ℕ) (d : 0 < D) (small : A ≤ 32768 * D) (v : HasValue y s A D) where
  pub cut : to_signed 63 y ≡ signed s (A / D)
  cut = of y v
    where
      of : (z : Float) → HasValue z s A D → to_signed 63 z ≡ signed s (A / D)
      of nan h = absurd h
      of (inf t) h = absurd h
      of (fin t m e) h = cut-fin t s m e A D d small h

  pub in-range : T (le (fin true 1 (pos 63)) y) × T (lt y (fin false 1 (pos 63)))
  in-range = of y v
    where
      of : (z : Float) → HasValue z s A D → T (le (fin true 1 (pos 63)) z) × T (lt z (fin false 1 (pos 63)))
      of nan h = absurd h
      of (inf t) h = absurd h
      of (fin t m e) h = (low-fin t s m e A D d small h, high-fin t s m e A D d small h)

  pub back : eq (of_int binary64 (signed s (A / D))) y ≡ (A % D == 0)
  back = of y v
    where
      of : (z : Float) → HasValue z s A D → eq (of_int binary64 (signed s (A / D))) z ≡ (A % D == 0)
      of nan h = absurd h
      of (inf t) h = absurd h
      of (fin t m e) h = back-fin t s m e A D d small h

-- ---- the calls

-- a float in the range, with its parts
pub record Inside (x : Float) : Type 0 where
  pub sign : Bool
  pub digits : ℕ
  pub power : ℤ
  pub is : fin sign digits power ≡ x
  pub bound : digits * up power ≤ 2048 * down power

pub inside : (x : Float) → le (fin true 1 (pos 11)) x ≡ true → le x (fin false 1 (pos 11)) ≡ true → Inside x
unfolding le lt eq
inside nan low high = absurd (no_truth low)
inside (inf true) low high = absurd (no_truth low)
inside (inf false) low high = absurd (no_truth high)
inside (fin s m e) low high = record { sign = s; digits = m; power = e; is = refl; bound = within s m e low high }

pub inside-grid : (x : Float) → on_grid x ≡ true → Inside x
unfolding on_grid
inside-grid nan h = absurd (no_truth h)
inside-grid (inf s) h = absurd (no_truth h)
inside-grid (fin s m e) h = record { sign = s; digits = m; power = e; is = refl; bound = grid-within s m e h }

-- out of it, nothing is on the grid
off : (x : Float) (t : Bool) → t ≡ false → ((s : Bool) (m : ℕ) (e : ℤ) → x ≡ fin s m e → m * up e ≤ 2048 * down e → t ≡ true) → false ≡ on_grid x
off x t h passed = refused (on_grid x) refl
  where
    refused : (b : Bool) → on_grid x ≡ b → false ≡ b
    refused true g = let i = inside-grid x g in sym h ∙ passed i.sign i.digits i.power (sym i.is) i.bound
    refused false g = refl

pub too-low : (x : Float) → le (fin true 1 (pos 11)) x ≡ false → false ≡ on_grid x
too-low x h = off x (le (fin true 1 (pos 11)) x) h (λ s m e is b. ap (le (fin true 1 (pos 11))) is ∙ low-passed s m e b)

pub too-high : (x : Float) → le x (fin false 1 (pos 11)) ≡ false → false ≡ on_grid x
too-high x h = off x (le x (fin false 1 (pos 11))) h (λ s m e is b. ap (λ (z : Float). le z (fin false 1 (pos 11))) is ∙ high-passed s m e b)

module _ (x : Float) (f : T (fits binary64 x)) (i : Inside x) where
  abbrev A : ℕ
  A = i.digits * up i.power * 16

  abbrev D : ℕ
  D = down i.power

  product : HasValue (mul binary64 x sixteen) i.sign A D
  product = subst (λ (z : Float). HasValue (mul binary64 z sixteen) i.sign A D) i.is (scaled i.sign i.digits i.power (subst (λ (z : Float). T (fits binary64 z)) (sym i.is) f) i.bound)

  small : A ≤ 32768 * D
  small = let b = i.bound in omega arith

  few : A / D ≤ 32768
  few = div-le_of_le-mul D (let b = small in omega (arith, mul_comm 32768 D))

  pub castable : T (le (fin true 1 (pos 63)) (mul binary64 x sixteen)) × T (lt (mul binary64 x sixteen) (fin false 1 (pos 63)))
  castable = in-range (mul binary64 x sixteen) i.sign A D (down_pos i.power) small product

  whole_part : to_signed 63 (mul binary64 x sixteen) ≡ signed i.sign (A / D)
  whole_part = cut (mul binary64 x sixteen) i.sign A D (down_pos i.power) small product

  -- the whole part is a number that `f64` and `i64` hold
  pub countable : T (in_float binary64 (to_signed 63 (mul binary64 x sixteen)))
  unfolding in_float
  countable = subst (λ (z : ℤ). T (in_float binary64 z)) (sym whole_part) (by i.sign (A / D) few)
    where
      by : (s : Bool) (n : ℕ) → n ≤ 32768 → T (in_float binary64 (signed s n))
      by true zero h = tt
      by true (suc n) h = lt→ltb n (2 ^ 53) (le_trans h (lit≤ tt))
      by false n h = le→leb n (2 ^ 53) (le_trans h (lit≤ tt))

  pub fitting : FitsSigned w64 (to_signed 63 (mul binary64 x sixteen))
  fitting = record { sfits = to_signed_in 63 (mul binary64 x sixteen) }

  pub tested : eq (of_int binary64 (to_signed 63 (mul binary64 x sixteen))) (mul binary64 x sixteen) ≡ on_grid x
  unfolding on_grid
  tested =
      ap (λ (z : ℤ). eq (of_int binary64 z) (mul binary64 x sixteen)) whole_part
      ∙ back (mul binary64 x sixteen) i.sign A D (down_pos i.power) small product
      ∙ sym (ap (λ (b : Bool). (A % D == 0) && b) (le-leb (A / D) 32768 few) ∙ and-true (A % D == 0))
      ∙ ap on_grid i.is

  pub read : on_grid x ≡ true → to_signed 63 (mul binary64 x sixteen) ≡ sixteenths x
  unfolding sixteenths
  read g =
      whole_part
      ∙ sym (ap (λ (b : Bool). counted b i.sign (A / D)) (ap on_grid i.is ∙ g))
      ∙ ap sixteenths i.is
