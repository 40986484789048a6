-- A float that is just the fraction z / d, and the operations that do not round: up to 2 ^ 53 steps of 2 ^ -j every whole number of steps is a float.
-- Nothing is asked of how the operands are written. Assumes nothing.
use Rattle.std.specs.Prelude.{◌≡◌, refl, ℕ, zero, suc, ◌+◌, ◌-◌, ◌*◌, ◌/◌, ◌%◌, ◌^◌, ◌≤◌, ◌<◌, Bool, not, cond, T, ltb, leb, eqb, ℤ, negsuc, nat_abs, ◌+ℤ◌, ◌-ℤ◌, ◌*ℤ◌, Float}
use Rattle.std.proofs.Common.{sym, ap, ap₂, ◌∙◌, subst, inl, inr, add-zero, eq-or-lt_of_le, add-mul, mul-one, pow-suc, one-mul, mul-pos, mul-zero, zero-mul, mul_assoc, mul_comm, mul_left_comm, mul_right_comm, div-add-mod', lt_of_lt_of_le, le_of_mul-le-mul_right, mul-le-mul_right, sub-add_cancel, arith, ltb→lt, nltb→le, eqb→eq, lit<, pow-add, pow_pos, pow_mono, shl_lt}
use Rattle.std.proofs.Math.Nat.{le_of_lt, mul-mul-mul_comm}
use Rattle.std.proofs.Math.Bool.{true, false}
use Rattle.std.proofs.lemmas.Bool.{false≢true}
use Rattle.std.proofs.Math.IntN.{pos, neg_ℤ, neg_ℤ-neg_ℤ, neg_ℤ-+ℤ, +ℤ_comm}
use Rattle.std.proofs.Math.Pow.{pow-lt}
use Rattle.std.specs.Float.{nan, inf, fin}
use Rattle.std.specs.Float.Ieee.{binary64, up, down, unlike, round, neg, sum, add, sub, mul, div, of_int}
use Rattle.std.specs.Float.Ieee.Fits.{down_pos, and_l}
use Rattle.std.specs.Float.Ieee.Exact.{HasValue, round_exact}
use Rattle.std.specs.Float.Ieee.Scale.{round_same}
use Rattle.float_grid.specs.Grid.{signed, counted, on_grid, sixteenths}
use Rattle.float_values.specs.Laws.Pairs.{under}
use Rattle.float_values.specs.Laws.Integers.{diff-parts, neg-parts, same_parts}

-- x is finite and is the number z / d; zero of either sign is z = 0
pub record Exactly (x : Float) (d : ℕ) (z : ℤ) : Type 0 where
  pub sign : Bool
  pub size : ℕ
  pub value : HasValue x sign size d
  pub number : z ≡ signed sign size

-- the same number, written another way
pub same : {x : Float} {d : ℕ} {y z : ℤ} → y ≡ z → Exactly x d y → Exactly x d z
same {x} {d} e h = subst (Exactly x d) e h

pub zero-exactly : (d : ℕ) → Exactly (fin false 0 (pos 0)) d (pos 0)
zero-exactly d = record { sign = false; size = 0; value = (refl, zero-mul d); number = refl }

-- ---- whole numbers with a sign
pub abs-signed : (s : Bool) (n : ℕ) → nat_abs (signed s n) ≡ n
abs-signed true zero = refl
abs-signed true (suc n) = refl
abs-signed false n = refl

neg-signed : (s : Bool) (n : ℕ) → signed (not s) n ≡ neg_ℤ (signed s n)
neg-signed true n = sym (neg_ℤ-neg_ℤ (pos n))
neg-signed false n = refl

-- a - b, for the larger a and for the larger b
less : (a b : ℕ) → b ≤ a → pos (a - b) ≡ pos a -ℤ pos b
less a b h = let w = diff-parts (pos a) (pos b) in same_parts (pos (a - b)) (pos a -ℤ pos b) (omega arith)

short : (a b : ℕ) → a ≤ b → neg_ℤ (pos (b - a)) ≡ pos a -ℤ pos b
short a b h =
    let w = diff-parts (pos a) (pos b) in
    let n = neg-parts (pos (b - a)) in
    same_parts (neg_ℤ (pos (b - a))) (pos a -ℤ pos b) (omega arith)

product-signed : (s t : Bool) (a b : ℕ) → signed (unlike s t) (a * b) ≡ signed s a *ℤ signed t b
product-signed false false a b = refl
product-signed false true a zero = rw (mul-zero a)
product-signed false true a (suc b) = refl
product-signed true false zero b = rw (zero-mul b)
product-signed true false (suc a) b = refl
product-signed true true zero zero = refl
product-signed true true zero (suc b) = rw (zero-mul (suc b))
product-signed true true (suc a) zero = rw (mul-zero (suc a))
product-signed true true (suc a) (suc b) = refl

-- ---- rounding leaves a whole number of steps of 2 ^ -j alone, up to 2 ^ 53 of them
small : (s : Bool) (n j k : ℕ) → j + k ≡ 1074 → n ≤ 2 ^ 53 → HasValue (round binary64 s n (2 ^ j)) s n (2 ^ j)
small s n j k e h = elim (eq-or-lt_of_le h) [
  | inl g ↦
      subst (λ (n : ℕ). HasValue (round binary64 s n (2 ^ j)) s n (2 ^ j)) (sym g)
      (round_exact binary64 s (2 ^ 53) (2 ^ j) 1 (53 + k) (pow_pos j) (lit< tt) (rw (one-mul (2 ^ (53 + k))) (pow-lt (room k j e)))
      (steps (2 ^ 53) ∙ ap (λ (z : ℕ). z * 2 ^ j) (sym (pow-add 2 53 k) ∙ sym (one-mul (2 ^ (53 + k))))))
  | inr l ↦ round_exact binary64 s n (2 ^ j) n k (pow_pos j) l (lt_of_lt_of_le (shl_lt 53 k l) (pow_mono (le_of_lt (room k j e)))) (steps n)
]
  where
    room : (k j : ℕ) → j + k ≡ 1074 → 53 + k < 2098
    room k j e = omega arith

    steps : (n : ℕ) → n * 2 ^ 1074 ≡ n * 2 ^ k * 2 ^ j
    steps n = ap (λ (z : ℕ). n * 2 ^ z) (sym e) ∙ ap (λ (z : ℕ). n * z) (pow-add 2 j k ∙ mul_comm (2 ^ j) (2 ^ k)) ∙ sym (mul_assoc n (2 ^ k) (2 ^ j))

rounded : (s : Bool) (N c n j : ℕ) → 0 < c → j ≤ 1074 → N * 2 ^ j ≡ n * c → n ≤ 2 ^ 53 → Exactly (round binary64 s N c) (2 ^ j) (signed s n)
rounded s N c n j C J e h =
    record {
      sign = s;
      size = n;
      value = subst (λ (x : Float). HasValue x s n (2 ^ j)) (sym (round_same binary64 s N c n (2 ^ j) C (pow_pos j) e)) (small s n j (1074 - j) (rest j J) h);
      number = refl;
    }
  where
    rest : (j : ℕ) → j ≤ 1074 → j + (1074 - j) ≡ 1074
    rest j h = omega arith

-- ---- the sum of two fractions A / c and B / c that are a and b steps
module _ (A B c a b j : ℕ) (C : 0 < c) (J : j ≤ 1074) (ha : A * 2 ^ j ≡ a * c) (hb : B * 2 ^ j ≡ b * c) where
  together : (s : Bool) → a + b ≤ 2 ^ 53 → Exactly (round binary64 s (A + B) c) (2 ^ j) (signed s (a + b))
  together s h = rounded s (A + B) c (a + b) j C J (simp add-mul (omega arith)) h

  least : B ≤ A → b ≤ a
  least h = le_of_mul-le-mul_right {k = c} (let w = mul-le-mul_right (2 ^ j) h in omega arith) C

  apart : (s : Bool) → B ≤ A → a - b ≤ 2 ^ 53 → Exactly (round binary64 s (A - B) c) (2 ^ j) (signed s (a - b))
  apart s h l =
      let d : (A - B) * 2 ^ j + B * 2 ^ j ≡ A * 2 ^ j = sym (add-mul (A - B) B (2 ^ j)) ∙ ap (λ (z : ℕ). z * 2 ^ j) (sub-add_cancel h) in
      let e : (a - b) * c + b * c ≡ a * c = sym (add-mul (a - b) b c) ∙ ap (λ (z : ℕ). z * c) (sub-add_cancel (least h)) in
      rounded s (A - B) c (a - b) j C J (omega arith) l

-- the bound as the sizes have it
bounded : (s : Bool) (n : ℕ) (z : ℤ) → signed s n ≡ z → nat_abs z ≤ 2 ^ 53 → n ≤ 2 ^ 53
bounded s n z e h = subst (λ (k : ℕ). k ≤ 2 ^ 53) (ap nat_abs (sym e) ∙ abs-signed s n) h

module _ (A B c a b j : ℕ) (C : 0 < c) (J : j ≤ 1074) (ha : A * 2 ^ j ≡ a * c) (hb : B * 2 ^ j ≡ b * c) where
  sum-exact : (s t : Bool) → nat_abs (signed s a +ℤ signed t b) ≤ 2 ^ 53 → Exactly (sum binary64 s A t B c) (2 ^ j) (signed s a +ℤ signed t b)
  unfolding sum
  sum-exact true true h =
      let e = neg_ℤ-+ℤ (pos a) (pos b) in
      same e (together A B c a b j C J ha hb true (bounded true (a + b) _ e h))
  sum-exact false false h = together A B c a b j C J ha hb false h
  sum-exact false true h = go (ltb A B) (ltb→lt A B) (nltb→le A B)
    where
      go : (t : Bool) → (T t → A < B) → (T (not t) → B ≤ A) → Exactly (cond t (round binary64 true (B - A) c) (round binary64 false (A - B) c)) (2 ^ j) (pos a -ℤ pos b)
      go true f g =
          let l = le_of_lt (f tt) in
          let e = short a b (least B A c b a j C J hb ha l) in
          same e (apart B A c b a j C J hb ha true l (bounded true (b - a) _ e h))
      go false f g =
          let e = less a b (least A B c a b j C J ha hb (g tt)) in
          same e (apart A B c a b j C J ha hb false (g tt) (bounded false (a - b) _ e h))
  sum-exact true false h = same turned (go (ltb A B) (ltb→lt A B) (nltb→le A B))
    where
      turned : pos b -ℤ pos a ≡ neg_ℤ (pos a) +ℤ pos b
      turned = +ℤ_comm (pos b) (neg_ℤ (pos a))

      bound : nat_abs (pos b -ℤ pos a) ≤ 2 ^ 53
      bound = subst (λ (z : ℤ). nat_abs z ≤ 2 ^ 53) (sym turned) h

      -- at A = B the zero is +0
      by : (u : Bool) → (T (not u) → A ≤ B) → B ≤ A → Exactly (round binary64 u (A - B) c) (2 ^ j) (pos b -ℤ pos a)
      by true f l =
          let e = short b a (least A B c a b j C J ha hb l) in
          same e (apart A B c a b j C J ha hb true l (bounded true (a - b) _ e bound))
      by false f l =
          let k = least B A c b a j C J hb ha (f tt) in
          let i = least A B c a b j C J ha hb l in
          let e : pos (a - b) ≡ pos b -ℤ pos a = ap pos (none a b k i) ∙ less b a k in
          same e (apart A B c a b j C J ha hb false l (bounded false (a - b) _ e bound))
        where
          none : (a b : ℕ) → a ≤ b → b ≤ a → a - b ≡ b - a
          none a b k i = omega arith

      go : (t : Bool) → (T t → A < B) → (T (not t) → B ≤ A) → Exactly (cond t (round binary64 false (B - A) c) (round binary64 (ltb B A) (A - B) c)) (2 ^ j) (pos b -ℤ pos a)
      go true f g =
          let l = le_of_lt (f tt) in
          let e = less b a (least B A c b a j C J hb ha l) in
          same e (apart B A c b a j C J hb ha false l (bounded false (b - a) _ e bound))
      go false f g = by (ltb B A) (nltb→le B A) (g tt)

-- ---- the operations: each gives the float of the exact result, where that is 2 ^ 53 steps at most
own : (s : Bool) (m : ℕ) (e : ℤ) (d : ℕ) (z : ℤ) (h : Exactly (fin s m e) d z) → signed s h.size ≡ z
own s m e d z h = ap (λ (t : Bool). signed t h.size) h.value.0 ∙ sym h.number

pub neg-exactly : (x : Float) (d : ℕ) (a : ℤ) → Exactly x d a → Exactly (neg x) d (neg_ℤ a)
unfolding neg
neg-exactly nan d a h = absurd h.value
neg-exactly (inf s) d a h = absurd h.value
neg-exactly (fin s m e) d a h =
    record {
      sign = not h.sign;
      size = h.size;
      value = (ap not h.value.0, h.value.1);
      number = ap neg_ℤ h.number ∙ sym (neg-signed h.sign h.size);
    }

pub add-exactly : (x y : Float) (j : ℕ) (a b : ℤ) → j ≤ 1074 → Exactly x (2 ^ j) a → Exactly y (2 ^ j) b → nat_abs (a +ℤ b) ≤ 2 ^ 53 → Exactly (add binary64 x y) (2 ^ j) (a +ℤ b)
unfolding add
add-exactly nan y j a b J p q h = absurd p.value
add-exactly (inf s) y j a b J p q h = absurd p.value
add-exactly (fin s m e) nan j a b J p q h = absurd q.value
add-exactly (fin s m e) (inf t) j a b J p q h = absurd q.value
add-exactly (fin s m e) (fin t n d) j a b J p q h =
    let i : signed s p.size +ℤ signed t q.size ≡ a +ℤ b = ap₂ ◌+ℤ◌ (own s m e (2 ^ j) a p) (own t n d (2 ^ j) b q) in
    same i
    (sum-exact (m * up e * down d) (n * up d * down e) (down e * down d) p.size q.size j (mul-pos (down_pos e) (down_pos d)) J
    (mul_right_comm (m * up e) (down d) (2 ^ j) ∙ ap (λ (z : ℕ). z * down d) p.value.1 ∙ mul_assoc p.size (down e) (down d))
    (mul_right_comm (n * up d) (down e) (2 ^ j) ∙ ap (λ (z : ℕ). z * down e) q.value.1 ∙ mul_assoc q.size (down d) (down e) ∙ ap (λ (z : ℕ). q.size * z) (mul_comm (down d) (down e)))
    s t (subst (λ (z : ℤ). nat_abs z ≤ 2 ^ 53) (sym i) h))

pub sub-exactly : (x y : Float) (j : ℕ) (a b : ℤ) → j ≤ 1074 → Exactly x (2 ^ j) a → Exactly y (2 ^ j) b → nat_abs (a -ℤ b) ≤ 2 ^ 53 → Exactly (sub binary64 x y) (2 ^ j) (a -ℤ b)
unfolding sub
sub-exactly x y j a b J p q h = add-exactly x (neg y) j a (neg_ℤ b) J p (neg-exactly y (2 ^ j) b q) h

pub mul-exactly : (x y : Float) (i j : ℕ) (a b : ℤ) → i + j ≤ 1074 → Exactly x (2 ^ i) a → Exactly y (2 ^ j) b → nat_abs (a *ℤ b) ≤ 2 ^ 53
    → Exactly (mul binary64 x y) (2 ^ (i + j)) (a *ℤ b)
unfolding mul
mul-exactly nan y i j a b J p q h = absurd p.value
mul-exactly (inf s) y i j a b J p q h = absurd p.value
mul-exactly (fin s m e) nan i j a b J p q h = absurd q.value
mul-exactly (fin s m e) (inf t) i j a b J p q h = absurd q.value
mul-exactly (fin s m e) (fin t n d) i j a b J p q h =
    let k = product-signed s t p.size q.size ∙ ap₂ ◌*ℤ◌ (own s m e (2 ^ i) a p) (own t n d (2 ^ j) b q) in
    same k
    (rounded (unlike s t) (m * up e * (n * up d)) (down e * down d) (p.size * q.size) (i + j) (mul-pos (down_pos e) (down_pos d)) J
    (ap (λ (z : ℕ). m * up e * (n * up d) * z) (pow-add 2 i j)
    ∙ mul-mul-mul_comm (m * up e) (n * up d) (2 ^ i) (2 ^ j)
    ∙ ap₂ ◌*◌ p.value.1 q.value.1
    ∙ mul-mul-mul_comm p.size (down e) q.size (down d))
    (bounded (unlike s t) (p.size * q.size) (a *ℤ b) k h))

-- ---- a sixth: two of six go into the steps, which are then half as long; three must divide the number, since a third is no float
pub thrice-signed : (s : Bool) (n : ℕ) → signed s n *ℤ pos 3 ≡ signed s (n * 3)
thrice-signed true zero = refl
thrice-signed true (suc n) = refl
thrice-signed false n = refl

abs-thrice : (b : ℤ) → nat_abs (b *ℤ pos 3) ≡ nat_abs b * 3
abs-thrice (pos n) = refl
abs-thrice (negsuc n) = abs-signed true (suc n * 3)

thrice-zero : (s : Bool) (k n : ℕ) → n ≡ k * 3 → signed s n ≡ signed (not s) (k * 3) → k ≡ 0
thrice-zero true k n i e = let w = neg-parts (pos n) in let u = ap under e in omega arith
thrice-zero false k n i e = let w = neg-parts (pos (k * 3)) in let u = ap under e in omega arith

-- the sign of three times a number is the number's
third-signed : (s : Bool) (b : ℤ) (n : ℕ) → n ≡ nat_abs b * 3 → signed s n ≡ b *ℤ pos 3 → signed s (nat_abs b) ≡ b
third-signed true (pos k) n i e = ap neg_ℤ (ap pos (thrice-zero true k n i e)) ∙ ap pos (sym (thrice-zero true k n i e))
third-signed true (negsuc k) n i e = refl
third-signed false (pos k) n i e = refl
third-signed false (negsuc k) n i e = absurd (some k (thrice-zero false (suc k) n i e))
  where
    some : (k : ℕ) → suc k ≡ 0 → ⊥
    some k e = omega arith

six : of_int binary64 (pos 6) ≡ fin false 3 (pos 1)
unfolding of_int
six = refl

pub sixth-exactly : (x : Float) (j : ℕ) (a b : ℤ) → suc j ≤ 1074 → Exactly x (2 ^ j) a → b *ℤ pos 3 ≡ a → nat_abs b ≤ 2 ^ 53
    → Exactly (div binary64 x (of_int binary64 (pos 6))) (2 ^ suc j) b
unfolding div
sixth-exactly nan j a b J p e h = absurd p.value
sixth-exactly (inf s) j a b J p e h = absurd p.value
sixth-exactly (fin s m k) j a b J p e h =
    let i : signed s p.size ≡ b *ℤ pos 3 = own s m k (2 ^ j) a p ∙ sym e in
    let n : p.size ≡ nat_abs b * 3 = sym (abs-signed s p.size) ∙ ap nat_abs i ∙ abs-thrice b in
    subst (λ (y : Float). Exactly (div binary64 (fin s m k) y) (2 ^ suc j) b) (sym six)
    (same (third-signed s b p.size n i)
    (go s (rounded s (m * up k * 1) (3 * 2 * down k) (nat_abs b) (suc j) (mul-pos (lit< tt) (down_pos k)) J (steps (m * up k) (2 ^ j) (2 ^ suc j) (down k) p.size (nat_abs b) (pow-suc 2 j) n p.value.1) h)))
  where
    go : (s : Bool) → Exactly (round binary64 s (m * up k * 1) (3 * 2 * down k)) (2 ^ suc j) (signed s (nat_abs b)) → Exactly (div binary64 (fin s m k) (fin false 3 (pos 1))) (2 ^ suc j) (signed s (nat_abs b))
    go true r = r
    go false r = r

    steps : (M P Q D a b : ℕ) → Q ≡ P * 2 → a ≡ b * 3 → M * P ≡ a * D → M * 1 * Q ≡ b * (6 * D)
    steps M P Q D a b q e h =
        let u : M * 1 * Q ≡ M * P * 2 = rw (mul-one M, q, mul_assoc M P 2) in
        let v : a * D ≡ b * D * 3 = rw (e, mul_right_comm b 3 D) in
        let w : b * (6 * D) ≡ 6 * (b * D) = mul_left_comm b 6 D in
        omega arith

-- and back: a third of the number over d is the number over three times d
pub tripled : (x : Float) (d : ℕ) (a b : ℤ) → b *ℤ pos 3 ≡ a → Exactly x d b → Exactly x (d * 3) a
tripled nan d a b e h = absurd h.value
tripled (inf s) d a b e h = absurd h.value
tripled (fin s m k) d a b e h =
    record {
      sign = h.sign;
      size = h.size * 3;
      value = (h.value.0, sym (mul_assoc (m * up k) d 3) ∙ ap (λ (z : ℕ). z * 3) h.value.1 ∙ mul_right_comm h.size (down k) 3);
      number = sym e ∙ ap (λ (z : ℤ). z *ℤ pos 3) h.number ∙ thrice-signed h.sign h.size;
    }

-- ---- a coordinate on the grid
pub grid-exactly : (x : Float) → on_grid x ≡ true → Exactly x (2 ^ 4) (sixteenths x)
unfolding on_grid sixteenths
grid-exactly nan h = absurd (false≢true h)
grid-exactly (inf s) h = absurd (false≢true h)
grid-exactly (fin s m e) h =
    record {
      sign = s;
      size = m * up e * 16 / down e;
      value = (refl, whole (m * up e * 16) (down e) (eqb→eq (m * up e * 16 % down e) 0 (and_l (eqb (m * up e * 16 % down e) 0) (leb (m * up e * 16 / down e) 32768) (subst T (sym h) tt))));
      number = ap (λ (t : Bool). counted t s (m * up e * 16 / down e)) h;
    }
  where
    whole : (n d : ℕ) → n % d ≡ 0 → n ≡ n / d * d
    whole n d h = sym (div-add-mod' n d) ∙ ap (λ (z : ℕ). n / d * d + z) h ∙ add-zero (n / d * d)
