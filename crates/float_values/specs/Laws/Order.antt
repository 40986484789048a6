-- The order of floats as that of their signs and indices, and that a step keeps it. So the least of some floats, moved a step down, is below what each of them so moved is below. Assumes nothing.
use Rattle.std.specs.Prelude.{◌≡◌, refl, ◌⊎◌, ℕ, zero, suc, ◌+◌, ◌-◌, ◌*◌, ◌≤◌, ◌<◌, min, Bool, true, false, not, ◌||◌, ◌&&◌, T, ltb, eqb, Float}
use Rattle.std.proofs.Common.{sym, ap, ◌∙◌, subst, inl, inr, le_trans, le_of_eq, le_of_lt, lt_of_lt_of_le, lt_of_le_of_lt, eq-or-lt_of_le, not-le_of_lt, mul-le-mul_right, le_of_mul-le-mul_right, le_of_suc-le-suc, zero-mul, arith, true≢false, ltb→lt, eqb→eq, lit≤}
use Rattle.std.specs.Float.{nan, inf, fin, binary64}
use Rattle.std.specs.Float.Ieee.{up, down, fits, is_nan, le, lt, eq}
use Rattle.std.specs.Float.Ieee.Fits.{down_pos, and_l, and_r}
use Rattle.std.specs.Float.Ieee.Exact.{HasValue}
use Rattle.std.specs.Float.Ieee.Order.{transfer}
use Rattle.float_order.specs.Next.{INF, next_up, next_down}
use Rattle.float_values.specs.Value.{ONE}
use Rattle.float_values.specs.Laws.Small.{le-or-lt, or_split}
use Rattle.float_values.specs.Laws.Pairs.{Lower, Upper}
use Rattle.float_values.specs.Laws.Patterns.{F, val, F-value, F-inf, val-step, view}
use Rattle.float_values.specs.Laws.Steps.{down-zero, down_pos as step-pos, down-neg, down_inf, up-zero, up_pos, up_neg, up_inf}
use Rattle.float_values.specs.Laws.Central.{one-pos, le-values}
use Rattle.float_values.specs.Laws.Near.{units-is, lower-F-pos, lower-F-neg, upper-F-pos, upper-F-neg}

-- ---- the numbers of the indices are in their order
pub val_mono : (b c : ℕ) → b ≤ c → val b ≤ val c
val_mono b c h = subst (λ (z : ℕ). val b ≤ val z) (join b c h) (climb (c - b))
  where
    join : (b c : ℕ) → b ≤ c → b + (c - b) ≡ c
    join b c h = omega arith

    end : (b : ℕ) → b ≡ b + 0
    end b = omega arith

    next : (k : ℕ) → suc (b + k) ≡ b + suc k
    next k = omega arith

    climb : (k : ℕ) → val b ≤ val (b + k)
    climb zero = le_of_eq (ap val (end b))
    climb (suc k) = le_trans (climb k) (le_trans (le_of_lt (val-step (b + k))) (le_of_eq (ap val (next k))))

pub val-strict : (b c : ℕ) → b < c → val b < val c
val-strict b c h = lt_of_lt_of_le (val-step b) (val_mono (suc b) c h)

pub val-zero : val 0 ≡ 0
unfolding val
val-zero = refl

-- ---- the order by sign and index
abbrev pub Before : Bool → ℕ → Bool → ℕ → Type 0
Before false b false c = b ≤ c
Before true b false c = Unit {0}
Before false b true c = (b ≡ 0) × (c ≡ 0)
Before true b true c = c ≤ b

-- ---- from `le` on the values
-- two sizes, by the fractions that they equal
pub sizes-le : (m e n d v w : ℕ) → 0 < e → 0 < d → m * ONE ≡ v * e → n * ONE ≡ w * d → m * d ≤ n * e → v ≤ w
sizes-le m e n d v w E D p q h = le_of_mul-le-mul_right (transfer v w ONE ONE m n e d E D (sym p) (sym q) h) one-pos

size-zero : (m e v : ℕ) → 0 < e → m * ONE ≡ v * e → (d : ℕ) → 0 < d → m * d ≡ 0 → v ≡ 0
size-zero m e v E p d D z = none v (sizes-le m e 0 d v 0 E D p (zero-mul ONE ∙ sym (zero-mul d)) (le_of_eq (z ∙ sym (zero-mul e))))
  where
    none : (v : ℕ) → v ≤ 0 → v ≡ 0
    none v h = omega arith

le_down : (a b : ℕ) → T (ltb b a || (eqb a b && true)) → b ≤ a
le_down a b t = elim (or_split (ltb b a) (eqb a b && true) t) [ inl h ↦ le_of_lt (ltb→lt b a h) | inr h ↦ le_of_eq (sym (eqb→eq a b (and_l (eqb a b) true h))) ]

pub both_negative : (x y : Float) (v w : ℕ) → HasValue x true v ONE → HasValue y true w ONE → T (le x y) → w ≤ v
unfolding le
both_negative nan y v w p q h = absurd p
both_negative (inf s) y v w p q h = absurd p
both_negative (fin false m e) y v w p q h = absurd (true≢false (sym p.0))
both_negative (fin true m e) nan v w p q h = absurd q
both_negative (fin true m e) (inf t) v w p q h = absurd q
both_negative (fin true m e) (fin false n d) v w p q h = absurd (true≢false (sym q.0))
both_negative (fin true m e) (fin true n d) v w p q h =
    sizes-le (n * up d) (down d) (m * up e) (down e) w v (down_pos d) (down_pos e) q.1 p.1 (le_down (m * up e * down d) (n * up d * down e) h)

pub both_zero : (x y : Float) (v w : ℕ) → HasValue x false v ONE → HasValue y true w ONE → T (le x y) → (v ≡ 0) × (w ≡ 0)
unfolding le
both_zero nan y v w p q h = absurd p
both_zero (inf s) y v w p q h = absurd p
both_zero (fin true m e) y v w p q h = absurd (true≢false p.0)
both_zero (fin false m e) nan v w p q h = absurd q
both_zero (fin false m e) (inf t) v w p q h = absurd q
both_zero (fin false m e) (fin false n d) v w p q h = absurd (true≢false (sym q.0))
both_zero (fin false m e) (fin true n d) v w p q h =
    let a = m * up e * down d in
    let b = n * up d * down e in
    let z : a ≡ 0 = eqb→eq a 0 (and_r (eqb a b) (eqb a 0) h) in
    let z' : b ≡ 0 = sym (eqb→eq a b (and_l (eqb a b) (eqb a 0) h)) ∙ z in
    (size-zero (m * up e) (down e) v (down_pos e) p.1 (down d) (down_pos d) z, size-zero (n * up d) (down d) w (down_pos d) q.1 (down e) (down_pos e) z')

-- an infinity on the wrong side
pinf-not-le : (y : Float) (w : ℕ) (t : Bool) → HasValue y t w ONE → T (le (inf false) y) → ⊥
unfolding le
pinf-not-le nan w t q h = q
pinf-not-le (inf s) w t q h = q
pinf-not-le (fin s n d) w t q h = h

not-le-ninf : (x : Float) (v : ℕ) (s : Bool) → HasValue x s v ONE → T (le x (inf true)) → ⊥
unfolding le
not-le-ninf nan v s p h = p
not-le-ninf (inf t) v s p h = p
not-le-ninf (fin t m e) v s p h = h

infs-not-le : T (le (inf false) (inf true)) → ⊥
unfolding le
infs-not-le h = h

pub F-at : (s : Bool) (b : ℕ) → b ≡ INF → F s b ≡ inf s
F-at s b e = ap (F s) e ∙ F-inf s

index-zero : (b : ℕ) → val b ≡ 0 → b ≡ 0
index-zero zero h = refl
index-zero (suc b) h = absurd (no (val b) (val (suc b)) (val-step b) h)
  where
    no : (x y : ℕ) → x < y → y ≡ 0 → ⊥
    no x y l e = omega arith

pub le-before : (s : Bool) (b : ℕ) (t : Bool) (c : ℕ) → b ≤ INF → c ≤ INF → T (le (F s b) (F t c)) → Before s b t c
le-before true b false c B C h = tt
le-before false b false c B C h = elim (le-or-lt b c) [ inl k ↦ k | inr k ↦ absurd (go k (eq-or-lt_of_le B)) ]
  where
    go : c < b → (b ≡ INF) ⊎ (b < INF) → ⊥
    go k (inl e) = pinf-not-le (F false c) (val c) false (F-value false c (lt_of_lt_of_le k B)) (subst (λ (x : Float). T (le x (F false c))) (F-at false b e) h)
    go k (inr l) = not-le_of_lt (val-strict c b k) (le-values (F false b) (F false c) (val b) (val c) (F-value false b l) (F-value false c (lt_of_lt_of_le k B)) h)
le-before true b true c B C h = elim (le-or-lt c b) [ inl k ↦ k | inr k ↦ absurd (go k (eq-or-lt_of_le C)) ]
  where
    go : b < c → (c ≡ INF) ⊎ (c < INF) → ⊥
    go k (inl e) = not-le-ninf (F true b) (val b) true (F-value true b (lt_of_lt_of_le k C)) (subst (λ (x : Float). T (le (F true b) x)) (F-at true c e) h)
    go k (inr l) = not-le_of_lt (val-strict b c k) (both_negative (F true b) (F true c) (val b) (val c) (F-value true b (lt_of_lt_of_le k C)) (F-value true c l) h)
le-before false b true c B C h = go (eq-or-lt_of_le B) (eq-or-lt_of_le C)
  where
    go : (b ≡ INF) ⊎ (b < INF) → (c ≡ INF) ⊎ (c < INF) → (b ≡ 0) × (c ≡ 0)
    go (inl e) (inl g) = absurd (infs-not-le (subst (λ (y : Float). T (le (inf false) y)) (F-at true c g) (subst (λ (x : Float). T (le x (F true c))) (F-at false b e) h)))
    go (inl e) (inr l) = absurd (pinf-not-le (F true c) (val c) true (F-value true c l) (subst (λ (x : Float). T (le x (F true c))) (F-at false b e) h))
    go (inr k) (inl g) = absurd (not-le-ninf (F false b) (val b) false (F-value false b k) (subst (λ (y : Float). T (le (F false b) y)) (F-at true c g) h))
    go (inr k) (inr l) =
        let z = both_zero (F false b) (F true c) (val b) (val c) (F-value false b k) (F-value true c l) h in
        (index-zero b z.0, index-zero c z.1)

-- ---- a step, as one of signs and indices
abbrev pub down_s : Bool → ℕ → Bool
down_s true b = true
down_s false zero = true
down_s false (suc b) = false

abbrev pub down_i : Bool → ℕ → ℕ
down_i true b = min (suc b) INF
down_i false zero = 1
down_i false (suc b) = b

abbrev pub up_s : Bool → ℕ → Bool
up_s false b = false
up_s true zero = false
up_s true (suc b) = true

abbrev pub up_i : Bool → ℕ → ℕ
up_i false b = min (suc b) INF
up_i true zero = 1
up_i true (suc b) = b

capped : (b : ℕ) → b < INF → suc b ≡ min (suc b) INF
capped b h = omega arith

pub down_is : (s : Bool) (b : ℕ) → b ≤ INF → next_down (F s b) ≡ F (down_s s b) (down_i s b)
down_is true b h = elim (eq-or-lt_of_le h) [
  | inl e ↦ ap (λ (z : ℕ). next_down (F true z)) e ∙ down_inf ∙ ap (λ (z : ℕ). F true (min (suc z) INF)) (sym e)
  | inr l ↦ down-neg b l ∙ ap (F true) (capped b l)
]
down_is false zero h = down-zero
down_is false (suc b) h = step-pos b h

pub up_is : (s : Bool) (b : ℕ) → b ≤ INF → next_up (F s b) ≡ F (up_s s b) (up_i s b)
up_is false b h = elim (eq-or-lt_of_le h) [
  | inl e ↦ ap (λ (z : ℕ). next_up (F false z)) e ∙ up_inf ∙ ap (λ (z : ℕ). F false (min (suc z) INF)) (sym e)
  | inr l ↦ up_pos b l ∙ ap (F false) (capped b l)
]
up_is true zero h = up-zero
up_is true (suc b) h = up_neg b h

down-before : (s : Bool) (b : ℕ) (t : Bool) (c : ℕ) → Before s b t c → Before (down_s s b) (down_i s b) (down_s t c) (down_i t c)
down-before false zero false zero h = lit≤ tt
down-before false zero false (suc c) h = tt
down-before false (suc b) false zero h = absurd (no b h)
  where
    no : (b : ℕ) → suc b ≤ 0 → ⊥
    no b h = omega arith
down-before false (suc b) false (suc c) h = le_of_suc-le-suc h
down-before true b false zero h = one b
  where
    one : (b : ℕ) → 1 ≤ min (suc b) INF
    one b = omega arith
down-before true b false (suc c) h = tt
down-before false zero true c h = one c h.1
  where
    one : (c : ℕ) → c ≡ 0 → min (suc c) INF ≤ 1
    one c e = omega arith
down-before false (suc b) true c h = absurd (no b h.0)
  where
    no : (b : ℕ) → suc b ≡ 0 → ⊥
    no b h = omega arith
down-before true b true c h = both b c h
  where
    both : (b c : ℕ) → c ≤ b → min (suc c) INF ≤ min (suc b) INF
    both b c h = omega arith

up-before : (s : Bool) (b : ℕ) (t : Bool) (c : ℕ) → Before s b t c → Before (up_s s b) (up_i s b) (up_s t c) (up_i t c)
up-before true zero true zero h = lit≤ tt
up-before true (suc b) true zero h = tt
up-before true zero true (suc c) h = absurd (no c h)
  where
    no : (b : ℕ) → suc b ≤ 0 → ⊥
    no b h = omega arith
up-before true (suc b) true (suc c) h = le_of_suc-le-suc h
up-before true zero false c h = one c
  where
    one : (b : ℕ) → 1 ≤ min (suc b) INF
    one b = omega arith
up-before true (suc b) false c h = tt
up-before false b true zero h = one b h.0
  where
    one : (c : ℕ) → c ≡ 0 → min (suc c) INF ≤ 1
    one c e = omega arith
up-before false b true (suc c) h = absurd (no c h.1)
  where
    no : (b : ℕ) → suc b ≡ 0 → ⊥
    no b h = omega arith
up-before false b false c h = both b c h
  where
    both : (b c : ℕ) → b ≤ c → min (suc b) INF ≤ min (suc c) INF
    both b c h = omega arith

-- ---- what a bound with a sign and an index says of the number
out-low-pos : (x : Float) (v D p n : ℕ) → HasValue x false v ONE → Lower D x p n → v * D + n * ONE ≤ p * ONE
out-low-pos nan v D p n k h = absurd k
out-low-pos (inf s) v D p n k h = absurd k
out-low-pos (fin true m e) v D p n k h = absurd (true≢false k.0)
out-low-pos (fin false m e) v D p n k h = subst (λ (u : ℕ). u * D + n * ONE ≤ p * ONE) (units-is false m e v k.1) (omega arith)

out-low-neg : (x : Float) (v D p n : ℕ) → HasValue x true v ONE → Lower D x p n → n * ONE ≤ p * ONE + v * D
out-low-neg nan v D p n k h = absurd k
out-low-neg (inf s) v D p n k h = absurd k
out-low-neg (fin false m e) v D p n k h = absurd (true≢false (sym k.0))
out-low-neg (fin true m e) v D p n k h = subst (λ (u : ℕ). n * ONE ≤ p * ONE + u * D) (units-is true m e v k.1) (omega arith)

out-high-pos : (x : Float) (v D p n : ℕ) → HasValue x false v ONE → Upper D x p n → p * ONE ≤ v * D + n * ONE
out-high-pos nan v D p n k h = absurd k
out-high-pos (inf s) v D p n k h = absurd k
out-high-pos (fin true m e) v D p n k h = absurd (true≢false k.0)
out-high-pos (fin false m e) v D p n k h = subst (λ (u : ℕ). p * ONE ≤ u * D + n * ONE) (units-is false m e v k.1) (omega arith)

out-high-neg : (x : Float) (v D p n : ℕ) → HasValue x true v ONE → Upper D x p n → p * ONE + v * D ≤ n * ONE
out-high-neg nan v D p n k h = absurd k
out-high-neg (inf s) v D p n k h = absurd k
out-high-neg (fin false m e) v D p n k h = absurd (true≢false (sym k.0))
out-high-neg (fin true m e) v D p n k h = subst (λ (u : ℕ). p * ONE + u * D ≤ n * ONE) (units-is true m e v k.1) (omega arith)

low-F : (b D p n : ℕ) → b ≤ INF → Lower D (F false b) p n → (b < INF) × (val b * D + n * ONE ≤ p * ONE)
low-F b D p n B h = elim (eq-or-lt_of_le B) [
  | inl e ↦ absurd (subst (λ (x : Float). Lower D x p n) (F-at false b e) h)
  | inr l ↦ (l, out-low-pos (F false b) (val b) D p n (F-value false b l) h)
]

high-F : (b D p n : ℕ) → b ≤ INF → Upper D (F true b) p n → (b < INF) × (p * ONE + val b * D ≤ n * ONE)
high-F b D p n B h = elim (eq-or-lt_of_le B) [
  | inl e ↦ absurd (subst (λ (x : Float). Upper D x p n) (F-at true b e) h)
  | inr l ↦ (l, out-high-neg (F true b) (val b) D p n (F-value true b l) h)
]

-- ---- what is before a lower bound is one, and what is after an upper bound is one
lower-before : (s : Bool) (b : ℕ) (t : Bool) (c D p n : ℕ) → b ≤ INF → c ≤ INF → Before s b t c → Lower D (F t c) p n → Lower D (F s b) p n
lower-before false b false c D p n B C k h =
    let r = low-F c D p n C h in
    let v : val b * D ≤ val c * D = mul-le-mul_right D (val_mono b c k) in
    lower-F-pos b D p n (lt_of_le_of_lt k r.0) (omega arith)
lower-before true b false c D p n B C k h =
    let r = low-F c D p n C h in
    lower-F-neg b D p n B (λ _. omega arith)
lower-before false b true c D p n B C k h =
    let l : c < INF = low c k.1 in
    let z : val c * D ≡ 0 = ap (λ (z : ℕ). val z * D) k.1 ∙ ap (λ (z : ℕ). z * D) val-zero ∙ zero-mul D in
    let w : val b * D ≡ 0 = ap (λ (z : ℕ). val z * D) k.0 ∙ ap (λ (z : ℕ). z * D) val-zero ∙ zero-mul D in
    let r = out-low-neg (F true c) (val c) D p n (F-value true c l) h in
    lower-F-pos b D p n (low b k.0) (omega arith)
  where
    low : (c : ℕ) → c ≡ 0 → c < INF
    low c e = omega arith
lower-before true b true c D p n B C k h =
    let v : val c * D ≤ val b * D = mul-le-mul_right D (val_mono c b k) in
    lower-F-neg b D p n B (λ g. let r = out-low-neg (F true c) (val c) D p n (F-value true c (lt_of_le_of_lt k g)) h in omega arith)

upper-before : (s : Bool) (b : ℕ) (t : Bool) (c D p n : ℕ) → b ≤ INF → c ≤ INF → Before s b t c → Upper D (F s b) p n → Upper D (F t c) p n
upper-before true b true c D p n B C k h =
    let r = high-F b D p n B h in
    let v : val c * D ≤ val b * D = mul-le-mul_right D (val_mono c b k) in
    upper-F-neg c D p n (lt_of_le_of_lt k r.0) (omega arith)
upper-before true b false c D p n B C k h =
    let r = high-F b D p n B h in
    upper-F-pos c D p n C (λ _. omega arith)
upper-before false b true c D p n B C k h =
    let l : b < INF = low b k.0 in
    let z : val b * D ≡ 0 = ap (λ (z : ℕ). val z * D) k.0 ∙ ap (λ (z : ℕ). z * D) val-zero ∙ zero-mul D in
    let w : val c * D ≡ 0 = ap (λ (z : ℕ). val z * D) k.1 ∙ ap (λ (z : ℕ). z * D) val-zero ∙ zero-mul D in
    let r = out-high-pos (F false b) (val b) D p n (F-value false b l) h in
    upper-F-neg c D p n (low c k.1) (omega arith)
  where
    low : (c : ℕ) → c ≡ 0 → c < INF
    low c e = omega arith
upper-before false b false c D p n B C k h =
    let v : val b * D ≤ val c * D = mul-le-mul_right D (val_mono b c k) in
    upper-F-pos c D p n C (λ g. let r = out-high-pos (F false b) (val b) D p n (F-value false b (lt_of_le_of_lt k g)) h in omega arith)

-- ---- a step keeps the order
pub down_i-in : (s : Bool) (b : ℕ) → b ≤ INF → down_i s b ≤ INF
down_i-in true b h = cap b
  where
    cap : (b : ℕ) → min (suc b) INF ≤ INF
    cap b = omega arith
down_i-in false zero h = lit≤ tt
down_i-in false (suc b) h = le_of_lt h

pub up_i-in : (s : Bool) (b : ℕ) → b ≤ INF → up_i s b ≤ INF
up_i-in false b h = cap b
  where
    cap : (b : ℕ) → min (suc b) INF ≤ INF
    cap b = omega arith
up_i-in true zero h = lit≤ tt
up_i-in true (suc b) h = le_of_lt h

pub le-nums : (x y : Float) → T (le x y) → T (not (is_nan x)) × T (not (is_nan y))
unfolding le is_nan
le-nums nan y h = absurd h
le-nums (inf s) nan h = absurd h
le-nums (inf s) (inf t) h = (tt, tt)
le-nums (inf s) (fin t n d) h = (tt, tt)
le-nums (fin s m e) nan h = absurd h
le-nums (fin s m e) (inf t) h = (tt, tt)
le-nums (fin s m e) (fin t n d) h = (tt, tt)

pub down-mono : (x y : Float) (D p n : ℕ) → T (fits binary64 x) → T (fits binary64 y) → T (le x y) → Lower D (next_down y) p n → Lower D (next_down x) p n
down-mono x y D p n f g h k =
    let a = le-nums x y h in
    let v = view x f a.0 in
    let w = view y g a.1 in
    let e : next_down x ≡ F (down_s v.sign v.index) (down_i v.sign v.index) = ap next_down v.is ∙ down_is v.sign v.index v.within in
    let d : next_down y ≡ F (down_s w.sign w.index) (down_i w.sign w.index) = ap next_down w.is ∙ down_is w.sign w.index w.within in
    let o : T (le (F v.sign v.index) (F w.sign w.index)) = subst (λ (z : Float). T (le (F v.sign v.index) z)) w.is (subst (λ (z : Float). T (le z y)) v.is h) in
    subst (λ (z : Float). Lower D z p n) (sym e)
    (lower-before (down_s v.sign v.index) (down_i v.sign v.index) (down_s w.sign w.index) (down_i w.sign w.index) D p n
    (down_i-in v.sign v.index v.within) (down_i-in w.sign w.index w.within)
    (down-before v.sign v.index w.sign w.index (le-before v.sign v.index w.sign w.index v.within w.within o))
    (subst (λ (z : Float). Lower D z p n) d k))

pub up-mono : (x y : Float) (D p n : ℕ) → T (fits binary64 x) → T (fits binary64 y) → T (le x y) → Upper D (next_up x) p n → Upper D (next_up y) p n
up-mono x y D p n f g h k =
    let a = le-nums x y h in
    let v = view x f a.0 in
    let w = view y g a.1 in
    let e : next_up x ≡ F (up_s v.sign v.index) (up_i v.sign v.index) = ap next_up v.is ∙ up_is v.sign v.index v.within in
    let d : next_up y ≡ F (up_s w.sign w.index) (up_i w.sign w.index) = ap next_up w.is ∙ up_is w.sign w.index w.within in
    let o : T (le (F v.sign v.index) (F w.sign w.index)) = subst (λ (z : Float). T (le (F v.sign v.index) z)) w.is (subst (λ (z : Float). T (le z y)) v.is h) in
    subst (λ (z : Float). Upper D z p n) (sym d)
    (upper-before (up_s v.sign v.index) (up_i v.sign v.index) (up_s w.sign w.index) (up_i w.sign w.index) D p n
    (up_i-in v.sign v.index v.within) (up_i-in w.sign w.index w.within)
    (up-before v.sign v.index w.sign w.index (le-before v.sign v.index w.sign w.index v.within w.within o))
    (subst (λ (z : Float). Upper D z p n) e k))
