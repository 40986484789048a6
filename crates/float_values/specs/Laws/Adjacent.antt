-- `next_up x` is the least float above x, and `next_down x` the greatest below, by the program's own order. Assumes nothing.
use Rattle.std.specs.Prelude.{◌≡◌, refl, ◌⊎◌, ℕ, zero, suc, ◌+◌, ◌*◌, ◌≤◌, ◌<◌, min, Bool, true, false, not, ◌||◌, ◌&&◌, T, ltb, eqb, Float}
use Rattle.std.proofs.Common.{sym, ap, ◌∙◌, subst, inl, inr, le_refl, le_of_lt, eq-or-lt_of_le, lt_of_le_of_lt, not-le_of_lt, arith, true≢false, ltb→lt, eqb→eq}
use Rattle.std.specs.Bool.{beq}
use Rattle.std.specs.Float.{nan, inf, fin, binary64}
use Rattle.std.specs.Float.Ieee.{fits, is_nan, up, down, le, lt, eq, below, level}
use Rattle.std.specs.Float.Ieee.Fits.{eq→eqb, and_l, and_r, and_i}
use Rattle.std.specs.Float.Ieee.Bits.{of_bits-fits}
use Rattle.std.specs.Float.Ieee.Exact.{HasValue}
use Rattle.std.specs.Float.Ieee.Scale.{finite}
use Rattle.float_order.specs.Next.{INF, next_up, next_down}
use Rattle.float_values.specs.Value.{ONE}
use Rattle.float_values.specs.Laws.Small.{le-or-lt, or_split, or_right}
use Rattle.float_values.specs.Laws.Pairs.{plus, minus}
use Rattle.float_values.specs.Laws.Patterns.{F, sg, val, F-value, F-no-nan, View, view}
use Rattle.float_values.specs.Laws.Near.{units-is}
use Rattle.float_values.specs.Laws.Order.{Before, le-before, val_mono, val-zero, F-at, up_s, up_i, up_is, down_s, down_i, down_is, up_i-in, down_i-in}
use Rattle.float_values.specs.Laws.Floats.{of-numbers}

-- ---- `<` and the other way round `<=` exclude each other
over-or-same : (a b : ℕ) → T (ltb a b) → T (ltb b a || (eqb b a && true)) → ⊥
over-or-same a b h k = go (ltb→lt a b h) (or_split (ltb b a) (eqb b a && true) k)
  where
    go : a < b → T (ltb b a) ⊎ T (eqb b a && true) → ⊥
    go l (inl t) = let w = ltb→lt b a t in omega arith
    go l (inr t) = let w = eqb→eq b a (and_l (eqb b a) true t) in omega arith

under-or-same : (a b : ℕ) → T (ltb b a) → T (ltb a b || (eqb b a && true)) → ⊥
under-or-same a b h k = go (ltb→lt b a h) (or_split (ltb a b) (eqb b a && true) k)
  where
    go : b < a → T (ltb a b) ⊎ T (eqb b a && true) → ⊥
    go l (inl t) = let w = ltb→lt a b t in omega arith
    go l (inr t) = let w = eqb→eq b a (and_l (eqb b a) true t) in omega arith

zeros-only : (a b : ℕ) → T (ltb 0 (a + b)) → T (eqb b a && eqb b 0) → ⊥
zeros-only a b h k =
    let l = ltb→lt 0 (a + b) h in
    let e = eqb→eq b a (and_l (eqb b a) (eqb b 0) k) in
    let z = eqb→eq b 0 (and_r (eqb b a) (eqb b 0) k) in
    omega arith

pub lt-le-clash : (x y : Float) → T (lt x y) → T (le y x) → ⊥
unfolding lt le
lt-le-clash nan y h k = h
lt-le-clash (inf s) nan h k = h
lt-le-clash (inf true) (inf true) h k = h
lt-le-clash (inf true) (inf false) h k = k
lt-le-clash (inf false) (inf t) h k = h
lt-le-clash (inf true) (fin t n d) h k = k
lt-le-clash (inf false) (fin t n d) h k = h
lt-le-clash (fin s m e) nan h k = h
lt-le-clash (fin s m e) (inf true) h k = h
lt-le-clash (fin s m e) (inf false) h k = k
lt-le-clash (fin false m e) (fin false n d) h k = over-or-same (m * up e * down d) (n * up d * down e) h k
lt-le-clash (fin false m e) (fin true n d) h k = h
lt-le-clash (fin true m e) (fin false n d) h k = zeros-only (m * up e * down d) (n * up d * down e) h k
lt-le-clash (fin true m e) (fin true n d) h k = under-or-same (m * up e * down d) (n * up d * down e) h k

-- ---- from signs and indices to the program's order
value-plus : (x : Float) (v : ℕ) → HasValue x false v ONE → T (finite x) × (plus x ≡ v) × (minus x ≡ 0)
value-plus nan v p = absurd p
value-plus (inf s) v p = absurd p
value-plus (fin true m e) v p = absurd (true≢false p.0)
value-plus (fin false m e) v p = (tt, units-is false m e v p.1, refl)

value-minus : (x : Float) (v : ℕ) → HasValue x true v ONE → T (finite x) × (plus x ≡ 0) × (minus x ≡ v)
value-minus nan v p = absurd p
value-minus (inf s) v p = absurd p
value-minus (fin false m e) v p = absurd (true≢false (sym p.0))
value-minus (fin true m e) v p = (tt, refl, units-is true m e v p.1)

F-fits : (s : Bool) (b : ℕ) → T (fits binary64 (F s b))
unfolding F
F-fits s b = of_bits-fits binary64 (sg s + b)

pub ninf-le : (y : Float) → T (not (is_nan y)) → T (le (inf true) y)
unfolding le is_nan
ninf-le nan h = h
ninf-le (inf true) h = tt
ninf-le (inf false) h = tt
ninf-le (fin t n d) h = tt

pub le-pinf : (x : Float) → T (not (is_nan x)) → T (le x (inf false))
unfolding le is_nan
le-pinf nan h = h
le-pinf (inf true) h = tt
le-pinf (inf false) h = tt
le-pinf (fin t n d) h = tt

ends : (s : Bool) (b : ℕ) (t : Bool) (c : ℕ) → plus (F s b) + minus (F t c) ≤ plus (F t c) + minus (F s b) → T (finite (F s b)) → T (finite (F t c)) → T (le (F s b) (F t c))
ends s b t c h i j = of-numbers (F s b) (F t c) (F-fits s b) (F-fits t c) i j h

from-ninf : (b : ℕ) (y : Float) → b ≡ INF → T (not (is_nan y)) → T (le (F true b) y)
from-ninf b y e h = subst (λ (x : Float). T (le x y)) (sym (F-at true b e)) (ninf-le y h)

to-pinf : (c : ℕ) (x : Float) → c ≡ INF → T (not (is_nan x)) → T (le x (F false c))
to-pinf c x e h = subst (λ (y : Float). T (le x y)) (sym (F-at false c e)) (le-pinf x h)

pub before-le : (s : Bool) (b : ℕ) (t : Bool) (c : ℕ) → b ≤ INF → c ≤ INF → Before s b t c → T (le (F s b) (F t c))
before-le false b false c B C h = elim (eq-or-lt_of_le C) [
  | inl e ↦ to-pinf c (F false b) e (F-no-nan false b B)
  | inr l ↦
      let x = value-plus (F false b) (val b) (F-value false b (lt_of_le_of_lt h l)) in
      let y = value-plus (F false c) (val c) (F-value false c l) in
      let v = val_mono b c h in
      ends false b false c (omega arith) x.0 y.0
]
before-le true b true c B C h = elim (eq-or-lt_of_le B) [
  | inl e ↦ from-ninf b (F true c) e (F-no-nan true c C)
  | inr l ↦
      let x = value-minus (F true b) (val b) (F-value true b l) in
      let y = value-minus (F true c) (val c) (F-value true c (lt_of_le_of_lt h l)) in
      let v = val_mono c b h in
      ends true b true c (omega arith) x.0 y.0
]
before-le true b false c B C h = go (eq-or-lt_of_le B) (eq-or-lt_of_le C)
  where
    go : (b ≡ INF) ⊎ (b < INF) → (c ≡ INF) ⊎ (c < INF) → T (le (F true b) (F false c))
    go (inl e) k = from-ninf b (F false c) e (F-no-nan false c C)
    go (inr l) (inl e) = to-pinf c (F true b) e (F-no-nan true b B)
    go (inr l) (inr k) =
        let x = value-minus (F true b) (val b) (F-value true b l) in
        let y = value-plus (F false c) (val c) (F-value false c k) in
        ends true b false c (omega arith) x.0 y.0
before-le false b true c B C h =
    let x = value-plus (F false b) (val b) (F-value false b (low b h.0)) in
    let y = value-minus (F true c) (val c) (F-value true c (low c h.1)) in
    let v = ap val h.0 ∙ val-zero in
    let w = ap val h.1 ∙ val-zero in
    ends false b true c (omega arith) x.0 y.0
  where
    low : (c : ℕ) → c ≡ 0 → c < INF
    low c e = omega arith

-- ---- strictly before
abbrev Strict : Bool → ℕ → Bool → ℕ → Type 0
Strict false b false c = b < c
Strict true b false c = 0 < b + c
Strict false b true c = ⊥
Strict true b true c = c < b

strict-or-back : (s : Bool) (b : ℕ) (t : Bool) (c : ℕ) → Strict s b t c ⊎ Before t c s b
strict-or-back false b false c = elim (le-or-lt c b) [ inl h ↦ inr h | inr h ↦ inl h ]
strict-or-back true b true c = elim (le-or-lt b c) [ inl h ↦ inr h | inr h ↦ inl h ]
strict-or-back false b true c = inr tt
strict-or-back true b false c = elim (le-or-lt (b + c) 0) [ inl h ↦ inr (none c b h, none' c b h) | inr h ↦ inl h ]
  where
    none : (c b : ℕ) → b + c ≤ 0 → c ≡ 0
    none c b h = omega arith

    none' : (c b : ℕ) → b + c ≤ 0 → b ≡ 0
    none' c b h = omega arith

up_next : (s : Bool) (b : ℕ) (t : Bool) (c : ℕ) → c ≤ INF → Strict s b t c → Before (up_s s b) (up_i s b) t c
up_next false b false c C h = cap b c h
  where
    cap : (b c : ℕ) → b < c → min (suc b) INF ≤ c
    cap b c h = omega arith
up_next false b true c C h = absurd h
up_next true zero false c C h = one c h
  where
    one : (c : ℕ) → 0 < 0 + c → 1 ≤ c
    one c h = omega arith
up_next true (suc b) false c C h = tt
up_next true zero true c C h = absurd (no c h)
  where
    no : (c : ℕ) → c < 0 → ⊥
    no c h = omega arith
up_next true (suc b) true c C h = less b c h
  where
    less : (b c : ℕ) → c < suc b → c ≤ b
    less b c h = omega arith

down-next : (s : Bool) (b : ℕ) (t : Bool) (c : ℕ) → b ≤ INF → Strict s b t c → Before s b (down_s t c) (down_i t c)
down-next true b true c B h = cap b c h
  where
    cap : (b c : ℕ) → c < b → min (suc c) INF ≤ b
    cap b c h = omega arith
down-next false b true c B h = absurd h
down-next true b false zero B h = one b h
  where
    one : (b : ℕ) → 0 < b + 0 → 1 ≤ b
    one b h = omega arith
down-next true b false (suc c) B h = tt
down-next false b false zero B h = absurd (no b h)
  where
    no : (c : ℕ) → c < 0 → ⊥
    no c h = omega arith
down-next false b false (suc c) B h = less b c h
  where
    less : (b c : ℕ) → b < suc c → b ≤ c
    less b c h = omega arith

lt-nums : (x y : Float) → T (lt x y) → T (not (is_nan x)) × T (not (is_nan y))
unfolding lt is_nan
lt-nums nan y h = absurd h
lt-nums (inf s) nan h = absurd h
lt-nums (inf s) (inf t) h = (tt, tt)
lt-nums (inf s) (fin t n d) h = (tt, tt)
lt-nums (fin s m e) nan h = absurd h
lt-nums (fin s m e) (inf t) h = (tt, tt)
lt-nums (fin s m e) (fin t n d) h = (tt, tt)

strict : (x y : Float) (v : View x) (w : View y) → T (lt x y) → Strict v.sign v.index w.sign w.index
strict x y v w h = elim (strict-or-back v.sign v.index w.sign w.index) [
  | inl k ↦ k
  | inr k ↦
      absurd
      (lt-le-clash x y h
      (subst (λ (z : Float). T (le z x)) (sym w.is)
      (subst (λ (z : Float). T (le (F w.sign w.index) z)) (sym v.is) (before-le w.sign w.index v.sign v.index w.within v.within k))))
]

-- ---- no float lies between
pub up_least : (x y : Float) → T (fits binary64 x) → T (fits binary64 y) → T (lt x y) → T (le (next_up x) y)
up_least x y f g h =
    let a = lt-nums x y h in
    let v = view x f a.0 in
    let w = view y g a.1 in
    subst (λ (z : Float). T (le z y)) (sym (ap next_up v.is ∙ up_is v.sign v.index v.within))
    (subst (λ (z : Float). T (le (F (up_s v.sign v.index) (up_i v.sign v.index)) z)) (sym w.is)
    (before-le (up_s v.sign v.index) (up_i v.sign v.index) w.sign w.index (up_i-in v.sign v.index v.within) w.within
    (up_next v.sign v.index w.sign w.index w.within (strict x y v w h))))

pub down-greatest : (x y : Float) → T (fits binary64 x) → T (fits binary64 y) → T (lt x y) → T (le x (next_down y))
down-greatest x y f g h =
    let a = lt-nums x y h in
    let v = view x f a.0 in
    let w = view y g a.1 in
    subst (λ (z : Float). T (le x z)) (sym (ap next_down w.is ∙ down_is w.sign w.index w.within))
    (subst (λ (z : Float). T (le z (F (down_s w.sign w.index) (down_i w.sign w.index)))) (sym v.is)
    (before-le v.sign v.index (down_s w.sign w.index) (down_i w.sign w.index) v.within (down_i-in w.sign w.index w.within)
    (down-next v.sign v.index w.sign w.index v.within (strict x y v w h))))

-- ---- and the step is a proper one, but at the infinity that it stays at
beq-sym : (s t : Bool) → beq s t ≡ beq t s
beq-sym true true = refl
beq-sym true false = refl
beq-sym false true = refl
beq-sym false false = refl

level-sym : (s : Bool) (a : ℕ) (t : Bool) (b : ℕ) → T (eqb a b && (beq s t || eqb a 0)) → T (eqb b a && (beq t s || eqb b 0))
level-sym s a t b h =
    let e : a ≡ b = eqb→eq a b (and_l (eqb a b) (beq s t || eqb a 0) h) in
    and_i (eqb b a) (beq t s || eqb b 0) (eq→eqb (sym e))
    (subst (λ (z : ℕ). T (beq t s || eqb z 0)) e (subst (λ (r : Bool). T (r || eqb a 0)) (beq-sym s t) (and_r (eqb a b) (beq s t || eqb a 0) h)))

pub eq-back : (x y : Float) → T (eq x y) → T (le y x)
unfolding eq le
eq-back nan y h = absurd h
eq-back (inf s) nan h = absurd h
eq-back (inf true) (inf true) h = tt
eq-back (inf true) (inf false) h = absurd h
eq-back (inf false) (inf true) h = absurd h
eq-back (inf false) (inf false) h = tt
eq-back (inf s) (fin t n d) h = absurd h
eq-back (fin s m e) nan h = absurd h
eq-back (fin s m e) (inf t) h = absurd h
eq-back (fin s m e) (fin t n d) h =
    or_right (below t (n * up d * down e) s (m * up e * down d)) (level t (n * up d * down e) s (m * up e * down d)) (level-sym s (m * up e * down d) t (n * up d * down e) h)

lt_of : (x y : Float) → T (le x y) → (T (le y x) → ⊥) → T (lt x y)
unfolding le
lt_of x y h k = elim (or_split (lt x y) (eq x y) h) [ inl t ↦ t | inr t ↦ absurd (k (eq-back x y t)) ]

up-after : (s : Bool) (b : ℕ) → b ≤ INF → Before s b (up_s s b) (up_i s b)
up-after false b h = cap b h
  where
    cap : (b : ℕ) → b ≤ INF → b ≤ min (suc b) INF
    cap b h = omega arith
up-after true zero h = tt
up-after true (suc b) h = le_of_lt (le_refl (suc b))

up-not-back : (s : Bool) (b : ℕ) → ((s ≡ false) × (b ≡ INF) → ⊥) → b ≤ INF → Before (up_s s b) (up_i s b) s b → ⊥
up-not-back false b n h k = n (refl, top b h k)
  where
    top : (b : ℕ) → b ≤ INF → min (suc b) INF ≤ b → b ≡ INF
    top b h k = omega arith
up-not-back true zero n h k = no k.0
  where
    no : ◌≡◌ {A = ℕ} 1 0 → ⊥
    no h = omega arith
up-not-back true (suc b) n h k = not-le_of_lt (le_refl (suc b)) k

down-before : (s : Bool) (b : ℕ) → b ≤ INF → Before (down_s s b) (down_i s b) s b
down-before true b h = cap b h
  where
    cap : (b : ℕ) → b ≤ INF → b ≤ min (suc b) INF
    cap b h = omega arith
down-before false zero h = tt
down-before false (suc b) h = le_of_lt (le_refl (suc b))

down-not-back : (s : Bool) (b : ℕ) → ((s ≡ true) × (b ≡ INF) → ⊥) → b ≤ INF → Before s b (down_s s b) (down_i s b) → ⊥
down-not-back true b n h k = n (refl, top b h k)
  where
    top : (b : ℕ) → b ≤ INF → min (suc b) INF ≤ b → b ≡ INF
    top b h k = omega arith
down-not-back false zero n h k = no k.1
  where
    no : ◌≡◌ {A = ℕ} 1 0 → ⊥
    no h = omega arith
down-not-back false (suc b) n h k = not-le_of_lt (le_refl (suc b)) k

pub up_above : (x : Float) → T (fits binary64 x) → T (not (is_nan x)) → (x ≡ inf false → ⊥) → T (lt x (next_up x))
up_above x f h n =
    let v = view x f h in
    let s = v.sign in
    let b = v.index in
    subst (λ (z : Float). T (lt x z)) (sym (ap next_up v.is ∙ up_is s b v.within))
    (subst (λ (z : Float). T (lt z (F (up_s s b) (up_i s b)))) (sym v.is)
    (lt_of (F s b) (F (up_s s b) (up_i s b)) (before-le s b (up_s s b) (up_i s b) v.within (up_i-in s b v.within) (up-after s b v.within))
    (λ k. up-not-back s b (λ e. n (v.is ∙ ap (λ (t : Bool). F t b) e.0 ∙ F-at false b e.1)) v.within (le-before (up_s s b) (up_i s b) s b (up_i-in s b v.within) v.within k))))

pub down-below : (x : Float) → T (fits binary64 x) → T (not (is_nan x)) → (x ≡ inf true → ⊥) → T (lt (next_down x) x)
down-below x f h n =
    let v = view x f h in
    let s = v.sign in
    let b = v.index in
    subst (λ (z : Float). T (lt z x)) (sym (ap next_down v.is ∙ down_is s b v.within))
    (subst (λ (z : Float). T (lt (F (down_s s b) (down_i s b)) z)) (sym v.is)
    (lt_of (F (down_s s b) (down_i s b)) (F s b) (before-le (down_s s b) (down_i s b) s b (down_i-in s b v.within) v.within (down-before s b v.within))
    (λ k. down-not-back s b (λ e. n (v.is ∙ ap (λ (t : Bool). F t b) e.0 ∙ F-at true b e.1)) v.within (le-before s b (down_s s b) (down_i s b) v.within (down_i-in s b v.within) k))))
