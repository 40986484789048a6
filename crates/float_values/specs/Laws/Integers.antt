-- A whole number as the difference of two natural numbers, `over` less `under`: its sums, products and order, and those two parts of a float's number. Assumes nothing.
use Rattle.std.specs.Prelude.{◌≡◌, refl, ℕ, zero, suc, ◌+◌, ◌-◌, ◌*◌, ◌≤◌, ◌<◌, Bool, true, false, not, cond, T, ltb, ℤ, pos, negsuc, neg_ℤ, ◌+ℤ◌, ◌-ℤ◌, ◌*ℤ◌, ◌≤ℤ◌, Float}
use Rattle.std.proofs.Common.{sym, ap, ◌∙◌, subst, mul-zero, zero-mul, arith, ltb→lt, nltb→le, leb→le, le→leb}
use Rattle.std.proofs.Math.IntN.{neg_ℤ-neg_ℤ, sub_ℕ}
use Rattle.std.specs.Int.Signed.{le_z, le_z_yes}
use Rattle.std.specs.Float.{nan, inf, fin}
use Rattle.std.specs.Float.Ieee.{neg}
use Rattle.float_values.specs.Value.{units, value}
use Rattle.float_values.specs.Laws.Pairs.{plus, minus, over, under}

-- ---- the two parts of a whole number
over-neg : (A : ℤ) → over (neg_ℤ A) ≡ under A
over-neg (pos zero) = refl
over-neg (pos (suc n)) = refl
over-neg (negsuc n) = refl

under-neg : (A : ℤ) → under (neg_ℤ A) ≡ over A
under-neg (pos zero) = refl
under-neg (pos (suc n)) = refl
under-neg (negsuc n) = refl

sub_parts : (a b : ℕ) → a + under (sub_ℕ a b) ≡ over (sub_ℕ a b) + b
sub_parts a b = go (ltb a b) (ltb→lt a b) (nltb→le a b)
  where
    low : a < b → a + suc (b - suc a) ≡ 0 + b
    low h = omega arith

    high : b ≤ a → a + 0 ≡ a - b + b
    high h = omega arith

    go : (t : Bool) → (T t → a < b) → (T (not t) → b ≤ a) → a + under (cond t (negsuc (b - suc a)) (pos (a - b))) ≡ over (cond t (negsuc (b - suc a)) (pos (a - b))) + b
    go true f g = low (f tt)
    go false f g = high (g tt)

pub sum-parts : (A B : ℤ) → over A + over B + under (A +ℤ B) ≡ over (A +ℤ B) + (under A + under B)
sum-parts (pos a) (pos b) = omega arith
sum-parts (pos a) (negsuc b) = let w = sub_parts a (suc b) in omega arith
sum-parts (negsuc a) (pos b) = let w = sub_parts b (suc a) in omega arith
sum-parts (negsuc a) (negsuc b) = omega arith

pub diff-parts : (A B : ℤ) → over A + under B + under (A -ℤ B) ≡ over (A -ℤ B) + (under A + over B)
diff-parts A B = subst (λ (z : ℕ). over A + z + under (A -ℤ B) ≡ over (A -ℤ B) + (under A + over B)) (over-neg B)
    (subst (λ (z : ℕ). over A + over (neg_ℤ B) + under (A -ℤ B) ≡ over (A -ℤ B) + (under A + z)) (under-neg B) (sum-parts A (neg_ℤ B)))

pub neg-parts : (A : ℤ) → under A + under (neg_ℤ A) ≡ over (neg_ℤ A) + over A
neg-parts A = rw (under-neg A, over-neg A)

pub product-parts : (A B : ℤ) → over A * over B + under A * under B + under (A *ℤ B) ≡ over (A *ℤ B) + (over A * under B + under A * over B)
product-parts (pos a) (pos b) = let w = mul-zero a in omega arith
product-parts (pos a) (negsuc b) = let w = mul-zero a in let u = under-neg (pos (a * suc b)) in let v = over-neg (pos (a * suc b)) in omega arith
product-parts (negsuc a) (pos b) = let w = mul-zero (suc a) in let u = under-neg (pos (suc a * b)) in let v = over-neg (pos (suc a * b)) in omega arith
product-parts (negsuc a) (negsuc b) = let w = mul-zero (suc a) in omega arith

-- ---- the order of integers
pub le_parts : (A B : ℤ) → A ≤ℤ B → over A + under B ≤ over B + under A
le_parts A B h = go A B h.le
  where
    go : (A B : ℤ) → T (le_z A B) → over A + under B ≤ over B + under A
    go (pos a) (pos b) t = let w = leb→le a b t in omega arith
    go (pos a) (negsuc b) t = absurd t
    go (negsuc a) (pos b) t = omega arith
    go (negsuc a) (negsuc b) t = let w = leb→le b a t in omega arith

pub of_parts : (A B : ℤ) → over A + under B ≤ over B + under A → A ≤ℤ B
of_parts (pos a) (pos b) h = le_z_yes (le→leb a b (omega arith))
of_parts (pos a) (negsuc b) h = absurd (no a b h)
  where
    no : (a b : ℕ) → a + suc b ≤ 0 + 0 → ⊥
    no a b h = omega arith
of_parts (negsuc a) (pos b) h = le_z_yes tt
of_parts (negsuc a) (negsuc b) h = le_z_yes (le→leb b a (omega arith))

pub same_parts : (A B : ℤ) → over A + under B ≡ over B + under A → A ≡ B
same_parts (pos a) (pos b) h = ap pos (omega arith)
same_parts (pos a) (negsuc b) h = absurd (omega arith)
same_parts (negsuc a) (pos b) h = absurd (omega arith)
same_parts (negsuc a) (negsuc b) h = ap negsuc (omega arith)

pub over-scaled : (A : ℤ) (c : ℕ) → over (A *ℤ pos c) ≡ over A * c
over-scaled (pos a) c = refl
over-scaled (negsuc a) c = over-neg (pos (suc a * c)) ∙ sym (zero-mul c)

pub under-scaled : (A : ℤ) (c : ℕ) → under (A *ℤ pos c) ≡ under A * c
under-scaled (pos a) c = sym (zero-mul c)
under-scaled (negsuc a) c = under-neg (pos (suc a * c))

-- A * c ≤ B * d, by the parts of A and B
pub scaled-out : (A B : ℤ) (c d : ℕ) → (A *ℤ pos c) ≤ℤ (B *ℤ pos d) → over A * c + under B * d ≤ over B * d + under A * c
scaled-out A B c d h = rw (← over-scaled A c, ← under-scaled A c, ← over-scaled B d, ← under-scaled B d) (le_parts (A *ℤ pos c) (B *ℤ pos d) h)

pub scaled-in : (A B : ℤ) (c d : ℕ) → over A * c + under B * d ≤ over B * d + under A * c → (A *ℤ pos c) ≤ℤ (B *ℤ pos d)
scaled-in A B c d h = of_parts (A *ℤ pos c) (B *ℤ pos d) (rw (over-scaled A c, under-scaled A c, over-scaled B d, under-scaled B d) h)

-- ---- the parts of a float's number
pub over-value : (x : Float) → over (value x) ≡ plus x
over-value nan = refl
over-value (inf s) = refl
over-value (fin false m e) = refl
over-value (fin true m e) = over-neg (pos (units (fin true m e)))

pub under-value : (x : Float) → under (value x) ≡ minus x
under-value nan = refl
under-value (inf s) = refl
under-value (fin false m e) = refl
under-value (fin true m e) = under-neg (pos (units (fin true m e)))

pub value-neg : (x : Float) → value (neg x) ≡ neg_ℤ (value x)
unfolding neg
value-neg nan = refl
value-neg (inf s) = refl
value-neg (fin true m e) = sym (neg_ℤ-neg_ℤ (pos (units (fin true m e))))
value-neg (fin false m e) = refl
