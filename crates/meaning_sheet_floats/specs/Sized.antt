-- An exact float with a bound on its number: sums and products whose bounds are 2 ^ 53 at most are exact, and their bounds are the sums and products. Assumes nothing.
use Rattle.std.specs.Prelude.{◌≡◌, refl, ℕ, zero, suc, ◌+◌, ◌-◌, ◌*◌, ◌^◌, ◌≤◌, ◌<◌, Bool, true, false, cond, T, ltb, ℤ, pos, negsuc, neg_ℤ, nat_abs, ◌+ℤ◌, ◌-ℤ◌, ◌*ℤ◌, Float}
use Rattle.std.proofs.Common.{subst, le_refl, le_trans, mul-le-mul, add-le-add, ltb→lt}
use native.Mathlib.Omega.{arith}
use Rattle.std.proofs.Math.IntN.{sub_ℕ}
use Rattle.float_vectors.specs.Space.{◌+ᶠ◌, ◌-ᶠ◌, ◌*ᶠ◌, minus, dot_v, cross_v}
use Rattle.float_vectors.specs.declared.vector.Point3.{Point3}
use Rattle.float_vectors.specs.declared.vector.Vec3.{Vec3}
use Rattle.meaning.specs.Floats.{to_vec}
use Rattle.meaning_sheets.specs.Sheets.{Corner, minus_c, dot_c, cross_c}
use Rattle.meaning_sheet_floats.specs.Exactly.{Exactly, abs-signed, add-exactly, sub-exactly, mul-exactly}

-- ---- sizes of whole numbers
abs-sub : (a b : ℕ) → nat_abs (sub_ℕ a b) ≤ a + b
abs-sub a b = go (ltb a b) (ltb→lt a b)
  where
    go : (t : Bool) → (T t → a < b) → nat_abs (cond t (negsuc (b - suc a)) (pos (a - b))) ≤ a + b
    go true f = let h = f tt in omega arith
    go false f = omega arith

abs-sum : (a b : ℤ) → nat_abs (a +ℤ b) ≤ nat_abs a + nat_abs b
abs-sum (pos a) (pos b) = le_refl (a + b)
abs-sum (pos a) (negsuc b) = abs-sub a (suc b)
abs-sum (negsuc a) (pos b) = let h = abs-sub b (suc a) in omega arith
abs-sum (negsuc a) (negsuc b) = omega arith

abs_neg : (a : ℤ) → nat_abs (neg_ℤ a) ≡ nat_abs a
abs_neg (pos zero) = refl
abs_neg (pos (suc n)) = refl
abs_neg (negsuc n) = refl

abs-product : (a b : ℤ) → nat_abs (a *ℤ b) ≡ nat_abs a * nat_abs b
abs-product (pos a) (pos b) = refl
abs-product (pos a) (negsuc b) = abs-signed true (a * suc b)
abs-product (negsuc a) (pos b) = abs-signed true (suc a * b)
abs-product (negsuc a) (negsuc b) = refl

-- ---- z steps of 2 ^ -j, and k of them at most in size
pub record Sized (x : Float) (j : ℕ) (z : ℤ) (k : ℕ) : Type 0 where
  pub exact : Exactly x (2 ^ j) z
  pub within : nat_abs z ≤ k

pub relaxed : {x : Float} {j : ℕ} {z : ℤ} {k l : ℕ} → k ≤ l → Sized x j z k → Sized x j z l
relaxed h p = record { exact = p.exact; within = le_trans p.within h }

pub renamed : {x : Float} {j : ℕ} {y z : ℤ} {k : ℕ} → y ≡ z → Sized x j y k → Sized x j z k
renamed {x} {j} {k = k} e p = subst (λ (z : ℤ). Sized x j z k) e p

module _ {x y : Float} {j : ℕ} {a b : ℤ} {k l : ℕ} where
  pub sized-add : j ≤ 1074 → k + l ≤ 2 ^ 53 → Sized x j a k → Sized y j b l → Sized (x +ᶠ y) j (a +ℤ b) (k + l)
  sized-add J h p q =
      let w : nat_abs (a +ℤ b) ≤ k + l = le_trans (abs-sum a b) (add-le-add p.within q.within) in
      record { exact = add-exactly x y j a b J p.exact q.exact (le_trans w h); within = w }

  pub sized-sub : j ≤ 1074 → k + l ≤ 2 ^ 53 → Sized x j a k → Sized y j b l → Sized (x -ᶠ y) j (a -ℤ b) (k + l)
  sized-sub J h p q =
      let w : nat_abs (a -ℤ b) ≤ k + l = le_trans (abs-sum a (neg_ℤ b)) (add-le-add p.within (rw (abs_neg b) q.within)) in
      record { exact = sub-exactly x y j a b J p.exact q.exact (le_trans w h); within = w }

  pub sized-mul : {i : ℕ} → i + j ≤ 1074 → k * l ≤ 2 ^ 53 → Sized x i a k → Sized y j b l → Sized (x *ᶠ y) (i + j) (a *ℤ b) (k * l)
  sized-mul {i} J h p q =
      let w : nat_abs (a *ℤ b) ≤ k * l = rw (abs-product a b) (mul-le-mul p.within q.within) in
      record { exact = mul-exactly x y i j a b J p.exact q.exact (le_trans w h); within = w }

-- ---- the same of points and vectors
pub record SizedV (v : Vec3) (j : ℕ) (w : Corner) (k : ℕ) : Type 0 where
  pub x : Sized v.x j w.x k
  pub y : Sized v.y j w.y k
  pub z : Sized v.z j w.z k

module _ {p q : Point3} {j : ℕ} {a b : Corner} {k l : ℕ} where
  pub sized-minus : j ≤ 1074 → k + l ≤ 2 ^ 53 → SizedV (to_vec p) j a k → SizedV (to_vec q) j b l → SizedV (minus p q) j (minus_c a b) (k + l)
  unfolding minus minus_c
  sized-minus J h v w = record { x = sized-sub J h v.x w.x; y = sized-sub J h v.y w.y; z = sized-sub J h v.z w.z }

half : (n : ℕ) → n + n ≤ 2 ^ 53 → n ≤ 2 ^ 53
half n h = omega arith

module _ {v w : Vec3} {i j : ℕ} {a b : Corner} {k l : ℕ} where
  pub sized-cross : i + j ≤ 1074 → k * l + k * l ≤ 2 ^ 53 → SizedV v i a k → SizedV w j b l → SizedV (cross_v v w) (i + j) (cross_c a b) (k * l + k * l)
  unfolding cross_v cross_c
  sized-cross J h p q =
      record {
        x = sized-sub J h (sized-mul J (half (k * l) h) p.y q.z) (sized-mul J (half (k * l) h) p.z q.y);
        y = sized-sub J h (sized-mul J (half (k * l) h) p.z q.x) (sized-mul J (half (k * l) h) p.x q.z);
        z = sized-sub J h (sized-mul J (half (k * l) h) p.x q.y) (sized-mul J (half (k * l) h) p.y q.x);
      }

  pub sized-dot : i + j ≤ 1074 → k * l + k * l + k * l ≤ 2 ^ 53 → SizedV v i a k → SizedV w j b l → Sized (dot_v v w) (i + j) (dot_c a b) (k * l + k * l + k * l)
  unfolding dot_v dot_c
  sized-dot J h p q =
      let two : k * l + k * l ≤ 2 ^ 53 = omega arith in
      let one = half (k * l) two in
      sized-add J h (sized-add J two (sized-mul J one p.x q.x) (sized-mul J one p.y q.y)) (sized-mul J one p.z q.z)
