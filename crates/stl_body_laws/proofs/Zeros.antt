-- "Both zeros count as equal, the first met is stored, and nothing else near is joined": where no coordinate read is the zero below zero, every corner is stored as it is. Assumes nothing.
use Rattle.std.specs.Prelude.{ℕ, zero, suc, ◌*◌, ◌%◌, ◌^◌, ◌<◌, ◌≡◌, Bool, true, false, not, ◌&&◌, ◌||◌, eqb, leb, ltb, ℤ, pos, negsuc, drop, Float}
use Rattle.std.proofs.Common.{arith, mul-one, one-mul, zero-mul, mul_left_comm, mul-pos, zero-lt-suc, ap, ◌∙◌, eqb-true}
use Rattle.std.proofs.Math.Nat.{pow-succ'}
use Rattle.std.proofs.Math.Path.{refl, sym}
use Rattle.std.specs.Bool.{beq}
use Rattle.std.proofs.lemmas.Bool.{false≢true}
use mathlib.Core.List.{List, [], ◌∷◌, map}
use Rattle.std.proofs.Math.ListN.{get_or}
use Rattle.std.specs.Float.{nan, inf, fin, binary32}
use Rattle.std.specs.Float.Ieee.{prec, emax, low, up, down, fits, eq, of_bits}
use Rattle.std.specs.Float.Ieee.Fits.{up_pos, down_pos}
use Rattle.std.specs.Float.Ieee.Bits.{is_true, of_bits-fits}
use Rattle.float_vectors.specs.declared.vector.Point3.{Point3}
use Rattle.image_format.specs.Bytes.{number}
use Rattle.meaning_list_laws.specs.Tests.{and_both}
use Rattle.stl_format.specs.Stl.{Triangle}
use Rattle.stl_body.specs.Read.{coordinate_in, corner_in, triangle_in, triangles_in, count_in, stl_triangles, known, which_of, all_met, same_point, corners, mesh_of, all_finite, nowhere}
use Rattle.stl_body.specs.Laws.{holds}
use Rattle.stl_body.proofs.Laws.{holds-nth, which-below, which-same, met_holds}
use Rattle.stl_body.proofs.Meshes.{all-stored}
use Rattle.stl_body_laws.specs.Terms.{stored_point, stored_triangle, minus_zero, plain_point}

-- ---- a number other than zero is written in one way

even_odd : (m t : ℕ) → m % 2 ≡ 1 → m ≡ 2 * t → ⊥
even_odd m t o h = omega arith

doubled : (n b : ℕ) → n * 2 ^ suc b ≡ 2 * (n * 2 ^ b)
doubled n b = ap (λ x. n * x) (pow-succ' 2 b) ∙ mul_left_comm n 2 (2 ^ b)

odd-parts : (m n a b : ℕ) → m % 2 ≡ 1 → n % 2 ≡ 1 → m * 2 ^ a ≡ n * 2 ^ b → (m ≡ n) × (a ≡ b)
odd-parts m n zero zero o p h = (sym (mul-one m) ∙ h ∙ mul-one n, refl)
odd-parts m n zero (suc b) o p h = absurd (even_odd m (n * 2 ^ b) o (sym (mul-one m) ∙ h ∙ doubled n b))
odd-parts m n (suc a) zero o p h = absurd (even_odd n (m * 2 ^ a) p (sym (mul-one n) ∙ sym h ∙ doubled m a))
odd-parts m n (suc a) (suc b) o p h =
    let q : 2 * (m * 2 ^ a) ≡ 2 * (n * 2 ^ b) = sym (doubled m a) ∙ h ∙ doubled n b in
    let r = odd-parts m n a b o p (omega arith) in
    (r.0, ap suc r.1)

-- m · 2^e = n · 2^d
odd-floats : (m n : ℕ) (e d : ℤ) → m % 2 ≡ 1 → n % 2 ≡ 1 → m * up e * down d ≡ n * up d * down e → (m ≡ n) × (e ≡ d)
odd-floats m n (pos a) (pos b) o p h = let r = odd-parts m n a b o p (sym (mul-one (m * 2 ^ a)) ∙ h ∙ mul-one (n * 2 ^ b)) in (r.0, ap pos r.1)
odd-floats m n (pos a) (negsuc b) o p h = absurd (even_odd n (m * 2 ^ a * 2 ^ b) p (sym (mul-one n) ∙ sym (mul-one (n * 1)) ∙ sym h ∙ doubled (m * 2 ^ a) b))
odd-floats m n (negsuc a) (pos b) o p h = absurd (even_odd m (n * 2 ^ b * 2 ^ a) o (sym (mul-one m) ∙ sym (mul-one (m * 1)) ∙ h ∙ doubled (n * 2 ^ b) a))
odd-floats m n (negsuc a) (negsuc b) o p h =
    let r = odd-parts m n (suc b) (suc a) o p (ap (λ x. x * 2 ^ suc b) (sym (mul-one m)) ∙ h ∙ ap (λ x. x * 2 ^ suc a) (mul-one n)) in
    (r.0, ap negsuc (let z = r.1 in omega arith))

-- of a value that fits: m is odd, or it is 0 with the exponent 0
is_odd : (s : Bool) (m : ℕ) (e : ℤ) → fits binary32 (fin s (suc m) e) ≡ true → suc m % 2 ≡ 1
unfolding fits
is_odd s m e h =
    let a = and_both (eqb (suc m % 2) 1 && ltb (suc m) (2 ^ prec binary32) && leb (down e) (2 ^ low binary32)) (ltb (suc m * up e) (2 ^ suc (emax binary32) * down e)) h in
    let b = and_both (eqb (suc m % 2) 1 && ltb (suc m) (2 ^ prec binary32)) (leb (down e) (2 ^ low binary32)) a.0 in
    let c = and_both (eqb (suc m % 2) 1) (ltb (suc m) (2 ^ prec binary32)) b.0 in
    eqb-true (suc m % 2) 1 c.0

twice-one : (p : ℕ) → 2 * p ≡ 1 → ⊥
twice-one p e = omega arith

no-exponent : (e : ℤ) → up e * down e ≡ 1 → e ≡ pos 0
no-exponent (pos zero) h = refl
no-exponent (pos (suc k)) h = absurd (twice-one (2 ^ k) (sym (pow-succ' 2 k) ∙ sym (mul-one (2 ^ suc k)) ∙ h))
no-exponent (negsuc k) h = absurd (twice-one (2 ^ k) (sym (pow-succ' 2 k) ∙ sym (one-mul (2 ^ suc k)) ∙ h))

zero_exponent : (s : Bool) (e : ℤ) → fits binary32 (fin s zero e) ≡ true → e ≡ pos 0
unfolding fits
zero_exponent s e h = no-exponent e (eqb-true (up e * down e) 1 h)

not-nothing : (m : ℕ) (e d : ℤ) → suc m * up e * down d ≡ 0 → ⊥
not-nothing m e d h = let z : 0 < suc m * up e * down d = mul-pos (mul-pos (zero-lt-suc m) (up_pos e)) (down_pos d) in omega arith

nothing_is : (e d : ℤ) → zero * up e * down d ≡ 0
nothing_is e d = ap (λ x. x * down d) (zero-mul (up e)) ∙ zero-mul (down d)

same_sign : (s t : Bool) (n : ℕ) → (n ≡ 0 → ⊥) → (beq s t || eqb n 0) ≡ true → s ≡ t
same_sign true true n a h = refl
same_sign false false n a h = refl
same_sign true false n a h = absurd (a (eqb-true n 0 h))
same_sign false true n a h = absurd (a (eqb-true n 0 h))

above : (s : Bool) → not (s && true) ≡ true → s ≡ false
above true h = sym h
above false h = refl

-- "nothing else near is joined"
one_float : (x y : Float) → fits binary32 x ≡ true → fits binary32 y ≡ true → not (minus_zero x) ≡ true → not (minus_zero y) ≡ true → eq x y ≡ true → x ≡ y
unfolding eq minus_zero
one_float nan y f g p q h = absurd (false≢true h)
one_float (inf s) nan f g p q h = absurd (false≢true h)
one_float (inf s) (inf t) f g p q h = ap inf (by s t h)
  where
    by : (s t : Bool) → beq s t ≡ true → s ≡ t
    by true true e = refl
    by false false e = refl
    by true false e = absurd (false≢true e)
    by false true e = absurd (false≢true e)
one_float (inf s) (fin t n d) f g p q h = absurd (false≢true h)
one_float (fin s m e) nan f g p q h = absurd (false≢true h)
one_float (fin s m e) (inf t) f g p q h = absurd (false≢true h)
one_float (fin s zero e) (fin t zero d) f g p q h = λ i. fin ((above s p ∙ sym (above t q)) i) zero ((zero_exponent s e f ∙ sym (zero_exponent t d g)) i)
one_float (fin s zero e) (fin t (suc n) d) f g p q h =
    let both = and_both (eqb (zero * up e * down d) (suc n * up d * down e)) _ h in absurd (not-nothing n d e (sym (eqb-true _ _ both.0) ∙ nothing_is e d))
one_float (fin s (suc m) e) (fin t zero d) f g p q h =
    let both = and_both (eqb (suc m * up e * down d) (zero * up d * down e)) _ h in absurd (not-nothing m e d (eqb-true _ _ both.0 ∙ nothing_is d e))
one_float (fin s (suc m) e) (fin t (suc n) d) f g p q h =
    let both = and_both (eqb (suc m * up e * down d) (suc n * up d * down e)) (beq s t || eqb (suc m * up e * down d) 0) h in
    let r = odd-floats (suc m) (suc n) e d (is_odd s m e f) (is_odd t n d g) (eqb-true _ _ both.0) in
    let k : s ≡ t = same_sign s t (suc m * up e * down d) (not-nothing m e d) both.1 in
    λ i. fin (k i) (r.0 i) (r.1 i)

-- ---- points that are read

unfoldable pub fit_point : Point3 → Bool
fit_point p = fits binary32 p.x && fits binary32 p.y && fits binary32 p.z

pub one-point : (p q : Point3) → fit_point p ≡ true → fit_point q ≡ true → plain_point p ≡ true → plain_point q ≡ true → same_point p q ≡ true → p ≡ q
unfolding fit_point plain_point same_point
one-point p q f g a b h =
    let f1 = and_both (fits binary32 p.x && fits binary32 p.y) (fits binary32 p.z) f in
    let f2 = and_both (fits binary32 p.x) (fits binary32 p.y) f1.0 in
    let g1 = and_both (fits binary32 q.x && fits binary32 q.y) (fits binary32 q.z) g in
    let g2 = and_both (fits binary32 q.x) (fits binary32 q.y) g1.0 in
    let a1 = and_both (not (minus_zero p.x) && not (minus_zero p.y)) (not (minus_zero p.z)) a in
    let a2 = and_both (not (minus_zero p.x)) (not (minus_zero p.y)) a1.0 in
    let b1 = and_both (not (minus_zero q.x) && not (minus_zero q.y)) (not (minus_zero q.z)) b in
    let b2 = and_both (not (minus_zero q.x)) (not (minus_zero q.y)) b1.0 in
    let h1 = and_both (eq p.x q.x && eq p.y q.y) (eq p.z q.z) h in
    let h2 = and_both (eq p.x q.x) (eq p.y q.y) h1.0 in
    let x : p.x ≡ q.x = one_float p.x q.x f2.0 g2.0 a2.0 b2.0 h2.0 in
    let y : p.y ≡ q.y = one_float p.y q.y f2.1 g2.1 a2.1 b2.1 h2.1 in
    let z : p.z ≡ q.z = one_float p.z q.z f1.1 g1.1 a1.1 b1.1 h1.1 in
    λ i. record { x = x i; y = y i; z = z i }

coordinate-fits : (s : List ℕ) → fits binary32 (coordinate_in s) ≡ true
unfolding coordinate_in
coordinate-fits s = is_true (fits binary32 (of_bits binary32 (number 4 s))) (of_bits-fits binary32 (number 4 s))

corner-fits : (s : List ℕ) → fit_point (corner_in s) ≡ true
unfolding fit_point corner_in
corner-fits s = rw (coordinate-fits s, coordinate-fits (drop 4 s), coordinate-fits (drop 8 s))

triangles-fit : (n : ℕ) (s : List ℕ) → holds fit_point (corners (triangles_in n s)) ≡ true
unfolding holds corners triangles_in triangle_in
triangles-fit zero s = refl
triangles-fit (suc n) s = rw (corner-fits (drop 12 s), corner-fits (drop 24 s), corner-fits (drop 36 s)) (triangles-fit n (drop 50 s))

-- the coordinates read are binary32 values
pub read_fits : (s : List ℕ) → holds fit_point (corners (stl_triangles s)) ≡ true
unfolding stl_triangles
read_fits s = triangles-fit (count_in s) (drop 84 s)

-- ---- stored as they are

abbrev both : Point3 → Bool
both p = fit_point p && plain_point p

holds-both : (l : List Point3) → holds fit_point l ≡ true → holds plain_point l ≡ true → holds both l ≡ true
unfolding holds
holds-both [] f g = refl
holds-both (p ∷ l) f g =
    let a = and_both (fit_point p) (holds fit_point l) f in
    let b = and_both (plain_point p) (holds plain_point l) g in
    rw (a.0, b.0) (holds-both l a.1 b.1)

module _ (points : List Point3) (good : holds both points ≡ true) where
  stored-itself : (p : Point3) → both p ≡ true → known same_point p points ≡ true → stored_point points p ≡ p
  unfolding stored_point
  stored-itself p h k =
      let q = get_or points (which_of same_point p points) nowhere in
      let a = and_both (fit_point p) (plain_point p) h in
      let b = and_both (fit_point q) (plain_point q) (holds-nth both points (which_of same_point p points) nowhere good (which-below same_point p points k)) in
      sym (one-point p q a.0 b.0 a.1 b.1 (which-same same_point p points nowhere k))

  stored-all : (l : List Triangle) → holds both (corners l) ≡ true → holds (λ q. known same_point q points) (corners l) ≡ true → map (stored_triangle points) l ≡ l
  unfolding holds corners stored_triangle
  stored-all [] h k = refl
  stored-all (t ∷ l) h k =
      let h1 = and_both (both t.a) _ h in
      let h2 = and_both (both t.b) _ h1.1 in
      let h3 = and_both (both t.c) _ h2.1 in
      let k1 = and_both (known same_point t.a points) _ k in
      let k2 = and_both (known same_point t.b points) _ k1.1 in
      let k3 = and_both (known same_point t.c points) _ k2.1 in
      rw (stored-itself t.a h1.0 k1.0, stored-itself t.b h2.0 k2.0, stored-itself t.c h3.0 k3.0) (ap (λ r. t ∷ r) (stored-all l h3.1 k3.1))

pub stored-as-read : (l : List Triangle) → all_finite (corners l) ≡ true → holds fit_point (corners l) ≡ true → holds plain_point (corners l) ≡ true → map (stored_triangle (mesh_of l).points) l ≡ l
unfolding mesh_of
stored-as-read l h f g =
    let good = holds-both (corners l) f g in
    stored-all (all_met same_point (corners l)) (met_holds same_point both [] (corners l) none good) l good (all-stored l h)
  where
    none : holds both [] ≡ true
    none = unfold holds in refl
