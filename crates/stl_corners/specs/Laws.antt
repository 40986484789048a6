-- Corners read from bytes: a binary32 pattern's float, and triangles tested one after the other. Assumes nothing.
use Rattle.std.specs.Prelude.{ℕ, zero, suc, ◌+◌, ◌*◌, ◌%◌, ◌≤◌, ◌<◌, ◌≡◌, refl, Bool, true, false, not, ◌&&◌, ◌||◌, List, [], ◌∷◌, ◌++◌, T, length, drop, Float}
use Rattle.std.proofs.Common.{add-one, arith, sym, ap, ◌∙◌, subst, lt-ltb, eqb-true, ne_eqb}
use Rattle.std.proofs.Math.Arith.{le→nltb}
use Rattle.std.proofs.Math.Seq.{drop-drop}
use Rattle.std.specs.Float.{nan, inf, fin, binary32, binary64}
use Rattle.std.specs.Float.Ieee.{div, fits, is_nan, nan_bits, of_bits}
use Rattle.std.specs.Float.Ieee.Bits.{of_bits-fits, nan_bits_is, nan_bits_above}
use Rattle.std.specs.Float.Ieee.Fits.{and_i, fits_widens}
use Rattle.float_vectors.specs.declared.vector.Point3.{Point3}
use Rattle.float_vectors.specs.Space.{finite_point}
use Rattle.meaning_list_laws.specs.Tests.{and-true, and_assoc}
use Rattle.stl_format.specs.Stl.{Triangle}
use Rattle.stl_body.specs.Read.{coordinate_in, corner_in, triangle_in, triangles_in, count_in, stl_triangles, length_fits, same_point, corners, all_finite, all_apart}

-- ---- the length

pub too_short : (s : List ℕ) → length s < 84 → false ≡ length_fits s
unfolding length_fits
too_short s h = sym (ne_eqb (length s) (84 + 50 * count_in s) (λ e. omega arith))

pub fit_length : (s : List ℕ) → length_fits s ≡ true → length s ≡ 84 + 50 * count_in s
unfolding length_fits
fit_length s h = eqb-true (length s) (84 + 50 * count_in s) h

-- ---- a coordinate

abbrev INF : ℕ
INF = 0x7f800000

abbrev TOP : ℕ
TOP = 0x80000000

pub no_nan : (n : ℕ) → n % TOP ≤ INF → T (not (nan_bits binary32 n))
no_nan n h = subst (λ (t : Bool). T (not t)) (sym (nan_bits_above binary32 n)) (le→nltb INF (n % TOP) h)

-- what the cast asks
pub widens : (n : ℕ) → n % TOP ≤ INF → T (fits binary64 (of_bits binary32 n) && not (is_nan (of_bits binary32 n)))
widens n h =
    let v = of_bits binary32 n in
    and_i (fits binary64 v) (not (is_nan v)) (fits_widens v (of_bits-fits binary32 n)) (subst (λ (t : Bool). T (not t)) (nan_bits_is binary32 n) (no_nan n h))

nan_is : (v : Float) → is_nan v ≡ true → nan ≡ v
unfolding is_nan
nan_is nan h = refl
nan_is (inf s) h = absurd (subst (λ (t : Bool). T (not t)) h tt)
nan_is (fin s m e) h = absurd (subst (λ (t : Bool). T (not t)) h tt)

pub no_number : (n : ℕ) → INF < n % TOP → div binary64 (of_bits binary64 0) (of_bits binary64 0) ≡ of_bits binary32 n
unfolding div of_bits
no_number n h = nan_is (of_bits binary32 n) (sym (nan_bits_is binary32 n) ∙ nan_bits_above binary32 n ∙ lt-ltb INF (n % TOP) h)

-- ---- a corner and a triangle, by their places

abbrev pub point : Float → Float → Float → Point3
point x y z = record { x = x; y = y; z = z }

module _ (at : ℕ) (s : List ℕ) where
  pub corner-parts : point (coordinate_in (drop at s)) (coordinate_in (drop (at + 4) s)) (coordinate_in (drop (at + 8) s)) ≡ corner_in (drop at s)
  unfolding corner_in
  corner-parts = rw (drop-drop 4 at s, drop-drop 8 at s)

  pub finite-parts : (finite_point (corner_in (drop (at + 12) s)) && finite_point (corner_in (drop (at + 24) s)) && finite_point (corner_in (drop (at + 36) s))) ≡ all_finite (corners (triangle_in (drop at s) ∷ []))
  unfolding all_finite corners triangle_in
  finite-parts = rw (drop-drop 12 at s, drop-drop 24 at s, drop-drop 36 at s) (simp (and-true, and_assoc))

  pub apart_parts : not (same_point (corner_in (drop (at + 12) s)) (corner_in (drop (at + 24) s)) || same_point (corner_in (drop (at + 24) s)) (corner_in (drop (at + 36) s)) || same_point (corner_in (drop (at + 36) s)) (corner_in (drop (at + 12) s)))
      ≡ all_apart (triangle_in (drop at s) ∷ [])
  unfolding all_apart triangle_in
  apart_parts = rw (drop-drop 12 at s, drop-drop 24 at s, drop-drop 36 at s) (sym (and-true _))

-- ---- triangles, one after the other

rows_more : (k at q : ℕ) (s : List ℕ) → q ≡ at + 50 * k → triangles_in (suc k) (drop at s) ≡ triangles_in k (drop at s) ++ (triangle_in (drop q s) ∷ [])
unfolding triangles_in
rows_more zero at q s e = let f : at ≡ q = omega arith in ap (λ n. triangle_in (drop n s) ∷ []) f
rows_more (suc k) at q s e =
    ap (λ r. triangle_in (drop at s) ∷ triangles_in (suc k) r) (drop-drop 50 at s)
    ∙ ap (λ r. triangle_in (drop at s) ∷ r) (rows_more k (at + 50) q s (omega arith))
    ∙ ap (λ r. triangle_in (drop at s) ∷ (triangles_in k r ++ (triangle_in (drop q s) ∷ []))) (sym (drop-drop 50 at s))

pub finite-both : (k l : List Triangle) → all_finite (corners (k ++ l)) ≡ (all_finite (corners k) && all_finite (corners l))
unfolding all_finite corners
finite-both [] l = refl
finite-both (t ∷ k) l = rw (finite-both k l) (simp and_assoc)

pub apart-both : (k l : List Triangle) → all_apart (k ++ l) ≡ (all_apart k && all_apart l)
unfolding all_apart
apart-both [] l = refl
apart-both (t ∷ k) l = rw (apart-both k l) (simp and_assoc)

-- a test of all triangles, turn by turn
pub tested-more : (test : List Triangle → Bool) → ((k l : List Triangle) → test (k ++ l) ≡ (test k && test l)) → (k : ℕ) (s : List ℕ) (ok x : Bool)
    → ok ≡ test (triangles_in k (drop 84 s)) → x ≡ test (triangle_in (drop (84 + 50 * k) s) ∷ []) → (ok && x) ≡ test (triangles_in (k + 1) (drop 84 s))
tested-more test both k s ok x e f =
    ap (λ b. b && x) e
    ∙ ap (λ b. test (triangles_in k (drop 84 s)) && b) f
    ∙ sym (both (triangles_in k (drop 84 s)) (triangle_in (drop (84 + 50 * k) s) ∷ []))
    ∙ ap test (sym (rows_more k 84 (84 + 50 * k) s refl) ∙ ap (λ n. triangles_in n (drop 84 s)) (sym (add-one k)))

-- what is asked of as many as there are is asked of all
pub of-all : {B : Type 0} (f : List Triangle → B) (n : ℕ) (s : List ℕ) (r : B) → n ≡ count_in s → r ≡ f (triangles_in n (drop 84 s)) → f (stl_triangles s) ≡ r
unfolding stl_triangles
of-all f n s r e h = sym (h ∙ ap (λ m. f (triangles_in m (drop 84 s))) e)
