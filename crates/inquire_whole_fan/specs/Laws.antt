-- The fan in whole numbers, one triangle after the other, and points that are on the grid. Assumes nothing.
use Rattle.std.specs.Prelude.{ℕ, zero, suc, ◌+◌, ◌-◌, ◌*◌, ◌^◌, ◌≤◌, ◌<◌, ◌≡◌, refl, Bool, true, false, ◌&&◌, ℤ, pos, nat_abs, ◌+ℤ◌, length, get_or, drop, take}
use Rattle.std.proofs.Common.{arith, add-one, sym, ap, ◌∙◌, subst, drop-cons, SFits}
use mathlib.Core.List.{List, [], ◌∷◌, ◌++◌, map, reverse, reverse-cons}
use Rattle.std.proofs.Math.IntN.{+ℤ_assoc, +ℤ_idr}
use Rattle.float_vectors.specs.declared.vector.Point3.{Point3}
use Rattle.meaning_list_laws.specs.Tests.{and_both, and-true, and_assoc}
use Rattle.meaning_sheets.specs.Sheets.{Corner, corner, grid_point, grid_points, wedge, whole_fan, whole_polygon}
use Rattle.meaning_sheet_laws.specs.Sizes.{Small, size-sum, wedge-size}
use Rattle.walk_marks.specs.Laws.{map-turn}
use Rattle.inquire_fan.specs.Fan.{origin_p, turned}
use Rattle.inquire_corners.specs.Machines.{bits, fitting, plain, read-wedge}
use Rattle.std.specs.Int.{w64}

-- ---- points on the grid

pub grid-none : true ≡ grid_points []
unfolding grid_points
grid-none = refl

grid-snoc : (l : List Point3) (p : Point3) → grid_points (l ++ (p ∷ [])) ≡ (grid_points l && grid_point p)
unfolding grid_points
grid-snoc [] p = and-true (grid_point p)
grid-snoc (q ∷ l) p = ap (λ t. grid_point q && t) (grid-snoc l p) ∙ sym (and_assoc (grid_point q) (grid_points l) (grid_point p))

-- one fin more
pub grid-turn : (at : ℕ → Point3) (fins : List ℕ) (k : ℕ) (on : Bool) (p : Point3) (b : Bool) → k < length fins → on ≡ grid_points (map at (take k fins)) → p ≡ at (get_or fins k 0) → b ≡ grid_point p
    → (on && b) ≡ grid_points (map at (take (k + 1) fins))
grid-turn at fins k on p b h e f g =
    ap (λ t. t && b) e ∙ ap (λ t. grid_points (map at (take k fins)) && t) (g ∙ ap grid_point f)
    ∙ sym (ap grid_points (map-turn at fins k h) ∙ grid-snoc (map at (take k fins)) (at (get_or fins k 0)))

grid-back : (l : List Point3) → grid_points (reverse l) ≡ grid_points l
unfolding grid_points
grid-back [] = refl
grid-back (p ∷ l) = ap grid_points (reverse-cons p l) ∙ grid-snoc (reverse l) p ∙ ap (λ t. t && grid_point p) (grid-back l) ∙ turned-and (grid_points l) (grid_point p)
  where
    turned-and : (a b : Bool) → (a && b) ≡ (b && a)
    turned-and true true = refl
    turned-and true false = refl
    turned-and false true = refl
    turned-and false false = refl

-- "a front side reverses the points", which leaves them on the grid
pub grid-turned : (back : Bool) (l : List Point3) → grid_points (turned back l) ≡ grid_points l
unfolding turned
grid-turned true l = grid-back l
grid-turned false l = refl

pub grid-at : (l : List Point3) (k : ℕ) → grid_points l ≡ true → k < length l → grid_point (get_or l k origin_p) ≡ true
unfolding grid_points
grid-at [] k e h = absurd (omega arith)
grid-at (p ∷ l) zero e h = (and_both (grid_point p) (grid_points l) e).0
grid-at (p ∷ l) (suc k) e h = grid-at l k (and_both (grid_point p) (grid_points l) e).1 (omega arith)

-- ---- the fan

abbrev pub origin_c : Corner
origin_c = corner origin_p

pub corner-at : (l : List Point3) (k : ℕ) → get_or (map corner l) k origin_c ≡ corner (get_or l k origin_p)
corner-at [] zero = refl
corner-at [] (suc k) = refl
corner-at (p ∷ l) zero = refl
corner-at (p ∷ l) (suc k) = corner-at l k

-- one triangle more: p is held, q is the next
pub fan-turn : (o p q : Corner) (acc : ℤ) (l : List Corner) (k : ℕ) → k + 1 < length l → p ≡ get_or l k origin_c → q ≡ get_or l (k + 1) origin_c
    → acc +ℤ whole_fan o (drop k l) ≡ acc +ℤ wedge o p q +ℤ whole_fan o (drop (k + 1) l)
unfolding whole_fan
fan-turn o p q acc l k h e f =
    let next : drop (k + 1) l ≡ q ∷ drop (suc (k + 1)) l = drop-cons l (k + 1) origin_c h ∙ ap (λ t. t ∷ drop (suc (k + 1)) l) (sym f) in
    let both : drop k l ≡ p ∷ q ∷ drop (suc (k + 1)) l =
    drop-cons l k origin_c (omega arith) ∙ ap (λ i. get_or l k origin_c ∷ drop i l) (sym (add-one k)) ∙ ap (λ t. t ∷ drop (k + 1) l) (sym e) ∙ ap (λ t. p ∷ t) next in
    ap (λ t. acc +ℤ whole_fan o t) both ∙ sym (+ℤ_assoc acc (wedge o p q) (whole_fan o (q ∷ drop (suc (k + 1)) l))) ∙ ap (λ t. acc +ℤ wedge o p q +ℤ whole_fan o t) (sym next)

pub fan-done : (o : Corner) (acc : ℤ) (l : List Corner) (k : ℕ) → length l ≤ k + 1 → acc +ℤ whole_fan o (drop k l) ≡ acc
unfolding whole_fan
fan-done o acc l k h = ap (λ z. acc +ℤ z) (none o l k h) ∙ +ℤ_idr acc
  where
    none : (o : Corner) (l : List Corner) (k : ℕ) → length l ≤ k + 1 → whole_fan o (drop k l) ≡ pos 0
    none o [] zero h = refl
    none o [] (suc k) h = refl
    none o (p ∷ []) zero h = refl
    none o (p ∷ q ∷ l) zero h = absurd (omega arith)
    none o (p ∷ l) (suc k) h = none o l k (omega arith)

pub polygon-fan : (l : List Corner) → 0 < length l → whole_polygon l ≡ whole_fan (get_or l 0 origin_c) (drop 1 l)
unfolding whole_polygon
polygon-fan [] h = absurd (omega arith)
polygon-fan (p ∷ l) h = refl

-- ---- the sum that `i64` holds: k - 1 triangles, of 1,022 at most

module _ (acc r : ℤ) (o p q : Corner) (e : r ≡ wedge o p q) (so : Small o) (sp : Small p) (sq : Small q) (k : ℕ) (first : 1 ≤ k) (last : k ≤ 1023) (h : nat_abs acc ≤ 3 * 2 ^ 48 * (k - 1)) where
  sum : (acc +ℤ bits r) ≡ acc +ℤ wedge o p q
  sum = ap (λ (z : ℤ). acc +ℤ z) (read-wedge r o p q e so sp sq)

  pub sum-size : nat_abs (acc +ℤ wedge o p q) ≤ 3 * 2 ^ 48 * (k + 1 - 1)
  sum-size = omega (arith, size-sum acc (wedge o p q), wedge-size o p q so sp sq)

  held : nat_abs (acc +ℤ wedge o p q) ≤ 2 ^ 62
  held = omega (arith, sum-size)

  pub sum_fits : SFits w64 (acc +ℤ bits r)
  sum_fits = subst (SFits w64) (sym sum) (fitting (acc +ℤ wedge o p q) held)

  pub sum_is : bits (acc +ℤ bits r) ≡ acc +ℤ wedge o p q
  sum_is = ap bits sum ∙ plain (acc +ℤ wedge o p q) held
