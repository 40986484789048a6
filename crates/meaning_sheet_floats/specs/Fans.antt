-- The float fan of points on the grid is the whole number of their corners, in steps of 2 ^ -12 = 1 / 16 ^ 3, where the bound of its triangles is 2 ^ 53 at most. Assumes nothing.
use Rattle.std.specs.Prelude.{◌≡◌, refl, ℕ, zero, suc, ◌+◌, ◌-◌, ◌*◌, ◌^◌, ◌≤◌, Bool, true, false, ◌&&◌, List, [], ◌∷◌, map, T, leb, ℤ, pos, nat_abs, ◌+ℤ◌, length, Float}
use Rattle.std.proofs.Common.{sym, ap, ◌∙◌, subst, zero-le, le_of_eq, zero-add, add-zero, mul-zero, mul-suc, mul-add, add-mul, mul_assoc, mul-le-mul_right, arith, leb→le, lit≤}
use Rattle.std.proofs.lemmas.Bool.{false≢true}
use Rattle.std.proofs.Math.IntN.{+ℤ_assoc, +ℤ_idl, +ℤ_idr}
use Rattle.interval_arithmetic.specs.Ops.{zero_f}
use Rattle.float_grid.specs.Grid.{on_grid, sixteenths}
use Rattle.float_vectors.specs.Space.{minus, dot_v, cross_v}
use Rattle.float_vectors.specs.declared.vector.Point3.{Point3}
use Rattle.meaning.specs.Floats.{to_vec}
use Rattle.meaning.specs.Inquire.{fan}
use Rattle.meaning_sheets.specs.Sheets.{corner, grid_point, grid_points, wedge, whole_fan, whole_polygon}
use Rattle.meaning_sheet_floats.specs.Exactly.{Exactly, zero-exactly, grid-exactly}
use Rattle.meaning_sheet_floats.specs.Sized.{Sized, relaxed, renamed, sized-add, SizedV, sized-minus, sized-cross, sized-dot}
use Rattle.meaning_sheet_floats.specs.Terms.{small_point, small_points}

pub both : (a b : Bool) → (a && b) ≡ true → (a ≡ true) × (b ≡ true)
both true b h = (refl, h)
both false b h = absurd (false≢true h)

-- ---- a point on the grid, and a triangle of such points
coordinate : (c : ℕ) (x : Float) → on_grid x ≡ true → leb (nat_abs (sixteenths x)) c ≡ true → Sized x 4 (sixteenths x) c
coordinate c x g s = record { exact = grid-exactly x g; within = leb→le (nat_abs (sixteenths x)) c (subst T (sym s) tt) }

pub placed : (c : ℕ) (p : Point3) → grid_point p ≡ true → small_point c p ≡ true → SizedV (to_vec p) 4 (corner p) c
unfolding corner
placed c p g s =
    let gz = both (on_grid p.x && on_grid p.y) (on_grid p.z) g in
    let gx = both (on_grid p.x) (on_grid p.y) gz.0 in
    let sz = both (leb (nat_abs (sixteenths p.x)) c && leb (nat_abs (sixteenths p.y)) c) (leb (nat_abs (sixteenths p.z)) c) s in
    let sx = both (leb (nat_abs (sixteenths p.x)) c) (leb (nat_abs (sixteenths p.y)) c) sz.0 in
    record { x = coordinate c p.x gx.0 sx.0; y = coordinate c p.y gx.1 sx.1; z = coordinate c p.z gz.1 sz.1 }

-- 24 c ^ 3, the bound of a triangle
abbrev pub most : ℕ → ℕ
most c = 24 * (c * c * c)

square : (c : ℕ) → c ≤ c * c
square zero = zero-le
square (suc c) = rw (mul-suc (suc c) c) (omega arith)

module _ (c : ℕ) (h : most c ≤ 2 ^ 53) where
  sides : c + c ≤ 2 ^ 53
  sides = let a = square c in let b = mul-le-mul_right c a in omega arith

  crosses : (c + c) * (c + c) + (c + c) * (c + c) ≤ 2 ^ 53
  crosses = let b = mul-le-mul_right c (square c) in simp (add-mul, mul-add) (omega arith)

  dots : c * ((c + c) * (c + c) + (c + c) * (c + c)) + c * ((c + c) * (c + c) + (c + c) * (c + c)) + c * ((c + c) * (c + c) + (c + c) * (c + c)) ≡ most c
  dots = let e = mul_assoc c c c in simp (add-mul, mul-add) (omega arith)

  pub sized-wedge : (o p q : Point3) → SizedV (to_vec o) 4 (corner o) c → SizedV (to_vec p) 4 (corner p) c → SizedV (to_vec q) 4 (corner q) c
      → Sized (dot_v (to_vec o) (cross_v (minus p o) (minus q o))) 12 (wedge (corner o) (corner p) (corner q)) (most c)
  unfolding wedge
  sized-wedge o p q u v w =
      relaxed (le_of_eq dots)
      (sized-dot (lit≤ tt) (rw dots h) u (sized-cross (lit≤ tt) crosses (sized-minus {p = p} {q = o} (lit≤ tt) sides v u) (sized-minus {p = q} {q = o} (lit≤ tt) sides w u)))

-- ---- the fan: behind its first point p it has a triangle for each point
pub sized-fan : (c : ℕ) (o p : Point3) (l : List Point3) (acc : Float) (a : ℤ) (k : ℕ) → SizedV (to_vec o) 4 (corner o) c → grid_points (p ∷ l) ≡ true → small_points c (p ∷ l) ≡ true
    → k + most c * length l ≤ 2 ^ 53 → Sized acc 12 a k → Sized (fan o acc (p ∷ l)) 12 (a +ℤ whole_fan (corner o) (map corner (p ∷ l))) (k + most c * length l)
unfolding grid_points small_points fan whole_fan
sized-fan c o p [] acc a k u g s h r = renamed (sym (+ℤ_idr a)) (relaxed (le_of_eq (sym (ap (λ (z : ℕ). k + z) (mul-zero (most c)) ∙ add-zero k))) r)
sized-fan c o p (q ∷ l) acc a k u g s h r =
    let gp = both (grid_point p) (grid_point q && grid_points l) g in
    let sp = both (small_point c p) (small_point c q && small_points c l) s in
    let gq = both (grid_point q) (grid_points l) gp.1 in
    let sq = both (small_point c q) (small_points c l) sp.1 in
    let e = mul-suc (most c) (length l) in
    let all : k + most c + most c * length l ≤ 2 ^ 53 = omega arith in
    let w = sized-wedge c (omega arith) o p q u (placed c p gp.0 sp.0) (placed c q gq.0 sq.0) in
    relaxed (omega arith)
    (renamed (+ℤ_assoc a (wedge (corner o) (corner p) (corner q)) (whole_fan (corner o) (map corner (q ∷ l))))
    (sized-fan c o q l _ _ (k + most c) u gp.1 sp.1 all (sized-add (lit≤ tt) (omega arith) r w)))

-- the points of a polygon have two triangles less
pub sized-polygon : (c : ℕ) (o : Point3) (l : List Point3) → grid_points (o ∷ l) ≡ true → small_points c (o ∷ l) ≡ true → most c * (length (o ∷ l) - 2) ≤ 2 ^ 53
    → Sized (fan o zero_f l) 12 (whole_polygon (map corner (o ∷ l))) (most c * (length (o ∷ l) - 2))
unfolding grid_points small_points fan whole_fan whole_polygon
sized-polygon c o [] g s h = record { exact = zero-exactly (2 ^ 12); within = zero-le }
sized-polygon c o (p ∷ l) g s h =
    let go = both (grid_point o) (grid_points (p ∷ l)) g in
    let so = both (small_point c o) (small_points c (p ∷ l)) s in
    let e : length (o ∷ p ∷ l) - 2 ≡ length l = omega arith in
    rw e
    (renamed (+ℤ_idl (whole_fan (corner o) (map corner (p ∷ l))))
    (relaxed (le_of_eq (zero-add (most c * length l)))
    (sized-fan c o p l zero_f (pos 0) 0 (placed c o go.0 so.0) go.1 so.1 (rw (zero-add (most c * length l), ← e) h)
    (record { exact = zero-exactly (2 ^ 12); within = zero-le }))))

-- the float fan of points on the grid, before it is divided by six: 4096 times the float is the whole number
pub fan-exactly : (c : ℕ) (o : Point3) (l : List Point3) → grid_points (o ∷ l) ≡ true → small_points c (o ∷ l) ≡ true → 24 * (c * c * c) * (length (o ∷ l) - 2) ≤ 2 ^ 53
    → Exactly (fan o zero_f l) (16 ^ 3) (whole_polygon (map corner (o ∷ l)))
fan-exactly c o l g s h = (sized-polygon c o l g s h).exact
