-- The float volume of a body's sides: each side's sixth is exact, and so is every running sum. Assumes nothing.
use Rattle.std.specs.Prelude.{◌≡◌, refl, ℕ, suc, ◌+◌, ◌-◌, ◌*◌, ◌/◌, ◌%◌, ◌^◌, ◌≤◌, Bool, true, false, cond, List, [], ◌∷◌, map, reverse, T, eqb, ℤ, pos, negsuc, neg_ℤ, nat_abs, ◌+ℤ◌, ◌*ℤ◌, length, Float}
use Rattle.std.proofs.Common.{sym, ap, ap₂, ◌∙◌, subst, zero-le, le_trans, add-zero, mul-zero, mul-add, div-le_self, arith, eqb→eq, lit≤}
use Rattle.std.proofs.Math.IntN.{+ℤ_assoc, +ℤ_idr}
use Rattle.std.specs.Int.Signed.{quot_z}
use Rattle.std.proofs.lemmas.List.{length-map, length-reverse}
use Rattle.interval_arithmetic.specs.Ops.{zero_f}
use Rattle.float_values.specs.Laws.Integers.{sum-parts, same_parts, over-scaled, under-scaled}
use Rattle.float_vectors.specs.Space.{◌+ᶠ◌}
use Rattle.float_vectors.specs.declared.vector.Point3.{Point3}
use Rattle.meaning.specs.Lists.{the}
use Rattle.meaning.specs.Model.{Model, point_of}
use Rattle.meaning.specs.Inquire.{Side, rim, start_of, inward, fan, polygon_volume, side_volume, sum_volumes}
use Rattle.meaning_sheets.specs.Sheets.{corner, whole_polygon, side_points, whole_side, whole_sum, grid_points, grid_sides, triangles}
use Rattle.meaning_sheet_floats.specs.Exactly.{Exactly, abs-signed, thrice-signed, zero-exactly, sixth-exactly, tripled}
use Rattle.meaning_sheet_floats.specs.Sized.{Sized, sized-add}
use Rattle.meaning_sheet_floats.specs.Terms.{small_points, small_sides, threes_in}
use Rattle.meaning_sheet_floats.specs.Fans.{both, most, sized-polygon}

-- ---- a third of a whole number
third-is : (z : ℤ) → nat_abs z % 3 ≡ 0 → quot_z z (pos 3) *ℤ pos 3 ≡ z
third-is (pos a) h = ap pos (omega arith)
third-is (negsuc a) h = thrice-signed true (suc a / 3) ∙ ap (λ (n : ℕ). neg_ℤ (pos n)) (back (suc a) h)
  where
    back : (n : ℕ) → n % 3 ≡ 0 → n / 3 * 3 ≡ n
    back n h = omega arith

third-less : (z : ℤ) → nat_abs (quot_z z (pos 3)) ≤ nat_abs z
third-less (pos a) = div-le_self a 3
third-less (negsuc a) = rw (abs-signed true (suc a / 3)) (div-le_self (suc a) 3)

thrice-sum : (a b : ℤ) → (a +ℤ b) *ℤ pos 3 ≡ a *ℤ pos 3 +ℤ b *ℤ pos 3
thrice-sum a b =
    let s = sum-parts a b in
    let t = sum-parts (a *ℤ pos 3) (b *ℤ pos 3) in
    let o = over-scaled (a +ℤ b) 3 in
    let u = under-scaled (a +ℤ b) 3 in
    let oa = over-scaled a 3 in
    let ua = under-scaled a 3 in
    let ob = over-scaled b 3 in
    let ub = under-scaled b 3 in
    same_parts ((a +ℤ b) *ℤ pos 3) (a *ℤ pos 3 +ℤ b *ℤ pos 3) (omega arith)

-- ---- x is a sixth of z / 16 ^ 3: it is a third of z in steps of 2 ^ -13, k of them at most
pub record Sixth (x : Float) (z : ℤ) (k : ℕ) : Type 0 where
  pub third : ℤ
  pub sized : Sized x 13 third k
  pub is : third *ℤ pos 3 ≡ z

pub sixth-zero : Sixth zero_f (pos 0) 0
sixth-zero = record { third = pos 0; sized = record { exact = zero-exactly (2 ^ 13); within = zero-le }; is = refl }

sixth-add : {x y : Float} {z w : ℤ} {k l : ℕ} → k + l ≤ 2 ^ 53 → Sixth x z k → Sixth y w l → Sixth (x +ᶠ y) (z +ℤ w) (k + l)
sixth-add h p q =
    record {
      third = p.third +ℤ q.third;
      sized = sized-add (lit≤ tt) h p.sized q.sized;
      is = thrice-sum p.third q.third ∙ ap₂ ◌+ℤ◌ p.is q.is;
    }

pub sixth-renamed : {x : Float} {y z : ℤ} {k l : ℕ} → y ≡ z → k ≡ l → Sixth x y k → Sixth x z l
sixth-renamed {x} {y} {l = l} e f p = subst (λ (z : ℤ). Sixth x z l) e (subst (Sixth x y) f p)

pub sixth-exact : {x : Float} {z : ℤ} {k : ℕ} → Sixth x z k → Exactly x (6 * 16 ^ 3) z
sixth-exact {x} {z} p = tripled x (2 ^ 13) z p.third p.is p.sized.exact

-- ---- a side
sixth-polygon : (c : ℕ) (l : List Point3) → grid_points l ≡ true → small_points c l ≡ true → eqb (nat_abs (whole_polygon (map corner l)) % 3) 0 ≡ true → most c * (length l - 2) ≤ 2 ^ 53
    → Sixth (polygon_volume l) (whole_polygon (map corner l)) (most c * (length l - 2))
unfolding polygon_volume whole_polygon
sixth-polygon c [] g s t h = sixth-renamed refl (sym (mul-zero (most c))) sixth-zero
sixth-polygon c (o ∷ l) g s t h =
    let z = whole_polygon (map corner (o ∷ l)) in
    let p = sized-polygon c o l g s h in
    let e = third-is z (eqb→eq (nat_abs z % 3) 0 (subst T (sym t) tt)) in
    let w = le_trans (third-less z) p.within in
    record {
      third = quot_z z (pos 3);
      sized = record { exact = sixth-exactly (fan o zero_f l) 12 z (quot_z z (pos 3)) (lit≤ tt) p.exact e (le_trans w h); within = w };
      is = e;
    }

-- the points of a side are as many as its fins
side-length : (m : Model) (s : Side) → length (side_points m s) ≡ length (rim m s.face)
unfolding side_points
side-length m s = go (inward m s)
  where
    go : (t : Bool) → length (cond t (reverse (map (λ i. point_of m (the (start_of m i))) (rim m s.face))) (map (λ i. point_of m (the (start_of m i))) (rim m s.face))) ≡ length (rim m s.face)
    go true = length-reverse (map (λ i. point_of m (the (start_of m i))) (rim m s.face)) ∙ length-map (rim m s.face) (λ i. point_of m (the (start_of m i)))
    go false = length-map (rim m s.face) (λ i. point_of m (the (start_of m i)))

sixth-side : (c : ℕ) (m : Model) (s : Side) → grid_points (side_points m s) ≡ true → small_points c (side_points m s) ≡ true → eqb (nat_abs (whole_side m s) % 3) 0 ≡ true
    → most c * (length (rim m s.face) - 2) ≤ 2 ^ 53 → Sixth (side_volume m s) (whole_side m s) (most c * (length (rim m s.face) - 2))
unfolding side_volume whole_side side_points
sixth-side c m s g k t h =
    let e : most c * (length (side_points m s) - 2) ≡ most c * (length (rim m s.face) - 2) = ap (λ (n : ℕ). most c * (n - 2)) (side-length m s) in
    sixth-renamed refl e (sixth-polygon c (side_points m s) g k t (rw e h))

-- ---- the sides one after the other
pub sixth-sides : (c : ℕ) (m : Model) (l : List Side) (acc : Float) (z : ℤ) (k : ℕ) → grid_sides m l ≡ true → small_sides c m l ≡ true → threes_in m l ≡ true
    → k + most c * triangles m l ≤ 2 ^ 53 → Sixth acc z k → Sixth (sum_volumes m acc l) (z +ℤ whole_sum m l) (k + most c * triangles m l)
unfolding grid_sides small_sides threes_in triangles sum_volumes whole_sum
sixth-sides c m [] acc z k g s t h p = sixth-renamed (sym (+ℤ_idr z)) (sym (ap (λ (n : ℕ). k + n) (mul-zero (most c)) ∙ add-zero k)) p
sixth-sides c m (s ∷ l) acc z k g w t h p =
    let gs = both (grid_points (side_points m s)) (grid_sides m l) g in
    let ws = both (small_points c (side_points m s)) (small_sides c m l) w in
    let ts = both (eqb (nat_abs (whole_side m s) % 3) 0) (threes_in m l) t in
    let n = length (rim m s.face) - 2 in
    let e : most c * (n + triangles m l) ≡ most c * n + most c * triangles m l = mul-add (most c) n (triangles m l) in
    let q = sixth-side c m s gs.0 ws.0 ts.0 (omega arith) in
    sixth-renamed (+ℤ_assoc z (whole_side m s) (whole_sum m l)) (omega arith)
    (sixth-sides c m l _ _ (k + most c * n) gs.1 ws.1 ts.1 (omega arith) (sixth-add (omega arith) p q))
