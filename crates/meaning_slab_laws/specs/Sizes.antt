-- How large areas get: of a step of a loop, of a loop, of a face, of a body. Assumes nothing.
use Rattle.std.specs.Prelude.{ℕ, ◌+◌, ◌*◌, ◌^◌, ◌≤◌, ◌<◌, ◌≡◌, true, List, [], ◌∷◌, ◌++◌, map, leb, ℤ, nat_abs, ◌-ℤ◌, length}
use Rattle.std.proofs.Common.{arith, leb-true}
use Rattle.float_vectors.specs.declared.vector.Point3.{Point3}
use Rattle.meaning.specs.Lists.{all}
use Rattle.meaning.specs.Model.{Model}
use Rattle.meaning.specs.Walks.{face_walk}
use Rattle.meaning.specs.Inquire.{rim}
use Rattle.meaning_list_laws.specs.Tests.{and_both}
use Rattle.meaning_sheet_laws.specs.Sizes.{size-sum, sixteenths-size, arm-size, product-within}
use Rattle.meaning_slabs.specs.Slabs.{steps, closed, Spot, spot, strip, sumℤ, loop_area, face_axis, corner_at, face_area, areas, area_sum}
use Rattle.meaning_slab_laws.specs.Steps.{closed-short, steps-closed}

-- a corner of the grid's range
pub record SmallSpot (p : Spot) : Type 0 where
  pub u : nat_abs p.u ≤ 32768
  pub v : nat_abs p.v ≤ 32768

pub spot-small : (a : ℕ) (p : Point3) → SmallSpot (spot a p)
unfolding spot
spot-small a p = record { u = sixteenths-size _; v = sixteenths-size _ }

pub strip-size : (p q : Spot) → SmallSpot p → SmallSpot q → nat_abs (strip p q) ≤ 2 ^ 31
unfolding strip
strip-size p q h g = product-within 32768 65536 p.u (q.v -ℤ p.v) h.u (arm-size q.v p.v g.v h.v)

-- a sum of steps, each of which is small
pub steps-size : (f : ℕ → ℕ → ℤ) (l : List ℕ) → ((i j : ℕ) → nat_abs (f i j) ≤ 2 ^ 31) → nat_abs (sumℤ (steps f l)) ≤ 2 ^ 31 * length l
unfolding steps sumℤ
steps-size f [] h = omega arith
steps-size f (p ∷ []) h = omega arith
steps-size f (p ∷ q ∷ l) h =
    let rest : nat_abs (sumℤ (steps f (q ∷ l))) ≤ 2 ^ 31 * length (q ∷ l) = steps-size f (q ∷ l) h in
    let one : nat_abs (f p q) ≤ 2 ^ 31 = h p q in
    omega (arith, size-sum (f p q) (sumℤ (steps f (q ∷ l))))

-- a face of n fins: 2^31 for each, and one more
pub face-size : (m : Model) (f : ℕ) → length (rim m f) ≤ 1024 → face_area m f ≤ 2 ^ 42
unfolding face_area loop_area
face-size m f h =
    let g : ℕ → ℕ → ℤ = λ i j. strip (spot (face_axis m f) (corner_at m i)) (spot (face_axis m f) (corner_at m j)) in
    let s : nat_abs (sumℤ (steps g (closed (rim m f)))) ≤ 2 ^ 31 * length (closed (rim m f)) =
    steps-size g (closed (rim m f)) (λ i j. strip-size (spot (face_axis m f) (corner_at m i)) (spot (face_axis m f) (corner_at m j)) (spot-small (face_axis m f) (corner_at m i)) (spot-small (face_axis m f) (corner_at m j))) in
    rw (steps-closed strip (λ i. spot (face_axis m f) (corner_at m i)) (rim m f)) (omega (arith, closed-short 0 (rim m f)))

-- of some faces, one after the other
pub sum-size : (m : Model) (l : List ℕ) → all (λ f. leb (length (rim m f)) 1024) l ≡ true → area_sum (map (face_area m) l) ≤ 2 ^ 42 * length l
unfolding area_sum all
sum-size m [] h = omega arith
sum-size m (f ∷ l) h =
    let both = and_both (leb (length (rim m f)) 1024) (all (λ f. leb (length (rim m f)) 1024) l) h in
    let one : face_area m f ≤ 2 ^ 42 = face-size m f (leb-true (length (rim m f)) 1024 both.0) in
    let rest : area_sum (map (face_area m) l) ≤ 2 ^ 42 * length l = sum-size m l both.1 in
    omega arith

-- "no area sum outgrows 64 bits within the limits": 1,024 fins of a loop, 512 faces
pub areas-fit : (m : Model) (b : ℕ) → all (λ f. leb (length (rim m f)) 1024) (face_walk m b) ≡ true → length (face_walk m b) ≤ 512 → area_sum (areas m b) < 2 ^ 64
unfolding areas
areas-fit m b h g = let s : area_sum (map (face_area m) (face_walk m b)) ≤ 2 ^ 42 * length (face_walk m b) = sum-size m (face_walk m b) h in omega arith

pub area-snoc : (l : List ℕ) (n : ℕ) → area_sum (l ++ (n ∷ [])) ≡ area_sum l + n
unfolding area_sum
area-snoc [] n = omega arith
area-snoc (k ∷ l) n = let e : area_sum (l ++ (n ∷ [])) ≡ area_sum l + n = area-snoc l n in omega arith
