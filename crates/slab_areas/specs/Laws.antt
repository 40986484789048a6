-- Areas as `i64` and `u64` hold them. Assumes nothing.
use Rattle.std.specs.Prelude.{ℕ, ◌+◌, ◌*◌, ◌^◌, ◌≤◌, ◌<◌, ◌≡◌, true, false, ◌&&◌, ℤ, pos, negsuc, ◌+ℤ◌, ◌-ℤ◌, ◌*ℤ◌, Float, get_or, take, set}
use Rattle.std.proofs.Common.{arith, sym, ◌∙◌, length-append, length-take-le, zero-add, eqb-true, SFits}
use Rattle.std.proofs.Math.Decide.{dec_lt}
use Rattle.std.proofs.Math.Path.{refl, ap, subst}
use mathlib.Core.List.{List, [], ◌∷◌, ◌++◌, map}
use Rattle.std.proofs.Math.Dec.{eqb}
use Rattle.std.proofs.Math.IntN.{nat_abs}
use Rattle.std.specs.Float.{nan, inf, fin}
use Rattle.std.proofs.Math.ListN.{length}
use Rattle.std.proofs.lemmas.List.{length-map}
use Rattle.std.specs.Int.{w64}
use Rattle.float_vectors.specs.declared.vector.Point3.{Point3}
use Rattle.float_grid.specs.Grid.{on_grid, sixteenths}
use Rattle.float_values.specs.Laws.Pairs.{over, under}
use Rattle.meaning.specs.Model.{Model}
use Rattle.meaning.specs.Refuse.{first_of}
use Rattle.meaning.specs.Inquire.{rim}
use Rattle.meaning_list_laws.specs.Tests.{and_both}
use Rattle.meaning_sheet_laws.specs.Sizes.{size-sum, sixteenths-size, arm-size, product-within}
use Rattle.meaning_slabs.specs.Slabs.{steps, closed, on, spot, strip, corner_at, face_axis, sumℤ, loop_area, face_area, area_sum}
use Rattle.meaning_slab_laws.specs.Steps.{closed_at, closed-last, steps-closed}
use Rattle.meaning_slab_laws.specs.Sizes.{spot-small, strip-size, face-size, area-snoc}
use Rattle.memory_layout.specs.Decode.{decode}
use Rattle.memory_layout.specs.Entries.{list_of}
use Rattle.memory_layout.specs.Fit.{Lists}
use Rattle.memory_writes.specs.Put as Put
use Rattle.memory_writes.specs.Over.{over_none, over-behind, one_store, length_over}
use Rattle.walk_marks.specs.Laws.{map-turn}
use Rattle.inquire_corners.specs.Machines.{bits, fitting, plain, arm-fits, arm_is, read_count}
use Rattle.inquire_fin_starts.specs.Starts.{start_number, Whole, Rim}
use Rattle.inquire_fin_starts.specs.Laws.{rim-whole, rim-start}
use Rattle.inquire_sides.specs.Sides.{rim_of, face_whole}
use Rattle.inquire_sides.specs.Laws.{rim-of, rim-short}
use Rattle.slab_areas.specs.Measured.{across, upward, step_at, measurable}

-- off the grid nothing is counted
pub off-grid : (x : Float) → on_grid x ≡ false → pos 0 ≡ sixteenths x
unfolding sixteenths
off-grid nan e = refl
off-grid (inf s) e = refl
off-grid (fin s m e') e = rw e

-- ---- a strip

module _ (a b c : ℤ) (h : (nat_abs a ≤ 32768) × (nat_abs b ≤ 32768) × (nat_abs c ≤ 32768)) where
  pub way-fits : SFits w64 (bits c -ℤ bits b)
  way-fits = arm-fits c b h.2 h.1

  arm : bits (bits c -ℤ bits b) ≡ c -ℤ b
  arm = arm_is c b h.2 h.1

  whole : nat_abs (a *ℤ (c -ℤ b)) ≤ 2 ^ 31
  whole = product-within 32768 65536 a (c -ℤ b) h.0 (arm-size c b h.2 h.1)

  parts : (bits a *ℤ bits (bits c -ℤ bits b)) ≡ a *ℤ (c -ℤ b)
  parts = ap (λ (z : ℤ). z *ℤ bits (bits c -ℤ bits b)) (plain a (omega (arith, h.0))) ∙ ap (λ (z : ℤ). a *ℤ z) arm

  pub strip-fits : SFits w64 (bits a *ℤ bits (bits c -ℤ bits b))
  strip-fits = subst (SFits w64) (sym parts) (fitting (a *ℤ (c -ℤ b)) (omega (arith, whole)))

  pub strip-is : bits (bits a *ℤ bits (bits c -ℤ bits b)) ≡ a *ℤ (c -ℤ b)
  strip-is = ap bits parts ∙ plain (a *ℤ (c -ℤ b)) (omega (arith, whole))

-- a count that a call gave, as it is handed on
pub count_small : (r : ℤ) (x : Float) → r ≡ sixteenths x → nat_abs (bits r) ≤ 32768
count_small r x e = subst (λ (z : ℤ). nat_abs z ≤ 32768) (sym (read_count r x e)) (sixteenths-size x)

pub step-size : (m : Model) (a i j : ℕ) → nat_abs (step_at m a i j) ≤ 2 ^ 31
step-size m a i j = strip-size (spot a (corner_at m i)) (spot a (corner_at m j)) (spot-small a (corner_at m i)) (spot-small a (corner_at m j))

-- a step that the calls gave, from its points on
pub step-told : (m : Model) (a i j : ℕ) (r A B C : ℤ) (u v : ℕ) (p q : Point3) (x y z : Float) → p ≡ corner_at m i → q ≡ corner_at m j → u ≡ across a → v ≡ upward a
    → x ≡ on u p → y ≡ on v p → z ≡ on v q → A ≡ sixteenths x → B ≡ sixteenths y → C ≡ sixteenths z → r ≡ bits A *ℤ (bits C -ℤ bits B) → bits r ≡ step_at m a i j
unfolding strip spot
step-told m a i j r A B C u v p q x y z ep eq eu ev ex ey ez e_a e_b e_c er =
    let X : bits A ≡ sixteenths (on (across a) (corner_at m i)) = read_count A x e_a ∙ ap sixteenths (ex ∙ ap (λ k. on k p) eu ∙ ap (on (across a)) ep) in
    let Y : bits B ≡ sixteenths (on (upward a) (corner_at m i)) = read_count B y e_b ∙ ap sixteenths (ey ∙ ap (λ k. on k p) ev ∙ ap (on (upward a)) ep) in
    let Z : bits C ≡ sixteenths (on (upward a) (corner_at m j)) = read_count C z e_c ∙ ap sixteenths (ez ∙ ap (λ k. on k q) ev ∙ ap (on (upward a)) eq) in
    let is : r ≡ step_at m a i j = er ∙ ap (λ (t : ℤ). t *ℤ (bits C -ℤ bits B)) X ∙ ap (λ (t : ℤ). sixteenths (on (across a) (corner_at m i)) *ℤ (t -ℤ bits B)) Z ∙ ap (λ (t : ℤ). sixteenths (on (across a) (corner_at m i)) *ℤ (sixteenths (on (upward a) (corner_at m j)) -ℤ t)) Y in
    ap bits is ∙ plain (step_at m a i j) (omega (arith, step-size m a i j))

-- a number that is handed on is as small
pub held-bits : (z : ℤ) → nat_abs z ≤ 2 ^ 62 → nat_abs (bits z) ≤ 2 ^ 62
held-bits z h = subst (λ (y : ℤ). nat_abs y ≤ 2 ^ 62) (sym (plain z h)) h

-- ---- the sum of a loop, in `i64`: k steps, of 1,024 at most

module _ (acc r z : ℤ) (e : r ≡ z) (small : nat_abs z ≤ 2 ^ 31) (k : ℕ) (last : k ≤ 1024) (h : nat_abs acc ≤ 2 ^ 31 * k) where
  sum : (acc +ℤ bits r) ≡ acc +ℤ z
  sum = ap (λ (y : ℤ). acc +ℤ y) (ap bits e ∙ plain z (omega (arith, small)))

  pub sum-size : nat_abs (acc +ℤ z) ≤ 2 ^ 31 * (k + 1)
  sum-size = omega (arith, size-sum acc z)

  pub sum_fits : SFits w64 (acc +ℤ bits r)
  sum_fits = subst (SFits w64) (sym sum) (fitting (acc +ℤ z) (omega (arith, sum-size)))

  pub sum_is : bits (acc +ℤ bits r) ≡ acc +ℤ z
  sum_is = ap bits sum ∙ plain (acc +ℤ z) (omega (arith, sum-size))

-- ---- its size

pub size-parts : (z : ℤ) → over z + under z ≡ nat_abs z
size-parts (pos n) = omega arith
size-parts (negsuc n) = omega arith

module _ (v : ℤ) (h : nat_abs v ≤ 2 ^ 62) (a b : ℕ) (ea : a ≡ over (bits v)) (eb : b ≡ under (bits v)) where
  pub size_is : a + b ≡ nat_abs v
  size_is = ap (λ n. n + b) ea ∙ ap (λ n. over (bits v) + n) eb ∙ size-parts (bits v) ∙ ap nat_abs (plain v h)

  pub size_fits : a + b < 2 ^ 64
  size_fits = omega (arith, size_is)

-- ---- the fins of a rim, each with the next

pub next-rim : (room w fins : List ℕ) (k : ℕ) → Rim room w fins → k < length fins → (Whole room w (get_or (closed fins) (k + 1) 0)) × (start_number room w (get_or (closed fins) (k + 1) 0) ≡ 0)
next-rim room w fins k r h = elim (dec_lt (k + 1) (length fins)) [
  | yes l ↦ rw (closed_at 0 fins (k + 1) l) (rim-whole room w fins (k + 1) l r, rim-start room w fins (k + 1) l r)
  | no g ↦ rw (closed-last 0 fins k h (omega arith)) (rim-whole room w fins 0 (omega arith) r, rim-start room w fins 0 (omega arith) r)
]

-- ---- a face

module _ (room w : List ℕ) (x : List Float) (f : ℕ) where
  pub area-is : loop_area (map (λ i. spot (face_axis (decode room w x) f) (corner_at (decode room w x) i)) (rim (decode room w x) f)) ≡ sumℤ (steps (step_at (decode room w x) (face_axis (decode room w x) f)) (closed (rim_of room w f)))
  unfolding loop_area
  area-is = ap sumℤ (steps-closed strip (λ i. spot (face_axis (decode room w x) f) (corner_at (decode room w x) i)) (rim (decode room w x) f)) ∙ (unfold decode rim_of list_of in refl)

  module _ (h : measurable room w f ≡ true) where
    first : (face_whole room w f && eqb (length (list_of room w 5 f)) 1) ≡ true
    unfolding measurable
    first = (and_both (face_whole room w f && eqb (length (list_of room w 5 f)) 1) (eqb (first_of (start_number room w) (rim_of room w f)) 0) h).0

    pub whole-face : face_whole room w f ≡ true
    whole-face = (and_both (face_whole room w f) (eqb (length (list_of room w 5 f)) 1) first).0

    pub one-loop : length (list_of room w 5 f) ≡ 1
    one-loop = eqb-true (length (list_of room w 5 f)) 1 (and_both (face_whole room w f) (eqb (length (list_of room w 5 f)) 1) first).1

    pub whole-rim : Rim room w (rim_of room w f)
    unfolding measurable
    whole-rim = rim-of room w f whole-face one-loop (eqb-true (first_of (start_number room w) (rim_of room w f)) 0 (and_both (face_whole room w f && eqb (length (list_of room w 5 f)) 1) (eqb (first_of (start_number room w) (rim_of room w f)) 0) h).1)

    pub short-rim : Lists room w → length (rim_of room w f) ≤ 1024
    short-rim l = rim-short room w f whole-face one-loop l

    pub area_small : Lists room w → face_area (decode room w x) f ≤ 2 ^ 42
    area_small l =
        let same : rim_of room w f ≡ rim (decode room w x) f = unfold decode rim_of list_of in refl in
        face-size (decode room w x) f (subst (λ (t : List ℕ). length t ≤ 1024) same (short-rim l))

    pub area-held : Lists room w → nat_abs (sumℤ (steps (step_at (decode room w x) (face_axis (decode room w x) f)) (closed (rim_of room w f)))) ≤ 2 ^ 62
    unfolding face_area
    area-held l = subst (λ (z : ℤ). nat_abs z ≤ 2 ^ 62) area-is (omega (arith, area_small l))

-- ---- the list

module _ (g : ℕ → ℕ) (faces before : List ℕ) where
  pub areas-none : before ≡ Put.over 0 (map g (take 0 faces)) before
  areas-none = sym (over_none 0 before)

  pub areas-turn : (k a : ℕ) (list next : List ℕ) → k < length faces → length faces ≤ length before → list ≡ Put.over 0 (map g (take k faces)) before → a ≡ g (get_or faces k 0) → next ≡ set list k a
      → next ≡ Put.over 0 (map g (take (k + 1) faces)) before
  areas-turn k a list next h long e ea en =
      let done : List ℕ = map g (take k faces) in
      let n : length done ≡ k = length-map (take k faces) g ∙ length-take-le k faces (omega arith) in
      let more : map g (take (k + 1) faces) ≡ done ++ (a ∷ []) = map-turn g faces k h ∙ ap (λ t. done ++ (t ∷ [])) (sym ea) in
      let fits : 0 + length (done ++ (a ∷ [])) ≤ length before = omega (arith, n, length-append done (a ∷ [])) in
      en
      ∙ ap (λ t. set t k a) e
      ∙ one_store (Put.over 0 done before) k a (omega (arith, n, length_over 0 done before (omega (arith, n))))
      ∙ ap (λ i. Put.over i (a ∷ []) (Put.over 0 done before)) (sym n ∙ sym (zero-add (length done)))
      ∙ over-behind 0 done (a ∷ []) before fits
      ∙ ap (λ t. Put.over 0 t before) (sym more)

  pub sum-turn : (k a s : ℕ) → k < length faces → s ≡ area_sum (map g (take k faces)) → a ≡ g (get_or faces k 0) → s + a ≡ area_sum (map g (take (k + 1) faces))
  sum-turn k a s h e ea = ap (λ t. t + a) e ∙ ap (λ t. area_sum (map g (take k faces)) + t) ea ∙ sym (ap area_sum (map-turn g faces k h) ∙ area-snoc (map g (take k faces)) (g (get_or faces k 0)))
