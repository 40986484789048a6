-- One side more, weighed. Assumes nothing.
use Rattle.std.specs.Prelude.{◌≡◌, ℕ, zero, suc, ◌+◌, ◌-◌, ◌*◌, ◌%◌, ◌^◌, ◌<◌, ◌≤◌, Bool, true, false, cond, not, ◌&&◌, ◌||◌, T, List, [], ◌∷◌, ◌++◌, map, length, ℤ, pos, negsuc, ◌-ℤ◌, neg_ℤ, FitsSigned, int_lt, nat_lt, unsigned_abs, Float}
use Rattle.std.proofs.Common.{mod-eq_of_lt, lt_of_le_of_lt, arith, ◌∙◌, lit<, Fits}
use Rattle.std.proofs.Math.Decide.{dec_lt}
use Rattle.std.proofs.Math.Path.{refl, sym, ap, subst}
use Rattle.std.proofs.Math.IntN.{+ℤ_idl}
use Rattle.std.specs.Int.Signed.{non_neg}
use borrow.Author.Tests.{lt-ltb, le-ltb, le-leb, lt-leb, ltb-true, ltb-false, not-false}
use Rattle.std.specs.Int.{w64}
use Rattle.float_vectors.specs.declared.vector.Point3.{Point3}
use Rattle.float_values.specs.Laws.Pairs.{over, under}
use Rattle.meaning.specs.Model.{Model}
use Rattle.meaning.specs.Inquire.{Side, rim}
use Rattle.meaning_list_laws.specs.Tests.{and_both}
use Rattle.meaning_sheets.specs.Sheets.{corner, grid_points, grid_sides, side_points, triangles, whole_polygon, whole_side, whole_sum}
use Rattle.meaning_sheet_laws.specs.Sizes.{size-neg, triangles-more, grid-more}
use Rattle.meaning_sheet_laws.proofs.Sizes.{side-size}
use Rattle.meaning_sheet_laws.specs.Parts.{part_sum, plus_sum, minus_sum, plus-more, minus-more}
use Rattle.meaning_sheet_laws.proofs.Parts.{plus-size, minus-size}
use Rattle.memory_layout.specs.Layout.{words_of}
use Rattle.memory_layout.specs.Decode.{decode}
use Rattle.memory_layout.specs.Entries.{list_of}
use Rattle.inquire_fan.specs.Fan.{turned}
use Rattle.inquire_fin_starts.specs.Starts.{start_point}
use Rattle.inquire_sides.specs.Sides.{is_at, rim_of}
use Rattle.inquire_sides.specs.Laws.{is-words}
use Rattle.inquire_corners.specs.Machines.{bits, fitting, plain}
use Rattle.inquire_whole_fan.specs.Laws.{grid-turned}
use Rattle.inquire_weight.specs.declared.Weight.{Weight}
use Rattle.inquire_weight.specs.Weights.{capped, no_weight, light, weight_of}

-- ---- a number above and below zero, off its bits

module _ (v : ℤ) (h : unsigned_abs v ≤ 2 ^ 62) where
  -- what a test of the bits tells of the number
  test : (b : Bool) → int_lt (bits v) (pos 0) ≡ b → int_lt v (pos 0) ≡ b
  test b e = ap (λ (z : ℤ). int_lt z (pos 0)) (sym (plain v h)) ∙ e

  pub over_none : int_lt (bits v) (pos 0) ≡ true → 0 ≡ over v
  over_none e = by v (test true e)
    where
      by : (z : ℤ) → int_lt z (pos 0) ≡ true → 0 ≡ over z
      by (pos n) l = absurd (omega (arith, ltb-true n 0 l))
      by (negsuc n) l = refl

  pub under_none : int_lt (bits v) (pos 0) ≡ false → 0 ≡ under v
  under_none e = by v (test false e)
    where
      by : (z : ℤ) → int_lt z (pos 0) ≡ false → 0 ≡ under z
      by (pos n) l = refl
      by (negsuc n) l = absurd (subst (λ (b : Bool). T b) l tt)

  pub over-cast : int_lt (bits v) (pos 0) ≡ false → T (non_neg (bits v)) × Fits w64 (unsigned_abs (bits v))
  over-cast e = subst (λ (z : ℤ). T (non_neg z) × Fits w64 (unsigned_abs z)) (sym (plain v h)) (by v h (test false e))
    where
      by : (z : ℤ) → unsigned_abs z ≤ 2 ^ 62 → int_lt z (pos 0) ≡ false → T (non_neg z) × Fits w64 (unsigned_abs z)
      by (pos n) g l = (tt, record { fits = lt_of_le_of_lt g (lit< tt) })
      by (negsuc n) g l = absurd (subst (λ (b : Bool). T b) l tt)

  pub over-is : int_lt (bits v) (pos 0) ≡ false → unsigned_abs (bits v) ≡ over v
  over-is e = ap unsigned_abs (plain v h) ∙ by v (test false e)
    where
      by : (z : ℤ) → int_lt z (pos 0) ≡ false → unsigned_abs z ≡ over z
      by (pos n) l = refl
      by (negsuc n) l = absurd (subst (λ (b : Bool). T b) l tt)

  -- its negative
  turned-is : (pos 0 -ℤ bits v) ≡ neg_ℤ v
  turned-is = ap (λ (z : ℤ). pos 0 -ℤ z) (plain v h) ∙ +ℤ_idl (neg_ℤ v)

  small : unsigned_abs (neg_ℤ v) ≤ 2 ^ 62
  small = subst (λ (n : ℕ). n ≤ 2 ^ 62) (sym (size-neg v)) h

  pub turned-fits : FitsSigned w64 (pos 0 -ℤ bits v)
  turned-fits = subst (FitsSigned w64) (sym turned-is) (fitting (neg_ℤ v) small)

  read : bits (pos 0 -ℤ bits v) ≡ neg_ℤ v
  read = ap bits turned-is ∙ plain (neg_ℤ v) small

  pub under-cast : int_lt (bits v) (pos 0) ≡ true → T (non_neg (bits (pos 0 -ℤ bits v))) × Fits w64 (unsigned_abs (bits (pos 0 -ℤ bits v)))
  under-cast e = subst (λ (z : ℤ). T (non_neg z) × Fits w64 (unsigned_abs z)) (sym read) (by v h (test true e))
    where
      by : (z : ℤ) → unsigned_abs z ≤ 2 ^ 62 → int_lt z (pos 0) ≡ true → T (non_neg (neg_ℤ z)) × Fits w64 (unsigned_abs (neg_ℤ z))
      by (pos n) g l = absurd (omega (arith, ltb-true n 0 l))
      by (negsuc n) g l = (tt, record { fits = lt_of_le_of_lt g (lit< tt) })

  pub under-is : int_lt (bits v) (pos 0) ≡ true → unsigned_abs (bits (pos 0 -ℤ bits v)) ≡ under v
  under-is e = ap unsigned_abs read ∙ by v (test true e)
    where
      by : (z : ℤ) → int_lt z (pos 0) ≡ true → unsigned_abs (neg_ℤ z) ≡ under z
      by (pos n) l = absurd (omega (arith, ltb-true n 0 l))
      by (negsuc n) l = refl

-- ---- a side

module _ (room w : List ℕ) (x : List Float) (s f : ℕ) where
  abbrev side : Side
  side = record { shell = s; face = f }

  abbrev points : List Point3
  points = map (start_point (decode room w x)) (rim_of room w f)

  pub side-points : turned (is_at (words_of room w 3 f) 0 s) points ≡ side_points (decode room w x) side
  unfolding side_points turned
  side-points = ap (λ a. turned a points) (is-words (words_of room w 3 f) 0 s) ∙ (unfold decode list_of rim_of start_point in refl)

  pub side-is : whole_polygon (map corner (turned (is_at (words_of room w 3 f) 0 s) points)) ≡ whole_side (decode room w x) side
  unfolding whole_side
  side-is = ap (λ l. whole_polygon (map corner l)) side-points

  pub side-grid : grid_points points ≡ grid_points (side_points (decode room w x) side)
  side-grid = sym (grid-turned (is_at (words_of room w 3 f) 0 s) points) ∙ ap grid_points side-points

  pub rim-length : length (rim_of room w f) ≡ length (rim (decode room w x) f)
  unfolding rim_of decode list_of
  rim-length = refl

-- ---- the weight

pub none-weighs : (m : Model) → no_weight ≡ weight_of m []
unfolding weight_of grid_sides triangles capped part_sum
none-weighs m = refl

pub capped-above : (n : ℕ) → 4096 < n → 4097 ≡ capped n
unfolding capped
capped-above n h = rw (lt-ltb 4096 n h)

pub capped-below : (n : ℕ) → n ≤ 4096 → n ≡ capped n
unfolding capped
capped-below n h = rw (le-ltb 4096 n h)

pub capped_small : (n : ℕ) → capped n ≤ 4097
capped_small n = elim (dec_lt 4096 n) [
  | yes more ↦ subst (λ (k : ℕ). k ≤ 4097) (capped-above n more) (omega arith)
  | no less ↦ subst (λ (k : ℕ). k ≤ 4097) (capped-below n (omega arith)) (omega arith)
]

-- a count that was capped before more came
capped-more : (n k : ℕ) → capped (capped (capped n) + k) ≡ capped (n + k)
capped-more n k = elim (dec_lt 4096 n) [
  | yes more ↦
      let a : capped (capped n) ≡ 4097 = ap capped (sym (capped-above n more)) ∙ sym (capped-above 4097 (omega arith)) in
      ap (λ z. capped (z + k)) a ∙ sym (capped-above (4097 + k) (omega arith)) ∙ capped-above (n + k) (omega arith)
  | no less ↦ let a : capped (capped n) ≡ n = ap capped (sym (capped-below n (omega arith))) ∙ sym (capped-below n (omega arith)) in ap (λ z. capped (z + k)) a
]

-- what the test of both leaves known
parts : (a b : Bool) → (a || b) ≡ false → (a ≡ false) × (b ≡ false)
parts true b q = absurd (subst (λ (c : Bool). T c) q tt)
parts false b q = (refl, q)

pub on-grid : (a g b : Bool) → (a || not g || b) ≡ false → g ≡ true
on-grid a g b e = not-false g (parts a (not g) (parts (a || not g) b e).0).1

module _ (m : Model) (l : List Side) (s : Side) (w : Weight) (so_far : w ≡ weight_of m l) (g : Bool) (grid : g ≡ grid_points (side_points m s)) (len : ℕ) (long : len ≡ length (rim m s.face)) (t : ℕ)
    (count : t ≡ capped (capped w.triangles + (len - 2))) where
  abbrev all : List Side
  all = l ++ (s ∷ [])

  abbrev o : Bool
  o = w.off || not g

  off-is : o ≡ not (grid_sides m all)
  off-is = ap (λ (k : Weight). k.off || not g) so_far ∙ (unfold weight_of in ap (λ b. not (grid_sides m l) || not b) grid ∙ both (grid_sides m l) (grid_points (side_points m s)) ∙ ap not (sym (grid-more m l s)))
    where
      both : (a b : Bool) → (not a || not b) ≡ not (a && b)
      both true b = refl
      both false b = refl

  count-is : t ≡ capped (triangles m all)
  count-is =
      count ∙ ap (λ (k : Weight). capped (capped k.triangles + (len - 2))) so_far
      ∙ (unfold weight_of in capped-more (triangles m l) (len - 2) ∙ ap (λ n. capped (triangles m l + (n - 2))) long ∙ ap capped (sym (triangles-more m l s)))

  -- too many, or off the grid
  pub over-weight : (o || nat_lt 4096 t) ≡ true → record { off = o; triangles = t; plus = 0; minus = 0 } ≡ weight_of m all
  unfolding weight_of
  over-weight e = rw (off-is, count-is, heavy (grid_sides m all) refl)
    where
      heavy : (b : Bool) → grid_sides m all ≡ b → light m all ≡ false
      heavy false q = rw q
      heavy true q = rw q (lt-leb (triangles m all) 4096 (many (nat_lt 4096 t) refl))
        where
          many : (c : Bool) → nat_lt 4096 t ≡ c → 4096 < triangles m all
          many true r = elim (dec_lt 4096 (triangles m all)) [
            | yes more ↦ more
            | no less ↦ absurd (omega (arith, ltb-true 4096 t r, count-is ∙ sym (capped-below (triangles m all) (omega arith))))
          ]
          many false r = absurd (subst (λ (b : Bool). T (not b)) (sym r ∙ subst (λ (b : Bool). (b || nat_lt 4096 t) ≡ true) (off-is ∙ ap not q) e) tt)

  -- all on the grid, and not too many: the sums go on
  module _ (e : (o || nat_lt 4096 t) ≡ false) where
    all-on : grid_sides m all ≡ true
    all-on = not-false (grid_sides m all) (sym off-is ∙ (parts o (nat_lt 4096 t) e).0)

    few : triangles m all ≤ 4096
    few = elim (dec_lt 4096 (triangles m all)) [
      | yes more ↦ absurd (omega (arith, ltb-false 4096 t (parts o (nat_lt 4096 t) e).1, count-is ∙ sym (capped-above (triangles m all) more)))
      | no less ↦ omega arith
    ]

    lightly : light m all ≡ true
    lightly = rw (all-on, le-leb (triangles m all) 4096 few)

    before : light m l ≡ true
    before = rw ((and_both (grid_sides m l) (grid_points (side_points m s)) (sym (grid-more m l s) ∙ all-on)).0, le-leb (triangles m l) 4096 (omega (arith, triangles-more m l s, few)))

    -- a sum that the word holds
    wrapped : (a b n : ℕ) → a ≡ b → b + n ≤ 3 * 2 ^ 60 → (a + n) % 2 ^ 64 ≡ b + n
    wrapped a b n q h = ap (λ k. (k + n) % 2 ^ 64) q ∙ mod-eq_of_lt (lt_of_le_of_lt h (lit< tt))

    pub in-weight : (v : ℤ) → v ≡ whole_side m s → (p n : ℕ) → p ≡ (w.plus + over v) % 2 ^ 64 → n ≡ (w.minus + under v) % 2 ^ 64
        → record { off = o; triangles = t; plus = p; minus = n } ≡ weight_of m all
    unfolding weight_of
    in-weight v q p n a b = rw (off-is, count-is, lightly, p-is, n-is)
      where
        plus-held : w.plus ≡ plus_sum m l
        plus-held = ap (λ (k : Weight). k.plus) so_far ∙ ap (λ c. cond c (plus_sum m l) 0) before

        minus-held : w.minus ≡ minus_sum m l
        minus-held = ap (λ (k : Weight). k.minus) so_far ∙ ap (λ c. cond c (minus_sum m l) 0) before

        p-is : p ≡ plus_sum m all
        p-is = a ∙ ap (λ z. (w.plus + over z) % 2 ^ 64) q ∙ wrapped w.plus (plus_sum m l) (over (whole_side m s)) plus-held (omega (arith, plus-more m l s, plus-size m all, few)) ∙ sym (plus-more m l s)

        n-is : n ≡ minus_sum m all
        n-is = b ∙ ap (λ z. (w.minus + under z) % 2 ^ 64) q ∙ wrapped w.minus (minus_sum m l) (under (whole_side m s)) minus-held (omega (arith, minus-more m l s, minus-size m all, few)) ∙ sym (minus-more m l s)

-- a side's number that a call gave, which `i64` holds
module _ (room w : List ℕ) (x : List Float) (sh f : ℕ) (r : ℤ) (e : r ≡ whole_side (decode room w x) (record { shell = sh; face = f })) (short : length (rim_of room w f) ≤ 1024) where
  pub side-held : unsigned_abs r ≤ 2 ^ 62
  side-held = subst (λ (z : ℤ). unsigned_abs z ≤ 2 ^ 62) (sym e) (omega (arith, side-size (decode room w x) (record { shell = sh; face = f }), rim-length room w x sh f))

  pub read-side : bits r ≡ whole_side (decode room w x) (record { shell = sh; face = f })
  read-side = plain r side-held ∙ e

pub held-bits : (r : ℤ) → unsigned_abs r ≤ 2 ^ 62 → unsigned_abs (bits r) ≤ 2 ^ 62
held-bits r h = subst (λ (z : ℤ). unsigned_abs z ≤ 2 ^ 62) (sym (plain r h)) h
