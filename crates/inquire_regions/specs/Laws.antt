-- One side more, one shell more, one region more. Assumes nothing.
use Rattle.std.specs.Prelude.{ℕ, zero, suc, ◌+◌, ◌<◌, ◌≡◌, Bool, not, ◌&&◌, ltb, length, get_or, take, Float}
use Rattle.std.proofs.Common.{arith, ◌∙◌}
use Rattle.std.proofs.Math.Path.{refl, sym, ap}
use Rattle.std.proofs.Math.Bool.{true, false, cond}
use mathlib.Core.List.{List, [], ◌∷◌, ◌++◌, map, append-nil, append_assoc}
use Rattle.std.proofs.Math.Dec.{eqb}
use borrow.Author.Tests.{ne_eqb}
use Rattle.interval_arithmetic.specs.Ops.{zero_f}
use Rattle.float_vectors.specs.Space.{◌+ᶠ◌}
use Rattle.geom_lines_planes.specs.Refuse.{◌then◌}
use Rattle.meaning.specs.Lists.{all, joined}
use Rattle.meaning.specs.Model.{Model}
use Rattle.meaning.specs.Inquire.{Side, sides_of, side_refusal, sides_refusal, side_volume, sum_volumes}
use Rattle.meaning_list_laws.specs.Tests.{and_both, then-none, then-assoc}
use Rattle.meaning_list_laws.specs.Lists.{all_none, joined-none, joined_snoc}
use Rattle.memory_layout.specs.Layout.{word, words_of}
use Rattle.memory_layout.specs.Decode.{flag_at, decode}
use Rattle.memory_layout.specs.Entries.{list_of}
use Rattle.walk_marks.specs.Laws.{take_more, map-turn}
use Rattle.walk_sources.specs.Sources.{followed}
use Rattle.walk_sources.specs.Laws.{followed-slot, followed-entries}
use Rattle.inquire_weight.specs.declared.Weight.{Weight}
use Rattle.inquire_weight.specs.Weights.{no_weight, weight_of}
use Rattle.inquire_weight.specs.Laws.{none-weighs}
use Rattle.inquire_regions.specs.declared.Tally.{Tally}
use Rattle.inquire_regions.specs.Regions.{tally_of, region_sides, solid_shells, faces_whole, region_whole}

-- ---- one side more

module _ (m : Model) where
  refusal-snoc : (l : List Side) (s : Side) → sides_refusal m (l ++ (s ∷ [])) ≡ (sides_refusal m l then side_refusal m s)
  unfolding sides_refusal
  refusal-snoc [] s = then-none (side_refusal m s)
  refusal-snoc (r ∷ l) s = ap (λ n. side_refusal m r then n) (refusal-snoc l s) ∙ sym (then-assoc (side_refusal m r) (sides_refusal m l) (side_refusal m s))

  sum-snoc : (acc : Float) (l : List Side) (s : Side) → sum_volumes m acc (l ++ (s ∷ [])) ≡ sum_volumes m acc l +ᶠ side_volume m s
  unfolding sum_volumes
  sum-snoc acc [] s = refl
  sum-snoc acc (r ∷ l) s = sum-snoc (acc +ᶠ side_volume m r) l s

  pub tally-none : (w : Weight) → w ≡ no_weight → (whole : Bool) → record { refused = 0; empty = true; volume = zero_f; weight = w } ≡ tally_of whole m []
  unfolding tally_of sides_refusal sum_volumes
  tally-none w e true = ap (λ k. record { refused = 0; empty = true; volume = zero_f; weight = k }) (e ∙ none-weighs m)
  tally-none w e false = ap (λ k. record { refused = 0; empty = true; volume = zero_f; weight = k }) e

  some : (l : List Side) (s : Side) → eqb (length (l ++ (s ∷ []))) 0 ≡ false
  some [] s = ne_eqb (length (s ∷ [])) 0 (λ e. omega arith)
  some (r ∷ l) s = ne_eqb (length (r ∷ (l ++ (s ∷ [])))) 0 (λ e. omega arith)

  module _ (whole : Bool) (t : Tally) (l : List Side) (s : Side) (n : ℕ) (so_far : t ≡ tally_of whole m l) (next : n ≡ (t.refused then side_refusal m s)) where
    number : n ≡ sides_refusal m (l ++ (s ∷ []))
    number = next ∙ ap (λ (k : Tally). k.refused then side_refusal m s) so_far ∙ (unfold tally_of in sym (refusal-snoc l s))

    pub tally-refused : (w : Weight) → w ≡ no_weight → (n ≡ 0 → ⊥) → record { refused = n; empty = false; volume = zero_f; weight = w } ≡ tally_of whole m (l ++ (s ∷ []))
    unfolding tally_of
    tally-refused w e z = rw (some l s, ← number, ne_eqb n 0 z, never (not whole), never whole) (ap (λ k. record { refused = n; empty = false; volume = zero_f; weight = k }) e)
      where
        never : (b : Bool) → (b && false) ≡ false
        never true = refl
        never false = refl

    -- no side is refused
    module _ (z : n ≡ 0) where
      gone : sides_refusal m (l ++ (s ∷ [])) ≡ 0
      gone = sym number ∙ z

      none : sides_refusal m l ≡ 0
      none = passed (sides_refusal m l) (side_refusal m s) (sym (refusal-snoc l s) ∙ gone)
        where
          passed : (a b : ℕ) → (a then b) ≡ 0 → a ≡ 0
          passed zero b h = refl
          passed (suc a) b h = absurd (omega arith)

      pub tally-weighed : (w : Weight) → whole ≡ true → ((k : List Side) → t.weight ≡ weight_of m k → w ≡ weight_of m (k ++ (s ∷ []))) → record { refused = 0; empty = false; volume = zero_f; weight = w } ≡ tally_of whole m (l ++ (s ∷ []))
      unfolding tally_of
      tally-weighed w q e = rw (q, some l s, gone) (ap (λ k. record { refused = 0; empty = false; volume = zero_f; weight = k }) (e l held))
        where
          held : t.weight ≡ weight_of m l
          held = ap (λ (k : Tally). k.weight) so_far ∙ (unfold tally_of in ap (λ b. cond (b && eqb (sides_refusal m l) 0) (weight_of m l) no_weight) q ∙ ap (λ k. cond (eqb k 0) (weight_of m l) no_weight) none)

      pub tally-more : (v : Float) → whole ≡ false → v ≡ t.volume +ᶠ side_volume m s → record { refused = 0; empty = false; volume = v; weight = t.weight } ≡ tally_of whole m (l ++ (s ∷ []))
      unfolding tally_of
      tally-more v q e = rw (q, some l s, gone, sum-snoc zero_f l s, e, held) (ap (λ a. record { refused = 0; empty = false; volume = a +ᶠ side_volume m s; weight = no_weight }) sum)
        where
          sum : t.volume ≡ sum_volumes m zero_f l
          sum = ap (λ (k : Tally). k.volume) so_far ∙ (unfold tally_of in ap (λ b. cond (not b && eqb (sides_refusal m l) 0) (sum_volumes m zero_f l) zero_f) q ∙ ap (λ k. cond (eqb k 0) (sum_volumes m zero_f l) zero_f) none)

          held : t.weight ≡ no_weight
          held = ap (λ (k : Tally). k.weight) so_far ∙ (unfold tally_of in ap (λ b. cond (b && eqb (sides_refusal m l) 0) (weight_of m l) no_weight) q)

-- the number of a side that is not refused, where none was before
pub side-passed : (a b n : ℕ) → n ≡ (a then b) → n ≡ 0 → b ≡ 0
side-passed zero b n e z = sym e ∙ z
side-passed (suc a) b n e z = absurd (omega arith)

-- ---- one face more, one shell more

module _ (m : Model) (l : List Side) where
  pub faces-none : (whole : Bool) (t : Tally) → t ≡ tally_of whole m l → t ≡ tally_of whole m (l ++ [])
  faces-none whole t e = e ∙ ap (tally_of whole m) (sym (append-nil l))

  pub faces-turn : (s : ℕ) (faces : List ℕ) (k : ℕ) → k < length faces
      → (l ++ map (λ f. record { shell = s; face = f }) (take k faces)) ++ (record { shell = s; face = get_or faces k 0 } ∷ []) ≡ l ++ map (λ f. record { shell = s; face = f }) (take (k + 1) faces)
  faces-turn s faces k h =
      append_assoc l (map (λ f. record { shell = s; face = f }) (take k faces)) (record { shell = s; face = get_or faces k 0 } ∷ [])
      ∙ ap (λ t. l ++ t) (sym (map-turn (λ f. record { shell = s; face = f }) faces k h))

  pub shells-turn : (shells : List ℕ) (k : ℕ) → k < length shells
      → (l ++ joined (sides_of m) (take k shells)) ++ sides_of m (get_or shells k 0) ≡ l ++ joined (sides_of m) (take (k + 1) shells)
  shells-turn shells k h =
      append_assoc l (joined (sides_of m) (take k shells)) (sides_of m (get_or shells k 0))
      ∙ ap (λ t. l ++ t) (sym (ap (joined (sides_of m)) (take_more shells k 0 h) ∙ joined_snoc (sides_of m) (take k shells) (get_or shells k 0)))

-- ---- one region more

module _ (room w : List ℕ) (x : List Float) where
  pub sides-list : (s : ℕ) → map (λ f. record { shell = s; face = f }) (list_of room w 2 s) ≡ sides_of (decode room w x) s
  unfolding decode list_of
  sides-list s = refl

  pub region-shells : (r : ℕ) → joined (sides_of (decode room w x)) (solid_shells room w r) ≡ region_sides (decode room w x) r
  unfolding solid_shells region_sides decode list_of
  region-shells r = by (flag_at (words_of room w 1 r) 1)
    where
      by : (b : Bool) → joined (sides_of (decode room w x)) (cond b (list_of room w 1 r) []) ≡ cond b (joined (sides_of (decode room w x)) (list_of room w 1 r)) []
      by true = refl
      by false = joined-none (sides_of (decode room w x))

-- ---- a region that is whole

module _ (room w : List ℕ) (r : ℕ) (h : region_whole room w r ≡ true) where
  parts : (followed room w 1 r ≡ true) × (all (faces_whole room w) (list_of room w 1 r) ≡ true)
  parts = unfold region_whole in and_both (followed room w 1 r) (all (faces_whole room w) (list_of room w 1 r)) h

  pub region-there : r < word w 1
  region-there = followed-slot room w 1 r parts.0

  -- what holds of all shells holds of those of a solid region
  solid-all : (p : ℕ → Bool) → all p (list_of room w 1 r) ≡ true → all p (solid_shells room w r) ≡ true
  unfolding solid_shells
  solid-all p a = by (flag_at (words_of room w 1 r) 1)
    where
      by : (b : Bool) → all p (cond b (list_of room w 1 r) []) ≡ true
      by true = a
      by false = all_none p

  pub shells-there : all (λ s. ltb s (word w 2)) (solid_shells room w r) ≡ true
  shells-there = solid-all (λ s. ltb s (word w 2)) (followed-entries room w 1 r parts.0)

  pub shells-whole : all (faces_whole room w) (solid_shells room w r) ≡ true
  shells-whole = solid-all (faces_whole room w) parts.1
