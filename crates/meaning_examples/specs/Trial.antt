-- The rows of 01's "Trial stone" marked *, one statement over a table; then more about the stone. Assumes nothing.
use Rattle.std.specs.Prelude.{ℕ, ◌^◌, ◌≡◌, refl, true, false, cond, List, [], ◌∷◌, ◌++◌, map, ℤ, pos, length, Float}
use Rattle.std.specs.Float.{nan, binary64}
use Rattle.std.specs.Float.Ieee.{to_bits}
use Rattle.interval_arithmetic.specs.Ops.{point_i, add_i}
use Rattle.float_vectors.specs.declared.vector.Point3.{Point3}
use Rattle.meaning.specs.Floats.{◌/ᶠ◌, float_of}
use Rattle.meaning.specs.Model.{Model, solid, office-0, largest}
use Rattle.meaning.specs.Refuse.{Answer, refused, given, answered}
use Rattle.meaning.specs.Walks.{body_faces, body_edges, body_vertices}
use Rattle.meaning.specs.Inquire.{body_bounding_box, body_volume}
use Rattle.meaning.specs.Split.{model_after, split_line_edge}
use Rattle.meaning.specs.Faults.{check_body, sawing, fit_to_saw}
use Rattle.meaning.specs.Formed.{well_formed, topological_report}
use Rattle.meaning.specs.Stone.{stone, a_loop, a_region}
use Rattle.meaning.specs.Blade.{Row, ◌gives◌, with_body, with_region, with_loop}
use Rattle.meaning.specs.Computing.{computing}
use Rattle.meaning_sheets.specs.Sheets.{six_volume, stone_refusal}
use Rattle.meaning_sheets.specs.Counting.{counting}

-- ---- what is asked, and what is told

pub data Ask : Type 0 where
  walks-of : Model → Ask
  volume-of : Model → Ask
  whole_of : Model → Ask
  box_of : Model → Ask
  split-A-at : Float → Ask
  faults-of : Model → Ask
  fit_of : Model → Ask
  sum_of : ℕ → ℕ → Ask

pub data Told : Type 0 where
  refusal : ℕ → Told
  numbers : List ℕ → Told
  floats : List Float → Told
  whole : ℤ → Told

abbrev told : {A : Type 0} → (A → Told) → Answer A → Told
told f (refused n) = refusal n
told f (given a) = f a

abbrev coordinates : Point3 → List Float
coordinates p = p.x ∷ p.y ∷ p.z ∷ []

abbrev length_of : Answer (List ℕ) → ℕ
length_of (refused n) = 0
length_of (given l) = length l

-- the three walks' lengths; the volume; six times it in cubic sixteenths (W-201); the two corners; the new vertex; the reasons of the faults, geometry on; 1 where the body is fit to saw; the bits of both bounds
abbrev tell : Ask → Told
tell (walks-of m) = numbers (length_of (body_faces m 0) ∷ length_of (body_edges m 0) ∷ length_of (body_vertices m 0) ∷ [])
tell (volume-of m) = told (λ v. floats (v ∷ [])) (body_volume m 0)
tell (whole_of m) = told whole (answered (stone_refusal m 0) (six_volume m 0))
tell (box_of m) = told (λ b. floats (coordinates b.min ++ coordinates b.max)) (body_bounding_box m 0)
tell (split-A-at t) =
    told (λ s. floats (coordinates ((model_after largest stone 0 t).vertices.slot s.vertex).point)) (split_line_edge largest stone 0 t)
tell (faults-of m) = told (λ r. numbers (map (λ f. f.reason) r.faults)) (check_body m sawing 0)
tell (fit_of m) = told (λ v. numbers (cond v 1 0 ∷ [])) (fit_to_saw m 0)
tell (sum_of a b) = let s = add_i (point_i (float_of a)) (point_i (float_of b)) in numbers (to_bits binary64 s.lo ∷ to_bits binary64 s.hi ∷ [])

-- ---- 01's rows

-- 1 / 2 ^ n
abbrev part : ℕ → Float
part n = float_of 1 /ᶠ float_of (2 ^ n)

-- "last fin struck from one loop": loop 0 loses its fourth fin
abbrev fin_struck : Model
fin_struck = with_loop 0 (a_loop 0 (0 ∷ 1 ∷ 2 ∷ [])) stone

-- "solid with a void region only": the body keeps its first region alone, which has no shell
abbrev hollow : Model
hollow = with_body 0 (record { kind = solid; office = office-0; regions = 0 ∷ [] }) (with_region 0 (a_region 0 false []) stone)

abbrev pub rows : List (Row Ask Told)
rows =
    (walks-of stone gives numbers (6 ∷ 12 ∷ 8 ∷ []))
    ∷ (volume-of stone gives floats (float_of 24 ∷ []))
    ∷ (whole_of stone gives whole (pos 589824))
    ∷ (box_of stone gives floats (float_of 0 ∷ float_of 0 ∷ float_of 0 ∷ float_of 4 ∷ float_of 3 ∷ float_of 2 ∷ []))
    ∷ (split-A-at (part 2) gives floats (float_of 1 ∷ float_of 0 ∷ float_of 0 ∷ []))
    ∷ (split-A-at (float_of 0) gives refusal 1)
    ∷ (split-A-at (float_of 1) gives refusal 1)
    ∷ (split-A-at nan gives refusal 1)
    ∷ (split-A-at (part 12) gives refusal 4)
    ∷ (split-A-at (part 11) gives floats (part 9 ∷ float_of 0 ∷ float_of 0 ∷ []))
    ∷ (faults-of fin_struck gives numbers (18 ∷ []))
    ∷ (faults-of hollow gives numbers [])
    ∷ (volume-of hollow gives refusal 4)
    ∷ (whole_of hollow gives refusal 4)
    ∷ (fit_of hollow gives numbers (0 ∷ []))
    ∷ (sum_of 1 2 gives numbers (0x4008_0000_0000_0000 ∷ 0x4008_0000_0000_0000 ∷ []))
    ∷ []

pub rows-hold : map (λ r. tell r.input) rows ≡ map (λ r. r.result) rows
unfolding computing counting
rows-hold = refl

-- ---- the stone before and after A is split at 0.25

abbrev pub split_stone : Model
split_stone = model_after largest stone 0 (part 2)

-- both are fit to saw and well formed
pub stones-fit : map (λ m. fit_to_saw m 0) (stone ∷ split_stone ∷ []) ≡ given true ∷ given true ∷ []
unfolding computing
stones-fit = refl

pub stones-formed : map (well_formed largest) (stone ∷ split_stone ∷ []) ≡ true ∷ true ∷ []
unfolding computing
stones-formed = refl

-- 01, "Program `trialstone` .. its whole output"
abbrev printed : Model → List ℕ
printed m =
    length_of (body_faces m 0)
    ∷ length_of (body_edges m 0)
    ∷ length_of (body_vertices m 0)
    ∷ m.fins.used
    ∷ length (topological_report m 0).faults
    ∷ []

pub trialstone : printed stone ++ printed split_stone ≡ 6 ∷ 12 ∷ 8 ∷ 24 ∷ 0 ∷ 6 ∷ 13 ∷ 9 ∷ 26 ∷ 0 ∷ []
unfolding computing
trialstone = refl
