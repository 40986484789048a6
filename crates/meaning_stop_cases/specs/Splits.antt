-- Why splits are refused, computed: a relief cut too near another on the trial stone, each of the thirteen rows with each of its parts on damaged blades, and both offices. Assumes nothing.
-- A stop is seven words: number, row, part, the record's class and id, its parent's class and id (10 and 0 where there is none).
use Rattle.std.specs.Prelude.{ℕ, ◌^◌, ◌≡◌, refl, true, false, List, [], ◌∷◌, map, Float}
use Rattle.std.proofs.Math.Option.{none, some}
use Rattle.std.specs.Float.{nan, inf}
use Rattle.std.specs.Float.Ieee.{neg}
use Rattle.meaning.specs.Floats.{◌/ᶠ◌, float_of}
use Rattle.meaning.specs.Model.{Model, Limits, wire, sheet, office-0, office-1, negative, largest}
use Rattle.meaning.specs.Split.{model_after}
use Rattle.meaning.specs.Stone.{table_of, at, way, line, plane, right, left, up, a_fin, a_loop, stone}
use Rattle.meaning.specs.Blade.{Row, ◌gives◌, blade, with_precision, with_bodies, with_loop, with_fin, with_curve, with_surface, quarter, on_axis, edge_is, ends_are, curve_is, fins_are, surface_is, shell_is, start_at, end_at, other_curve, other_surface, tolerant_edge, askew, room}
use Rattle.meaning.specs.Computing.{computing}
use Rattle.meaning_stops.specs.Stops.{stop_words}
use Rattle.meaning_stops.specs.Splits.{split_stop, bounds_stop}
use Rattle.meaning_stops.specs.Opened.{opened}

pub record Cutting : Type 0 where
  pub limits : Limits
  pub model : Model
  pub office : ℕ
  pub edge : ℕ
  pub fraction : Float

abbrev told : Cutting → List ℕ
told c = stop_words (split_stop c.limits c.model c.office c.edge c.fraction)

-- the edge e of the model m at t, with the largest tables, asked by office 0
abbrev cutting : Model → ℕ → Float → Cutting
cutting m e t = record { limits = largest; model = m; office = 0; edge = e; fraction = t }

-- ---- the trial stone: 01's rows, then a second cut near the first, which is at a quarter: on either side the new vertex 8

abbrev near : Float
near = float_of 1 /ᶠ float_of 4096

abbrev far : Float
far = float_of 4095 /ᶠ float_of 4096

abbrev relieved : Model
relieved = model_after largest stone 0 quarter

abbrev reliefs : List (Row Cutting (List ℕ))
reliefs =
    (cutting stone 0 quarter gives 0 ∷ 0 ∷ 0 ∷ 10 ∷ 0 ∷ 10 ∷ 0 ∷ [])
    ∷ (cutting stone 0 (float_of 1 /ᶠ float_of 2048) gives 0 ∷ 0 ∷ 0 ∷ 10 ∷ 0 ∷ 10 ∷ 0 ∷ [])
    ∷ (cutting stone 0 near gives 4 ∷ 10 ∷ 1 ∷ 7 ∷ 0 ∷ 6 ∷ 0 ∷ [])
    ∷ (cutting stone 0 far gives 4 ∷ 10 ∷ 2 ∷ 7 ∷ 1 ∷ 6 ∷ 0 ∷ [])
    ∷ (cutting relieved 0 far gives 4 ∷ 10 ∷ 2 ∷ 7 ∷ 8 ∷ 6 ∷ 0 ∷ [])
    ∷ (cutting relieved 12 near gives 4 ∷ 10 ∷ 1 ∷ 7 ∷ 8 ∷ 6 ∷ 12 ∷ [])
    ∷ []

reliefs-told : map (λ r. told r.input) reliefs ≡ map (λ r. r.result) reliefs
unfolding computing opened
reliefs-told = refl

-- ---- the blade's edge 0

abbrev cut : Model → Cutting
cut m = cutting m 0 quarter

abbrev cut_at : Float → Cutting
cut_at t = cutting blade 0 t

abbrev within : Limits → Cutting
within x = record { limits = x; model = shell_is 0 (0 ∷ []) (0 ∷ []) [] blade; office = 0; edge = 0; fraction = quarter }

-- a plane through a point of the axis, at a slope of 3 to 4
abbrev slope_at : Float → Model → Model
slope_at x = with_surface 0 (plane (on_axis x) (way (float_of 3 /ᶠ float_of 5) (float_of 0) (float_of 4 /ᶠ float_of 5)))

abbrev cuts : List (Row Cutting (List ℕ))
cuts =
    -- 1: not finite, at most 0, at least 1
    (cut_at nan gives 1 ∷ 1 ∷ 1 ∷ 6 ∷ 0 ∷ 10 ∷ 0 ∷ [])
    ∷ (cut_at (inf false) gives 1 ∷ 1 ∷ 1 ∷ 6 ∷ 0 ∷ 10 ∷ 0 ∷ [])
    ∷ (cut_at (float_of 0) gives 1 ∷ 1 ∷ 2 ∷ 6 ∷ 0 ∷ 10 ∷ 0 ∷ [])
    ∷ (cut_at (float_of 1) gives 1 ∷ 1 ∷ 3 ∷ 6 ∷ 0 ∷ 10 ∷ 0 ∷ [])
    -- 2
    ∷ (cutting blade 7 quarter gives 2 ∷ 2 ∷ 1 ∷ 6 ∷ 7 ∷ 10 ∷ 0 ∷ [])
    -- 3: missing, marked, and the first of both
    ∷ (cut (fins_are (0 ∷ 9 ∷ []) blade) gives 2 ∷ 3 ∷ 1 ∷ 5 ∷ 9 ∷ 6 ∷ 0 ∷ [])
    ∷ (cut (with_fin 1 (record { owner = 0; edge = 0; sense = negative; pcurve = true }) blade) gives 7 ∷ 3 ∷ 2 ∷ 5 ∷ 1 ∷ 6 ∷ 0 ∷ [])
    ∷ (cut (fins_are (1 ∷ 9 ∷ []) (with_fin 1 (record { owner = 0; edge = 0; sense = negative; pcurve = true }) blade)) gives 7 ∷ 3 ∷ 2 ∷ 5 ∷ 1 ∷ 6 ∷ 0 ∷ [])
    -- 4: start none, end none
    ∷ (cut (ends_are none (some 1) blade) gives 7 ∷ 4 ∷ 1 ∷ 6 ∷ 0 ∷ 10 ∷ 0 ∷ [])
    ∷ (cut (ends_are (some 0) none blade) gives 7 ∷ 4 ∷ 2 ∷ 6 ∷ 0 ∷ 10 ∷ 0 ∷ [])
    -- 5: no curve, missing, not a line
    ∷ (cut (curve_is none blade) gives 1 ∷ 5 ∷ 1 ∷ 6 ∷ 0 ∷ 10 ∷ 0 ∷ [])
    ∷ (cut (curve_is (some 9) blade) gives 2 ∷ 5 ∷ 2 ∷ 8 ∷ 9 ∷ 6 ∷ 0 ∷ [])
    ∷ (cut (other_curve blade) gives 7 ∷ 5 ∷ 3 ∷ 8 ∷ 0 ∷ 6 ∷ 0 ∷ [])
    ∷ (cut (with_curve 0 (plane (on_axis (float_of 0)) up) blade) gives 7 ∷ 5 ∷ 3 ∷ 8 ∷ 0 ∷ 6 ∷ 0 ∷ [])
    -- 6: start, end
    ∷ (cut (ends_are (some 9) (some 1) blade) gives 2 ∷ 6 ∷ 1 ∷ 7 ∷ 9 ∷ 6 ∷ 0 ∷ [])
    ∷ (cut (ends_are (some 0) (some 9) blade) gives 2 ∷ 6 ∷ 2 ∷ 7 ∷ 9 ∷ 6 ∷ 0 ∷ [])
    -- 7: a line that runs backwards
    ∷ (cut (with_curve 0 (line (on_axis (float_of 0)) left) blade) gives 4 ∷ 7 ∷ 1 ∷ 6 ∷ 0 ∷ 10 ∷ 0 ∷ [])
    -- 8: lo not finite, hi not finite, both the same float
    ∷ (cut (start_at (on_axis (neg (float_of (2 ^ 1023)))) (with_curve 0 (line (on_axis (float_of (2 ^ 1023))) right) blade)) gives 7 ∷ 8 ∷ 1 ∷ 7 ∷ 0 ∷ 6 ∷ 0 ∷ [])
    ∷ (cut (end_at (on_axis (float_of (2 ^ 1023))) (with_curve 0 (line (on_axis (neg (float_of (2 ^ 1023)))) right) blade)) gives 7 ∷ 8 ∷ 2 ∷ 7 ∷ 1 ∷ 6 ∷ 0 ∷ [])
    ∷ (cut (with_curve 0 (line (on_axis (neg (float_of (2 ^ 60)))) right) blade) gives 7 ∷ 8 ∷ 3 ∷ 6 ∷ 0 ∷ 10 ∷ 0 ∷ [])
    -- 9: hi - lo is above the floats
    ∷ (cut (start_at (on_axis (neg (float_of (2 ^ 1023)))) (end_at (on_axis (float_of (2 ^ 1023))) blade)) gives 4 ∷ 9 ∷ 1 ∷ 6 ∷ 0 ∷ 10 ∷ 0 ∷ [])
    -- 10: near the start, near the end; near both the start
    ∷ (cut_at near gives 4 ∷ 10 ∷ 1 ∷ 7 ∷ 0 ∷ 6 ∷ 0 ∷ [])
    ∷ (cut_at far gives 4 ∷ 10 ∷ 2 ∷ 7 ∷ 1 ∷ 6 ∷ 0 ∷ [])
    ∷ (cut (with_precision (float_of 4) blade) gives 4 ∷ 10 ∷ 1 ∷ 7 ∷ 0 ∷ 6 ∷ 0 ∷ [])
    -- 11: repeated, behind the fin between them; points to another edge; loop missing; not exactly once in its loop
    ∷ (cut (fins_are (1 ∷ 0 ∷ 1 ∷ []) blade) gives 1 ∷ 11 ∷ 1 ∷ 5 ∷ 1 ∷ 6 ∷ 0 ∷ [])
    ∷ (cut (fins_are (0 ∷ 1 ∷ 0 ∷ []) (with_fin 1 (a_fin 9 0 negative) blade)) gives 2 ∷ 11 ∷ 3 ∷ 4 ∷ 9 ∷ 5 ∷ 1 ∷ [])
    ∷ (cut (with_fin 1 (a_fin 9 5 negative) blade) gives 1 ∷ 11 ∷ 2 ∷ 5 ∷ 1 ∷ 6 ∷ 0 ∷ [])
    ∷ (cut (with_fin 1 (a_fin 9 0 negative) blade) gives 2 ∷ 11 ∷ 3 ∷ 4 ∷ 9 ∷ 5 ∷ 1 ∷ [])
    ∷ (cut (with_loop 0 (a_loop 9 (0 ∷ [])) (fins_are (1 ∷ []) blade)) gives 1 ∷ 11 ∷ 4 ∷ 5 ∷ 1 ∷ 4 ∷ 0 ∷ [])
    ∷ (cut (with_loop 0 (a_loop 9 (0 ∷ 1 ∷ 0 ∷ [])) blade) gives 1 ∷ 11 ∷ 4 ∷ 5 ∷ 0 ∷ 4 ∷ 0 ∷ [])
    -- face missing; no surface, missing, not a plane
    ∷ (cut (with_loop 0 (a_loop 9 (0 ∷ 1 ∷ [])) blade) gives 2 ∷ 11 ∷ 5 ∷ 3 ∷ 9 ∷ 4 ∷ 0 ∷ [])
    ∷ (cut (surface_is none blade) gives 1 ∷ 11 ∷ 6 ∷ 3 ∷ 0 ∷ 4 ∷ 0 ∷ [])
    ∷ (cut (surface_is (some 9) blade) gives 2 ∷ 11 ∷ 7 ∷ 9 ∷ 9 ∷ 3 ∷ 0 ∷ [])
    ∷ (cut (other_surface blade) gives 7 ∷ 11 ∷ 8 ∷ 9 ∷ 0 ∷ 3 ∷ 0 ∷ [])
    ∷ (cut (with_surface 0 (line (on_axis (float_of 0)) right) blade) gives 7 ∷ 11 ∷ 8 ∷ 9 ∷ 0 ∷ 3 ∷ 0 ∷ [])
    -- off the plane at lo, at hi, at the split parameter alone; just at the tolerance at each of them
    ∷ (cut (slope_at (float_of 4) blade) gives 1 ∷ 11 ∷ 9 ∷ 5 ∷ 0 ∷ 4 ∷ 0 ∷ [])
    ∷ (cut (slope_at (float_of 0) blade) gives 1 ∷ 11 ∷ 10 ∷ 5 ∷ 0 ∷ 4 ∷ 0 ∷ [])
    ∷ (cutting askew 0 (float_of 1 /ᶠ float_of 5) gives 1 ∷ 11 ∷ 11 ∷ 5 ∷ 0 ∷ 4 ∷ 0 ∷ [])
    ∷ (cut (tolerant_edge quarter (with_surface 0 (plane (at (float_of 0) (float_of 0) quarter) up) blade)) gives 7 ∷ 11 ∷ 9 ∷ 5 ∷ 0 ∷ 4 ∷ 0 ∷ [])
    ∷ (cut (tolerant_edge (float_of 12 /ᶠ float_of 5) (slope_at (float_of 0) blade)) gives 7 ∷ 11 ∷ 10 ∷ 5 ∷ 0 ∷ 4 ∷ 0 ∷ [])
    ∷ (cutting askew 0 (float_of 5 /ᶠ float_of 7) gives 7 ∷ 11 ∷ 11 ∷ 5 ∷ 0 ∷ 4 ∷ 0 ∷ [])
    -- 12
    ∷ (cut (shell_is 0 (0 ∷ []) (0 ∷ 5 ∷ 0 ∷ []) [] blade) gives 1 ∷ 12 ∷ 1 ∷ 2 ∷ 0 ∷ 10 ∷ 0 ∷ [])
    -- 13: all fit; then a table of fins, edges, vertices that is full, an edge's list, a loop's (both fins counted together), a shell's
    ∷ (within (room 4 2 3 2 4 2) gives 0 ∷ 0 ∷ 0 ∷ 10 ∷ 0 ∷ 10 ∷ 0 ∷ [])
    ∷ (within (room 3 2 3 2 4 2) gives 8 ∷ 13 ∷ 1 ∷ 6 ∷ 0 ∷ 10 ∷ 0 ∷ [])
    ∷ (within (room 4 1 3 2 4 2) gives 8 ∷ 13 ∷ 2 ∷ 6 ∷ 0 ∷ 10 ∷ 0 ∷ [])
    ∷ (within (room 4 2 2 2 4 2) gives 8 ∷ 13 ∷ 3 ∷ 6 ∷ 0 ∷ 10 ∷ 0 ∷ [])
    ∷ (within (room 4 2 3 2 4 1) gives 8 ∷ 13 ∷ 4 ∷ 6 ∷ 0 ∷ 10 ∷ 0 ∷ [])
    ∷ (within (room 4 2 3 2 3 2) gives 8 ∷ 13 ∷ 5 ∷ 4 ∷ 0 ∷ 5 ∷ 0 ∷ [])
    ∷ (within (room 4 2 3 1 4 2) gives 8 ∷ 13 ∷ 6 ∷ 2 ∷ 0 ∷ 10 ∷ 0 ∷ [])
    -- of two that refuse, the first is told
    ∷ (cutting blade 9 (float_of 0) gives 1 ∷ 1 ∷ 2 ∷ 6 ∷ 9 ∷ 10 ∷ 0 ∷ [])
    ∷ (cut (edge_is none (some 1) none (9 ∷ []) blade) gives 2 ∷ 3 ∷ 1 ∷ 5 ∷ 9 ∷ 6 ∷ 0 ∷ [])
    ∷ (cut (edge_is none (some 9) none (0 ∷ []) blade) gives 7 ∷ 4 ∷ 1 ∷ 6 ∷ 0 ∷ 10 ∷ 0 ∷ [])
    ∷ (cut (with_precision (float_of 4) (surface_is none blade)) gives 4 ∷ 10 ∷ 1 ∷ 7 ∷ 0 ∷ 6 ∷ 0 ∷ [])
    ∷ []

cuts-told : map (λ r. told r.input) cuts ≡ map (λ r. r.result) cuts
unfolding computing opened
cuts-told = refl

-- `edge_parameter_bounds` passes over rows 1, 3 and 9 to 13
abbrev bounds : List (Row Model (List ℕ))
bounds =
    (fins_are (9 ∷ []) (surface_is none (shell_is 0 [] (0 ∷ 0 ∷ []) [] blade)) gives 0 ∷ 0 ∷ 0 ∷ 10 ∷ 0 ∷ 10 ∷ 0 ∷ [])
    ∷ (ends_are (some 0) none blade gives 7 ∷ 4 ∷ 2 ∷ 6 ∷ 0 ∷ 10 ∷ 0 ∷ [])
    ∷ (edge_is none (some 1) none [] blade gives 7 ∷ 4 ∷ 1 ∷ 6 ∷ 0 ∷ 10 ∷ 0 ∷ [])
    ∷ (curve_is (some 9) blade gives 2 ∷ 5 ∷ 2 ∷ 8 ∷ 9 ∷ 6 ∷ 0 ∷ [])
    ∷ (ends_are (some 9) (some 1) blade gives 2 ∷ 6 ∷ 1 ∷ 7 ∷ 9 ∷ 6 ∷ 0 ∷ [])
    ∷ (ends_are (some 0) (some 0) blade gives 4 ∷ 7 ∷ 1 ∷ 6 ∷ 0 ∷ 10 ∷ 0 ∷ [])
    ∷ (with_curve 0 (line (on_axis (neg (float_of (2 ^ 60)))) right) blade gives 7 ∷ 8 ∷ 3 ∷ 6 ∷ 0 ∷ 10 ∷ 0 ∷ [])
    ∷ []

bounds-told : map (λ r. stop_words (bounds_stop r.input 0)) bounds ≡ map (λ r. r.result) bounds
unfolding computing opened
bounds-told = refl

-- ---- two offices: the blade is office 0's, and its edge is told to office 1 as one that is missing, under the id that it asked about; an office above 1 in row 0

abbrev shared : Model
shared = with_bodies (table_of (record { kind = sheet; office = office-0; regions = 0 ∷ [] }) (record { kind = wire; office = office-1; regions = [] } ∷ [])) blade

abbrev asked : ℕ → ℕ → Float → Cutting
asked o e t = record { limits = largest; model = shared; office = o; edge = e; fraction = t }

abbrev offices : List (Row Cutting (List ℕ))
offices =
    (asked 0 0 quarter gives 0 ∷ 0 ∷ 0 ∷ 10 ∷ 0 ∷ 10 ∷ 0 ∷ [])
    ∷ (asked 1 0 quarter gives 2 ∷ 2 ∷ 1 ∷ 6 ∷ 0 ∷ 10 ∷ 0 ∷ [])
    ∷ (asked 1 0 near gives 2 ∷ 2 ∷ 1 ∷ 6 ∷ 0 ∷ 10 ∷ 0 ∷ [])
    ∷ (asked 1 7 quarter gives 2 ∷ 2 ∷ 1 ∷ 6 ∷ 7 ∷ 10 ∷ 0 ∷ [])
    ∷ (asked 2 0 quarter gives 1 ∷ 0 ∷ 1 ∷ 10 ∷ 0 ∷ 10 ∷ 0 ∷ [])
    ∷ []

offices-told : map (λ r. told r.input) offices ≡ map (λ r. r.result) offices
unfolding computing opened
offices-told = refl
