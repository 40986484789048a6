-- Why walks, box and volume are refused, computed: each part of each row. Assumes nothing.
-- A stop is seven words: number, row, part, the record's class and id, its parent's class and id (10 and 0 where there is none).
use Rattle.std.specs.Prelude.{ℕ, ◌≡◌, refl, true, false, List, [], ◌∷◌, map}
use Rattle.std.proofs.Math.Option.{none, some}
use Rattle.std.specs.Float.{nan}
use Rattle.meaning.specs.Floats.{float_of}
use Rattle.meaning.specs.Model.{Model, positive, negative}
use Rattle.meaning.specs.Stone.{line, right, a_fin, a_loop, a_shell, a_region, stone}
use Rattle.meaning.specs.Blade.{Row, ◌gives◌, blade, with_region, with_shell, with_loop, with_fin, with_surface, on_axis, regions_are, as_solid, ends_are, curve_is, face_is, surface_is, loops_are, shell_is, start_at, other_curve, other_surface}
use Rattle.meaning.specs.Computing.{computing}
use Rattle.meaning_stops.specs.Stops.{stop_words}
use Rattle.meaning_stops.specs.Bodies.{faces_stop, edges_stop, vertices_stop, box_stop, volume_stop}
use Rattle.meaning_stops.specs.Opened.{opened}

-- ---- walks: faces, edges, vertices

abbrev none_told : List ℕ
none_told = 0 ∷ 0 ∷ 0 ∷ 10 ∷ 0 ∷ 10 ∷ 0 ∷ []

abbrev walked : Model → List (List ℕ)
walked m = stop_words (faces_stop m 0 0) ∷ stop_words (edges_stop m 0 0) ∷ stop_words (vertices_stop m 0 0) ∷ []

-- the same of all three, of the last two, of the last
abbrev all_three : List ℕ → List (List ℕ)
all_three s = s ∷ s ∷ s ∷ []

abbrev last_two : List ℕ → List (List ℕ)
last_two s = none_told ∷ s ∷ s ∷ []

abbrev last_one : List ℕ → List (List ℕ)
last_one s = none_told ∷ none_told ∷ s ∷ []

abbrev walks : List (Row Model (List (List ℕ)))
walks =
    (stone gives all_three none_told)
    -- a region of the body, a shell of a region, behind those that are there
    ∷ (regions_are (0 ∷ 9 ∷ 8 ∷ []) blade gives all_three (2 ∷ 1 ∷ 2 ∷ 1 ∷ 9 ∷ 0 ∷ 0 ∷ []))
    ∷ (with_region 0 (a_region 0 false (0 ∷ 9 ∷ [])) blade gives all_three (2 ∷ 1 ∷ 3 ∷ 2 ∷ 9 ∷ 1 ∷ 0 ∷ []))
    -- a face on the shell that lists it first, a loop of a face, a fin of a loop
    ∷ (with_shell 1 (a_shell 1 (0 ∷ 9 ∷ [])) stone gives last_two (2 ∷ 2 ∷ 1 ∷ 3 ∷ 9 ∷ 2 ∷ 1 ∷ []))
    ∷ (loops_are (0 ∷ 9 ∷ []) blade gives last_two (2 ∷ 2 ∷ 2 ∷ 4 ∷ 9 ∷ 3 ∷ 0 ∷ []))
    ∷ (with_loop 3 (a_loop 3 (12 ∷ 99 ∷ 14 ∷ 15 ∷ [])) stone gives last_two (2 ∷ 2 ∷ 3 ∷ 5 ∷ 99 ∷ 4 ∷ 3 ∷ []))
    -- an edge on the fin that names it first, a wire edge on its shell
    ∷ (with_fin 13 (a_fin 3 88 positive) (with_fin 6 (a_fin 1 88 negative) stone) gives last_one (2 ∷ 3 ∷ 1 ∷ 6 ∷ 88 ∷ 5 ∷ 6 ∷ []))
    ∷ (shell_is 1 [] (0 ∷ 77 ∷ []) [] stone gives last_one (2 ∷ 3 ∷ 1 ∷ 6 ∷ 77 ∷ 2 ∷ 1 ∷ []))
    ∷ []

walks-told : map (λ r. walked r.input) walks ≡ map (λ r. r.result) walks
unfolding computing opened
walks-told = refl

-- a body that is missing, and one of the other office's: under the id that was asked about; an office above 1
bodies-told : stop_words (edges_stop blade 0 7) ∷ stop_words (edges_stop blade 1 0) ∷ stop_words (edges_stop blade 2 0) ∷ []
    ≡ (2 ∷ 1 ∷ 1 ∷ 0 ∷ 7 ∷ 10 ∷ 0 ∷ []) ∷ (2 ∷ 1 ∷ 1 ∷ 0 ∷ 0 ∷ 10 ∷ 0 ∷ []) ∷ (1 ∷ 0 ∷ 1 ∷ 10 ∷ 0 ∷ 10 ∷ 0 ∷ []) ∷ []
unfolding computing opened
bodies-told = refl

-- ---- box

abbrev boxes : List (Row Model (List ℕ))
boxes =
    (blade gives none_told)
    -- face missing; no surface, missing, not a plane
    ∷ (shell_is 0 (9 ∷ []) [] [] blade gives 2 ∷ 4 ∷ 1 ∷ 3 ∷ 9 ∷ 2 ∷ 0 ∷ [])
    ∷ (surface_is none blade gives 1 ∷ 4 ∷ 2 ∷ 3 ∷ 0 ∷ 2 ∷ 0 ∷ [])
    ∷ (surface_is (some 9) blade gives 2 ∷ 4 ∷ 3 ∷ 9 ∷ 9 ∷ 3 ∷ 0 ∷ [])
    ∷ (other_surface blade gives 7 ∷ 4 ∷ 4 ∷ 9 ∷ 0 ∷ 3 ∷ 0 ∷ [])
    ∷ (with_surface 0 (line (on_axis (float_of 0)) right) blade gives 7 ∷ 4 ∷ 4 ∷ 9 ∷ 0 ∷ 3 ∷ 0 ∷ [])
    -- loop missing
    ∷ (loops_are (9 ∷ []) blade gives 2 ∷ 2 ∷ 2 ∷ 4 ∷ 9 ∷ 3 ∷ 0 ∷ [])
    -- no curve, missing, not a line; edge missing
    ∷ (curve_is none blade gives 1 ∷ 5 ∷ 2 ∷ 6 ∷ 0 ∷ 5 ∷ 0 ∷ [])
    ∷ (curve_is (some 9) blade gives 2 ∷ 5 ∷ 3 ∷ 8 ∷ 9 ∷ 6 ∷ 0 ∷ [])
    ∷ (other_curve blade gives 7 ∷ 5 ∷ 4 ∷ 8 ∷ 0 ∷ 6 ∷ 0 ∷ [])
    ∷ (shell_is 0 (0 ∷ []) (9 ∷ []) [] blade gives 2 ∷ 5 ∷ 1 ∷ 6 ∷ 9 ∷ 2 ∷ 0 ∷ [])
    -- all faces before all edges
    ∷ (curve_is none (other_surface blade) gives 7 ∷ 4 ∷ 4 ∷ 9 ∷ 0 ∷ 3 ∷ 0 ∷ [])
    -- missing vertex, on its edge and on its shell; no vertex; a coordinate not finite
    ∷ (ends_are (some 0) (some 9) blade gives 2 ∷ 6 ∷ 1 ∷ 7 ∷ 9 ∷ 6 ∷ 0 ∷ [])
    ∷ (shell_is 0 (0 ∷ []) [] (8 ∷ []) blade gives 2 ∷ 6 ∷ 1 ∷ 7 ∷ 8 ∷ 2 ∷ 0 ∷ [])
    ∷ (ends_are none none blade gives 4 ∷ 6 ∷ 2 ∷ 0 ∷ 0 ∷ 10 ∷ 0 ∷ [])
    ∷ (start_at (on_axis nan) blade gives 4 ∷ 6 ∷ 3 ∷ 7 ∷ 0 ∷ 6 ∷ 0 ∷ [])
    ∷ []

boxes-told : map (λ r. stop_words (box_stop r.input 0 0)) boxes ≡ map (λ r. r.result) boxes
unfolding computing opened
boxes-told = refl

-- ---- volume

-- the blade as a solid: the shell of its solid region is the face's front
abbrev lump : Model
lump = as_solid (with_region 0 (a_region 0 true (0 ∷ [])) blade)

abbrev volumes : List (Row Model (List ℕ))
volumes =
    (stone gives none_told)
    -- not solid, behind the walks
    ∷ (blade gives 6 ∷ 7 ∷ 1 ∷ 0 ∷ 0 ∷ 10 ∷ 0 ∷ [])
    ∷ (curve_is none blade gives 1 ∷ 5 ∷ 2 ∷ 6 ∷ 0 ∷ 5 ∷ 0 ∷ [])
    -- side not exactly one: neither, both; loops not one: none, two; fewer than three fins
    ∷ (face_is none none (0 ∷ []) (some 0) lump gives 1 ∷ 8 ∷ 1 ∷ 3 ∷ 0 ∷ 2 ∷ 0 ∷ [])
    ∷ (face_is (some 0) (some 0) (0 ∷ []) (some 0) lump gives 1 ∷ 8 ∷ 1 ∷ 3 ∷ 0 ∷ 2 ∷ 0 ∷ [])
    ∷ (loops_are [] lump gives 7 ∷ 8 ∷ 2 ∷ 3 ∷ 0 ∷ 2 ∷ 0 ∷ [])
    ∷ (loops_are (0 ∷ 0 ∷ []) lump gives 7 ∷ 8 ∷ 2 ∷ 3 ∷ 0 ∷ 2 ∷ 0 ∷ [])
    ∷ (lump gives 4 ∷ 8 ∷ 3 ∷ 4 ∷ 0 ∷ 3 ∷ 0 ∷ [])
    -- a start none, vertex missing: of the first fin that has either
    ∷ (ends_are none (some 9) (with_loop 0 (a_loop 0 (0 ∷ 1 ∷ 0 ∷ [])) lump) gives 7 ∷ 8 ∷ 4 ∷ 5 ∷ 0 ∷ 4 ∷ 0 ∷ [])
    ∷ (ends_are none (some 9) (with_loop 0 (a_loop 0 (1 ∷ 0 ∷ 0 ∷ [])) lump) gives 2 ∷ 8 ∷ 5 ∷ 7 ∷ 9 ∷ 6 ∷ 0 ∷ [])
    -- no face at all
    ∷ (shell_is 0 [] [] [] lump gives 4 ∷ 9 ∷ 1 ∷ 0 ∷ 0 ∷ 10 ∷ 0 ∷ [])
    ∷ []

volumes-told : map (λ r. stop_words (volume_stop r.input 0 0)) volumes ≡ map (λ r. r.result) volumes
unfolding computing opened
volumes-told = refl
