-- Evaluations that tell the definitions from wrong ones: each edit of must-fail/ makes one of them, or a statement, false. Assumes nothing.
-- Each asks the smallest model and the innermost row that tell; the crate `meaning_stop_cases` has the whole tables.
use Rattle.std.specs.Prelude.{ℕ, ◌≡◌, refl, false, List, [], ◌∷◌, map}
use Rattle.std.proofs.Math.Option.{none, some}
use Rattle.meaning.specs.Floats.{◌/ᶠ◌, float_of}
use Rattle.meaning.specs.Model.{positive, negative}
use Rattle.meaning.specs.Stone.{at, plane, up, a_fin, a_loop, a_region}
use Rattle.meaning.specs.Blade.{blade, quarter, with_region, with_loop, with_fin, with_surface, regions_are, ends_are, curve_is, fins_are, face_is, surface_is, loops_are, shell_is, other_curve, other_surface, room}
use Rattle.meaning.specs.Computing.{computing}
use Rattle.meaning_stops.specs.Stops.{Part, accepted, stop_words, first_part}
use Rattle.meaning_stops.specs.Splits.{row2, row3, row4, row5, row6, row10, row11, row12, row13}
use Rattle.meaning_stops.specs.Bodies.{face_parts, edge_parts, vertex_parts, side_parts, faces_stop}
use Rattle.meaning_stops.specs.Opened.{opened}

-- what is told of one row alone
abbrev told : List Part → List ℕ
told l = stop_words (first_part 0 l accepted)

-- ---- splits

-- 10: near the start, the vertex 0; near the end, the vertex 1
too-near : map (λ t. told (row10 blade 0 t)) (float_of 1 /ᶠ float_of 4096 ∷ float_of 4095 /ᶠ float_of 4096 ∷ [])
    ≡ (4 ∷ 0 ∷ 1 ∷ 7 ∷ 0 ∷ 6 ∷ 0 ∷ []) ∷ (4 ∷ 0 ∷ 2 ∷ 7 ∷ 1 ∷ 6 ∷ 0 ∷ []) ∷ []
unfolding computing opened
too-near = refl

-- 2: an edge that is missing, under the id that was asked about
asked-about : told (row2 blade 5 9) ≡ 2 ∷ 0 ∷ 1 ∷ 6 ∷ 5 ∷ 10 ∷ 0 ∷ []
unfolding computing opened
asked-about = refl

-- 3, 11: of fins that are refused the first
first-fin : told (row3 (fins_are (8 ∷ 9 ∷ []) blade) 0) ∷ told (row11 (surface_is none blade) 0 quarter) ∷ told (row11 (with_loop 0 (a_loop 0 []) blade) 0 quarter) ∷ []
    ≡ (2 ∷ 0 ∷ 1 ∷ 5 ∷ 8 ∷ 6 ∷ 0 ∷ []) ∷ (1 ∷ 0 ∷ 6 ∷ 3 ∷ 0 ∷ 4 ∷ 0 ∷ []) ∷ (1 ∷ 0 ∷ 4 ∷ 5 ∷ 0 ∷ 4 ∷ 0 ∷ []) ∷ []
unfolding computing opened
first-fin = refl

-- 11: the parts of a fin's tests: repeated, another edge, loop missing, face missing, surface missing, not a plane, and off it at lo
fin-parts : map (λ m. told (row11 m 0 quarter))
    (fins_are (1 ∷ 1 ∷ []) blade
    ∷ with_fin 0 (a_fin 0 5 positive) blade
    ∷ with_fin 0 (a_fin 9 0 positive) blade
    ∷ with_loop 0 (a_loop 9 (0 ∷ 1 ∷ [])) blade
    ∷ surface_is (some 9) blade
    ∷ other_surface blade
    ∷ with_surface 0 (plane (at (float_of 0) (float_of 0) (float_of 1)) up) blade
    ∷ [])
    ≡ (1 ∷ 0 ∷ 1 ∷ 5 ∷ 1 ∷ 6 ∷ 0 ∷ [])
    ∷ (1 ∷ 0 ∷ 2 ∷ 5 ∷ 0 ∷ 6 ∷ 0 ∷ [])
    ∷ (2 ∷ 0 ∷ 3 ∷ 4 ∷ 9 ∷ 5 ∷ 0 ∷ [])
    ∷ (2 ∷ 0 ∷ 5 ∷ 3 ∷ 9 ∷ 4 ∷ 0 ∷ [])
    ∷ (2 ∷ 0 ∷ 7 ∷ 9 ∷ 9 ∷ 3 ∷ 0 ∷ [])
    ∷ (7 ∷ 0 ∷ 8 ∷ 9 ∷ 0 ∷ 3 ∷ 0 ∷ [])
    ∷ (1 ∷ 0 ∷ 9 ∷ 5 ∷ 0 ∷ 4 ∷ 0 ∷ [])
    ∷ []
unfolding computing opened
fin-parts = refl

-- 4: no start, no end; 5: no curve, missing, not a line; 6: a vertex missing
no_end : map (λ m. told (row4 m 0)) (ends_are none (some 1) blade ∷ ends_are (some 0) none blade ∷ [])
    ≡ (7 ∷ 0 ∷ 1 ∷ 6 ∷ 0 ∷ 10 ∷ 0 ∷ []) ∷ (7 ∷ 0 ∷ 2 ∷ 6 ∷ 0 ∷ 10 ∷ 0 ∷ []) ∷ []
unfolding computing opened
no_end = refl

curves : map (λ m. told (row5 m 0)) (curve_is none blade ∷ curve_is (some 9) blade ∷ other_curve blade ∷ [])
    ≡ (1 ∷ 0 ∷ 1 ∷ 6 ∷ 0 ∷ 10 ∷ 0 ∷ []) ∷ (2 ∷ 0 ∷ 2 ∷ 8 ∷ 9 ∷ 6 ∷ 0 ∷ []) ∷ (7 ∷ 0 ∷ 3 ∷ 8 ∷ 0 ∷ 6 ∷ 0 ∷ []) ∷ []
unfolding computing opened
curves = refl

missing-vertices : map (λ m. told (row6 m 0)) (ends_are (some 8) (some 9) blade ∷ ends_are (some 0) (some 9) blade ∷ [])
    ≡ (2 ∷ 0 ∷ 1 ∷ 7 ∷ 8 ∷ 6 ∷ 0 ∷ []) ∷ (2 ∷ 0 ∷ 2 ∷ 7 ∷ 9 ∷ 6 ∷ 0 ∷ []) ∷ []
unfolding computing opened
missing-vertices = refl

-- 12, 13: the shell; the table of fins, of edges, of vertices, the edge's list, the loop's, the shell's
rooms : told (row12 (shell_is 0 [] (0 ∷ 5 ∷ 0 ∷ []) [] blade) 0) ∷ map (λ x. told (row13 x (shell_is 0 [] (0 ∷ []) [] blade) 0))
    (room 3 1 2 1 3 1 ∷ room 4 1 2 1 3 1 ∷ room 4 2 2 1 3 1 ∷ room 4 2 3 1 3 1 ∷ room 4 2 3 1 3 2 ∷ room 4 2 3 1 4 2 ∷ room 4 2 3 2 4 2 ∷ [])
    ≡ (1 ∷ 0 ∷ 1 ∷ 2 ∷ 0 ∷ 10 ∷ 0 ∷ [])
    ∷ (8 ∷ 0 ∷ 1 ∷ 6 ∷ 0 ∷ 10 ∷ 0 ∷ [])
    ∷ (8 ∷ 0 ∷ 2 ∷ 6 ∷ 0 ∷ 10 ∷ 0 ∷ [])
    ∷ (8 ∷ 0 ∷ 3 ∷ 6 ∷ 0 ∷ 10 ∷ 0 ∷ [])
    ∷ (8 ∷ 0 ∷ 4 ∷ 6 ∷ 0 ∷ 10 ∷ 0 ∷ [])
    ∷ (8 ∷ 0 ∷ 5 ∷ 4 ∷ 0 ∷ 5 ∷ 0 ∷ [])
    ∷ (8 ∷ 0 ∷ 6 ∷ 2 ∷ 0 ∷ 10 ∷ 0 ∷ [])
    ∷ (0 ∷ 0 ∷ 0 ∷ 10 ∷ 0 ∷ 10 ∷ 0 ∷ [])
    ∷ []
unfolding computing opened
rooms = refl

-- ---- walks and volume

-- of two that are missing the first: a region of the body, a shell of the region; a face of the shell, a loop of the face, a fin of the loop; the edge of a fin, a wire edge
missing-records : map (λ m. told (face_parts m 0 0)) (regions_are (8 ∷ 9 ∷ []) blade ∷ with_region 0 (a_region 0 false (0 ∷ 8 ∷ 9 ∷ [])) blade ∷ [])
    ≡ (2 ∷ 0 ∷ 2 ∷ 1 ∷ 8 ∷ 0 ∷ 0 ∷ []) ∷ (2 ∷ 0 ∷ 3 ∷ 2 ∷ 8 ∷ 1 ∷ 0 ∷ []) ∷ []
unfolding computing opened
missing-records = refl

missing-on-faces : map (λ m. told (edge_parts m 0)) (shell_is 0 (0 ∷ 9 ∷ []) [] [] blade ∷ loops_are (0 ∷ 9 ∷ []) blade ∷ with_loop 0 (a_loop 0 (0 ∷ 9 ∷ [])) blade ∷ [])
    ≡ (2 ∷ 0 ∷ 1 ∷ 3 ∷ 9 ∷ 2 ∷ 0 ∷ []) ∷ (2 ∷ 0 ∷ 2 ∷ 4 ∷ 9 ∷ 3 ∷ 0 ∷ []) ∷ (2 ∷ 0 ∷ 3 ∷ 5 ∷ 9 ∷ 4 ∷ 0 ∷ []) ∷ []
unfolding computing opened
missing-on-faces = refl

missing-edges : map (λ m. told (vertex_parts m 0)) (with_fin 1 (a_fin 0 9 negative) blade ∷ shell_is 0 (0 ∷ []) (9 ∷ []) [] blade ∷ [])
    ≡ (2 ∷ 0 ∷ 1 ∷ 6 ∷ 9 ∷ 5 ∷ 1 ∷ []) ∷ (2 ∷ 0 ∷ 1 ∷ 6 ∷ 9 ∷ 2 ∷ 0 ∷ []) ∷ []
unfolding computing opened
missing-edges = refl

-- a side: neither front nor back; no loop; two fins; a fin without a start; a start that is missing
sides : map (λ m. told (side_parts m (record { shell = 0; face = 0 })))
    (face_is none none (0 ∷ []) (some 0) blade
    ∷ loops_are [] blade
    ∷ blade
    ∷ ends_are none (some 9) (with_loop 0 (a_loop 0 (0 ∷ 1 ∷ 0 ∷ [])) blade)
    ∷ ends_are none (some 9) (with_loop 0 (a_loop 0 (1 ∷ 0 ∷ 0 ∷ [])) blade)
    ∷ [])
    ≡ (1 ∷ 0 ∷ 1 ∷ 3 ∷ 0 ∷ 2 ∷ 0 ∷ [])
    ∷ (7 ∷ 0 ∷ 2 ∷ 3 ∷ 0 ∷ 2 ∷ 0 ∷ [])
    ∷ (4 ∷ 0 ∷ 3 ∷ 4 ∷ 0 ∷ 3 ∷ 0 ∷ [])
    ∷ (7 ∷ 0 ∷ 4 ∷ 5 ∷ 0 ∷ 4 ∷ 0 ∷ [])
    ∷ (2 ∷ 0 ∷ 5 ∷ 7 ∷ 9 ∷ 6 ∷ 0 ∷ [])
    ∷ []
unfolding computing opened
sides = refl

-- ---- the office first, and a body that is not there under the id that was asked about
by-office : map (λ o. stop_words (faces_stop blade o 0)) (0 ∷ 1 ∷ 2 ∷ []) ≡ (0 ∷ 0 ∷ 0 ∷ 10 ∷ 0 ∷ 10 ∷ 0 ∷ []) ∷ (2 ∷ 1 ∷ 1 ∷ 0 ∷ 0 ∷ 10 ∷ 0 ∷ []) ∷ (1 ∷ 0 ∷ 1 ∷ 10 ∷ 0 ∷ 10 ∷ 0 ∷ []) ∷ []
unfolding computing opened
by-office = refl
