-- Damaged stones, computed: reports, fit to saw, well-formedness. Each of the 26 reasons is reached. Assumes nothing.
use Rattle.std.specs.Prelude.{ℕ, ◌*◌, ◌^◌, ◌≡◌, refl, Bool, true, false, List, [], ◌∷◌, map, drop, Float}
use Rattle.std.proofs.Math.Option.{none, some}
use Rattle.std.specs.Float.{nan, inf, binary64}
use Rattle.std.specs.Float.Ieee.{neg, to_bits}
use Rattle.float_vectors.specs.declared.vector.Point3.{Point3}
use Rattle.geom_lines_planes.specs.declared.tolerance.Tolerance.TheVariants.{Own, Session}
use Rattle.geom_lines_planes.specs.declared.tolerance.Version.TheVariants.{First}
use Rattle.geom_lines_planes.specs.Geometry.{effective}
use Rattle.meaning.specs.Floats.{◌/ᶠ◌, float_of}
use Rattle.meaning.specs.Model.{positive, negative, Model, largest}
use Rattle.meaning.specs.Refuse.{Answer, refused, given}
use Rattle.meaning.specs.Faults.{Class, of_body, of_region, of_shell, of_face, of_loop, of_fin, of_edge, of_vertex, Fault, Report, sample_at, check_body, report_of, findings, kept, counts, sawing, is_valid, fit_to_saw}
use Rattle.meaning.specs.Formed.{well_formed}
use Rattle.meaning.specs.Stone.{milli, at, line, plane, right, up, a_fin, a_loop, a_shell, a_region, stone}
use Rattle.meaning.specs.Blade.{Row, ◌gives◌, blade, with_precision, with_region, with_shell, with_loop, with_fin, with_vertex, with_curve, with_surface, quarter, on_axis, regions_are, as_solid, edge_is, ends_are, curve_is, fins_are, face_is, surface_is, loops_are, shell_is, start_at, end_at, other_curve, other_surface, tolerant_edge, room, wafer, wafer_face, with_face, as_sheet, all_void, solid_faces, back_is}
use Rattle.meaning.specs.Computing.{computing}

-- ---- reports: geometry on, one sample

abbrev checked : Model → Report
checked m = report_of (findings m (record { geometry = true; edge_samples = 1 }) 0)

-- reason, kind, class, id
abbrev entry : ℕ → ℕ → Class → ℕ → Fault
entry n k c i = record { kind = k; class = c; id = i; reason = n }

infix 25 ◌and◌
-- the faults, and `unchecked`
abbrev ◌and◌ : List Fault → ℕ → Report
l and n = record { faults = l; unchecked = n }

-- what each of the blade's two fins finds
abbrev twice : List Fault → List Fault
twice [] = []
twice (a ∷ []) = a ∷ a ∷ []
twice (a ∷ b ∷ []) = a ∷ b ∷ a ∷ b ∷ []
twice (a ∷ b ∷ c ∷ l) = a ∷ b ∷ c ∷ a ∷ b ∷ c ∷ []

-- a vertex with a tolerance of its own
abbrev tolerant_start : Point3 → Float → Model → Model
tolerant_start p t = with_vertex 0 (record { point = p; tolerance = Own t })

abbrev tolerant_end : Point3 → Float → Model → Model
tolerant_end p t = with_vertex 1 (record { point = p; tolerance = Own t })

abbrev reports : List (Row Model Report)
reports =
    (blade gives [] and 0)
    -- 1 to 8: regions, shells, faces
    ∷ (regions_are [] blade gives (entry 1 3 of_body 0 ∷ []) and 0)
    ∷ (with_region 0 (a_region 0 true (0 ∷ [])) blade gives (entry 2 3 of_body 0 ∷ []) and 0)
    ∷ (regions_are (9 ∷ []) blade gives (entry 3 1 of_body 0 ∷ []) and 0)
    ∷ (with_region 0 (a_region 5 false (0 ∷ [])) blade gives (entry 4 2 of_region 0 ∷ []) and 0)
    ∷ (with_region 0 (a_region 0 false (9 ∷ [])) blade gives (entry 5 1 of_region 0 ∷ []) and 0)
    ∷ (with_shell 0 (a_shell 5 (0 ∷ [])) blade gives (entry 6 2 of_shell 0 ∷ []) and 0)
    ∷ (shell_is 0 (9 ∷ []) [] [] blade gives (entry 7 1 of_shell 0 ∷ []) and 0)
    ∷ (face_is (some 9) none (9 ∷ []) none blade gives (entry 8 2 of_face 0 ∷ []) and 0)
    -- a face that its front shell does not list is checked nowhere
    ∷ (face_is (some 9) (some 0) (9 ∷ []) none blade gives [] and 0)
    -- 9: from each shell listing it where front is none
    ∷ (surface_is none blade gives (entry 9 8 of_face 0 ∷ []) and 0)
    ∷ (face_is none (some 0) [] none (shell_is 0 (0 ∷ 0 ∷ []) [] [] blade) gives (entry 9 8 of_face 0 ∷ entry 9 8 of_face 0 ∷ []) and 0)
    -- 10 to 17: loops, fins, edges, vertices
    ∷ (loops_are (9 ∷ []) blade gives (entry 10 1 of_face 0 ∷ []) and 0)
    ∷ (with_loop 0 (a_loop 5 (0 ∷ 1 ∷ [])) blade gives (entry 11 2 of_loop 0 ∷ []) and 0)
    ∷ (with_loop 0 (a_loop 0 []) blade gives (entry 12 4 of_loop 0 ∷ []) and 0)
    ∷ (with_loop 0 (a_loop 0 (0 ∷ 9 ∷ [])) blade gives (entry 13 1 of_loop 0 ∷ []) and 0)
    ∷ (with_fin 1 (a_fin 5 0 negative) blade gives (entry 14 2 of_fin 1 ∷ []) and 0)
    ∷ (with_fin 1 (a_fin 0 9 negative) blade gives (entry 15 1 of_fin 1 ∷ []) and 0)
    ∷ (fins_are (0 ∷ []) blade gives (entry 16 2 of_edge 0 ∷ []) and 0)
    ∷ (ends_are (some 0) (some 9) blade gives twice (entry 17 1 of_edge 0 ∷ []) and 0)
    -- 18: the last fin against the first; none against none; none against a vertex
    ∷ (with_loop 0 (a_loop 0 (0 ∷ [])) blade gives (entry 18 5 of_fin 0 ∷ []) and 0)
    ∷ (ends_are none (some 1) blade gives [] and 0)
    ∷ (ends_are none (some 1) (with_fin 1 (a_fin 0 0 positive) blade) gives (entry 18 5 of_fin 0 ∷ entry 18 5 of_fin 1 ∷ []) and 0)
    -- 19 and 20: a solid's edges; no edge where the walk fails; no sense of a fin that is missing
    ∷ (as_solid (fins_are (0 ∷ 1 ∷ 0 ∷ []) blade) gives (entry 19 6 of_edge 0 ∷ []) and 0)
    ∷ (as_solid (fins_are (0 ∷ []) (with_loop 0 (a_loop 0 (0 ∷ 9 ∷ [])) blade)) gives (entry 13 1 of_loop 0 ∷ []) and 0)
    ∷ (as_solid (with_fin 1 (a_fin 0 0 positive) blade) gives (entry 18 5 of_fin 0 ∷ entry 18 5 of_fin 1 ∷ entry 20 7 of_edge 0 ∷ []) and 0)
    ∷ (as_solid (fins_are (0 ∷ 9 ∷ []) blade) gives (entry 16 2 of_edge 0 ∷ []) and 0)
    -- 21: also where the face has no surface
    ∷ (curve_is none blade gives twice (entry 21 8 of_edge 0 ∷ []) and 0)
    ∷ (surface_is none (curve_is none blade) gives (entry 9 8 of_face 0 ∷ entry 21 8 of_edge 0 ∷ entry 21 8 of_edge 0 ∷ []) and 0)
    -- 22, 23, 24: each end's curve, then its surface; then the samples
    ∷ (start_at (at (float_of 0) (float_of 1) (float_of 0)) blade gives twice (entry 22 9 of_vertex 0 ∷ []) and 0)
    ∷ (end_at (at (float_of 4) (float_of 0) (float_of 1)) blade gives twice (entry 22 9 of_vertex 1 ∷ entry 23 10 of_vertex 1 ∷ []) and 0)
    ∷ (tolerant_edge (float_of 2) (start_at (at (float_of 0) (float_of 0) (float_of 1)) blade) gives twice (entry 23 10 of_vertex 0 ∷ []) and 0)
    ∷ (with_curve 0 (line (at (float_of 0) (float_of 0) quarter) right) (tolerant_start (on_axis (float_of 0)) (float_of 1) (tolerant_end (on_axis (float_of 4)) (float_of 1) blade))
    gives twice (entry 24 11 of_edge 0 ∷ []) and 0)
    -- the session's tolerance is half the precision: a start off by 0.0007 is on the line, by the sum of two, and not on the plane
    ∷ (start_at (at (float_of 0) (float_of 0) (float_of 7 /ᶠ float_of 10000)) blade gives twice (entry 23 10 of_vertex 0 ∷ []) and 0)
    -- just at the sum of both tolerances
    ∷ (tolerant_edge quarter (tolerant_start (at (float_of 0) (float_of 1 /ᶠ float_of 2) (float_of 0)) quarter blade) gives [] and 2)
    -- 25: the curve's is on the edge; the surface's on the vertex, and for a sample on the edge
    ∷ (curve_is (some 9) blade gives twice (entry 25 1 of_edge 0 ∷ entry 25 1 of_edge 0 ∷ []) and 0)
    ∷ (surface_is (some 9) blade gives twice (entry 25 1 of_vertex 0 ∷ entry 25 1 of_vertex 1 ∷ entry 25 1 of_edge 0 ∷ []) and 0)
    -- 26: a point, a parameter, a surface distance that is not finite. A point before a missing curve
    ∷ (start_at (on_axis nan) blade gives twice (entry 26 8 of_edge 0 ∷ entry 26 8 of_vertex 0 ∷ []) and 0)
    ∷ (start_at (on_axis (inf true)) (curve_is (some 9) blade) gives twice (entry 26 8 of_edge 0 ∷ entry 26 8 of_vertex 0 ∷ entry 25 1 of_edge 0 ∷ []) and 0)
    ∷ (start_at (on_axis (neg (float_of (2 ^ 1023)))) (with_curve 0 (line (on_axis (float_of (2 ^ 1023))) right) blade) gives twice (entry 26 8 of_edge 0 ∷ entry 22 9 of_vertex 1 ∷ []) and 0)
    ∷ (with_surface 0 (plane (at (float_of 0) (float_of 0) (neg (float_of (2 ^ 1023)))) up) (tolerant_edge (float_of (2 ^ 1023)) (start_at (at (float_of 0) (float_of 0) (float_of (2 ^ 1023))) blade))
    gives twice (entry 26 8 of_vertex 0 ∷ entry 23 10 of_vertex 1 ∷ []) and 2)
    -- a distance whose size is above the floats is off the curve
    ∷ (start_at (at (float_of 0) (float_of (3 * 2 ^ 1022)) (float_of (3 * 2 ^ 1022))) blade gives twice (entry 22 9 of_vertex 0 ∷ entry 23 10 of_vertex 0 ∷ []) and 0)
    -- other geometry: each query; a fin whose edge has neither end, once
    ∷ (other_curve blade gives [] and 4)
    ∷ (with_curve 0 (plane (on_axis (float_of 0)) up) blade gives [] and 4)
    ∷ (other_surface blade gives [] and 6)
    ∷ (ends_are none none (other_curve (other_surface blade)) gives [] and 2)
    ∷ (edge_is none none (some 9) (0 ∷ 1 ∷ []) (other_surface blade) gives [] and 2)
    ∷ (ends_are none none (with_curve 0 (plane (on_axis (float_of 0)) up) blade) gives [] and 2)
    ∷ (ends_are none none (with_surface 0 (line (on_axis (float_of 0)) right) blade) gives [] and 2)
    -- and nothing of a line, a plane or a missing curve without ends, of ends that are missing, or where the face has no surface
    ∷ (ends_are none none blade gives [] and 0)
    ∷ (edge_is none none (some 9) (0 ∷ 1 ∷ []) blade gives [] and 0)
    ∷ (ends_are (some 8) (some 9) (other_curve blade) gives twice (entry 17 1 of_edge 0 ∷ entry 17 1 of_edge 0 ∷ []) and 0)
    ∷ (ends_are none none (surface_is none (other_curve blade)) gives (entry 9 8 of_face 0 ∷ []) and 0)
    ∷ []

reports-hold : map (λ r. checked r.input) reports ≡ map (λ r. r.result) reports
unfolding computing
reports-hold = refl

-- a sample is ((t1 - t0)·k)/(n + 1), and not (t1 - t0)·(k/(n + 1)); the session's tolerance is 0.0005
samples-hold : map (to_bits binary64) (sample_at (float_of 0) (float_of 3) 4 1 ∷ effective First Session milli ∷ []) ≡ 0x3fe3_3333_3333_3333 ∷ 0x3f40_624d_d2f1_a9fc ∷ []
unfolding computing
samples-hold = refl

-- ---- the call: samples, body, and what a list of so many keeps; geometry off

pub record Asking : Type 0 where
  pub model : Model
  pub samples : ℕ
  pub body : ℕ
  pub room : ℕ

abbrev asked : Model → ℕ → ℕ → ℕ → Asking
asked m n b k = record { model = m; samples = n; body = b; room = k }

-- the counts, and the reasons that were kept
abbrev kept_of : ℕ → Answer Report → Answer (List ℕ)
kept_of k (refused n) = refused n
kept_of k (given r) = let c = counts k r in given (c.faults ∷ c.kept ∷ c.unchecked ∷ map (λ f. f.reason) (kept k r))

abbrev called : Asking → Answer (List ℕ)
called a = kept_of a.room (check_body a.model (record { geometry = false; edge_samples = a.samples }) a.body)

abbrev calls : List (Row Asking (Answer (List ℕ)))
calls =
    (asked blade 255 0 4 gives given (0 ∷ 0 ∷ 0 ∷ []))
    ∷ (asked blade 256 0 4 gives refused 1)
    ∷ (asked blade 256 1 4 gives refused 1)
    ∷ (asked blade 255 1 4 gives refused 2)
    ∷ (asked (as_solid (with_fin 1 (a_fin 0 0 positive) blade)) 0 0 4 gives given (3 ∷ 3 ∷ 0 ∷ 18 ∷ 18 ∷ 20 ∷ []))
    ∷ (asked (as_solid (with_fin 1 (a_fin 0 0 positive) blade)) 0 0 2 gives given (3 ∷ 2 ∷ 0 ∷ 18 ∷ 18 ∷ []))
    ∷ (asked (as_solid (with_fin 1 (a_fin 0 0 positive) blade)) 0 0 0 gives given (3 ∷ 0 ∷ 0 ∷ []))
    ∷ []

calls-hold : map (λ r. called r.input) calls ≡ map (λ r. r.result) calls
unfolding computing
calls-hold = refl

-- ---- fit to saw: the wafer; a fault, a check not made; then W-203: not solid (twice), no face in a solid region (twice), a face that names another body's shell, one that is missing, one
-- that lists another face alone, and sides that name none

abbrev verdicts : List (Row Model (Answer Bool))
verdicts =
    (wafer gives given true)
    ∷ (start_at (at (float_of 0) (float_of 1) (float_of 0)) wafer gives given false)
    ∷ (other_surface wafer gives given false)
    ∷ (ends_are none none (with_curve 0 (plane (on_axis (float_of 0)) up) wafer) gives given false)
    ∷ (blade gives given false)
    ∷ (as_sheet wafer gives given false)
    ∷ (as_solid (with_region 0 (a_region 0 false []) blade) gives given false)
    ∷ (all_void wafer gives given false)
    ∷ (back_is 2 (solid_faces (1 ∷ []) wafer) gives given false)
    ∷ (back_is 9 (solid_faces (1 ∷ []) wafer) gives given false)
    ∷ (solid_faces (1 ∷ []) wafer gives given false)
    ∷ (with_face 0 (wafer_face none (some 1) (0 ∷ [])) (with_shell 0 (a_shell 0 []) wafer) gives given true)
    ∷ []

verdicts-hold : map (λ r. fit_to_saw r.input 0) verdicts ≡ map (λ r. r.result) verdicts
unfolding computing
verdicts-hold = refl

-- by 01's rule alone, before W-203, the last eight were fit
abbrev last_eight : List Model
last_eight = drop 4 (map (λ r. r.input) verdicts)

were-fit : map (λ m. is_valid (report_of (findings m sawing 0))) last_eight ≡ true ∷ true ∷ true ∷ true ∷ true ∷ true ∷ true ∷ true ∷ []
unfolding computing
were-fit = refl

no-body-no-verdict : fit_to_saw blade 1 ≡ refused 2
unfolding computing
no-body-no-verdict = refl

-- ---- well formed

abbrev formed : List (Row Model Bool)
formed =
    (blade gives true)
    -- tables: precision, tolerances; -0 is a tolerance and no precision
    ∷ (with_precision (neg (float_of 0)) blade gives false)
    ∷ (with_precision (inf false) blade gives false)
    ∷ (with_precision (neg (float_of 1)) blade gives false)
    ∷ (tolerant_edge (neg (float_of 0)) blade gives true)
    ∷ (tolerant_edge (neg (float_of 1)) blade gives false)
    ∷ (tolerant_start (on_axis (float_of 0)) nan blade gives false)
    -- every stored id names a record
    ∷ (shell_is 0 (0 ∷ []) [] (9 ∷ []) blade gives false)
    ∷ (shell_is 0 (0 ∷ []) (9 ∷ []) [] blade gives false)
    ∷ (surface_is (some 9) blade gives false)
    ∷ (surface_is none (curve_is none blade) gives true)
    -- region, shell, loop, fin listed exactly once
    ∷ (regions_are (0 ∷ 0 ∷ []) blade gives false)
    ∷ (regions_are [] blade gives false)
    ∷ (with_region 1 (a_region 0 true (1 ∷ 0 ∷ [])) stone gives false)
    ∷ (loops_are (0 ∷ 0 ∷ []) blade gives false)
    ∷ (with_loop 0 (a_loop 0 (0 ∷ 1 ∷ 0 ∷ 1 ∷ [])) blade gives false)
    -- a shell lists a face once exactly when it is its front or back
    ∷ (shell_is 0 (0 ∷ 0 ∷ []) [] [] blade gives false)
    ∷ (shell_is 0 [] [] [] blade gives false)
    ∷ (face_is none none (0 ∷ []) (some 0) blade gives false)
    ∷ (face_is (some 0) (some 0) (0 ∷ []) (some 0) blade gives true)
    -- fins of an edge
    ∷ (fins_are (0 ∷ []) blade gives false)
    ∷ (fins_are (0 ∷ 1 ∷ 0 ∷ []) blade gives false)
    -- no loop empty or open; none against none
    ∷ (with_loop 0 (a_loop 0 []) blade gives false)
    ∷ (with_fin 1 (a_fin 0 0 positive) blade gives false)
    ∷ (ends_are none none blade gives true)
    -- wire edges
    ∷ (shell_is 0 (0 ∷ []) (0 ∷ []) [] blade gives true)
    ∷ (shell_is 0 (0 ∷ []) (0 ∷ 0 ∷ []) [] blade gives false)
    ∷ []

formed-hold : map (λ r. well_formed largest r.input) formed ≡ map (λ r. r.result) formed
unfolding computing
formed-hold = refl

-- the limits of the tables: fins, edges, vertices; of the lists: a loop's fins
limits-hold : map (λ x. well_formed x blade) (room 2 1 2 0 2 2 ∷ room 1 1 2 0 2 2 ∷ room 2 0 2 0 2 2 ∷ room 2 1 1 0 2 2 ∷ room 2 1 2 0 1 2 ∷ [])
    ≡ true ∷ false ∷ false ∷ false ∷ false ∷ []
unfolding computing
limits-hold = refl
