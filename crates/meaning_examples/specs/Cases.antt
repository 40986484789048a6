-- Damaged stones, computed: walks, box and volume, splits. Each refusal of box and volume and each of the thirteen tests is reached. Assumes nothing.
use Rattle.std.specs.Prelude.{ℕ, zero, suc, ◌^◌, ◌≡◌, refl, true, false, List, [], ◌∷◌, ◌++◌, map, Float}
use Rattle.std.proofs.Math.Option.{none, some}
use Rattle.std.specs.Float.{nan, inf, binary64}
use Rattle.std.specs.Float.Ieee.{neg, to_bits}
use Rattle.float_vectors.specs.declared.vector.Point3.{Point3}
use Rattle.geom_lines_planes.specs.declared.tolerance.Tolerance.TheVariants.{Own}
use Rattle.meaning.specs.Floats.{◌/ᶠ◌, float_of}
use Rattle.meaning.specs.Model.{positive, negative, Fin, Edge, Vertex, Model, Limits, largest}
use Rattle.meaning.specs.Refuse.{Answer, refused, given}
use Rattle.meaning.specs.Edits.{insert_refusal, edit_refusal}
use Rattle.meaning.specs.Walks.{Ends, body_faces, body_edges, body_vertices, fin_vertices}
use Rattle.meaning.specs.Inquire.{body_bounding_box, body_volume}
use Rattle.meaning.specs.Split.{ParamRange, EdgeSplit, edge_parameter_bounds, split_tests, split_line_edge, model_after}
use Rattle.meaning.specs.Stone.{at, way, line, plane, right, left, up, vertex_at, a_fin, a_loop, a_shell, a_region, stone}
use Rattle.meaning.specs.Blade.{Row, ◌gives◌, blade, with_precision, with_region, with_shell, with_loop, with_fin, with_vertex, with_curve, with_surface, quarter, on_axis, regions_are, as_solid, edge_is, ends_are, curve_is, fins_are, face_is, surface_is, loops_are, shell_is, start_at, end_at, other_curve, other_surface, tolerant_edge, askew, room}
use Rattle.meaning.specs.Computing.{computing}

-- ---- inserts and edits: the order of their refusals

inserts-hold : insert_refusal true blade.edges 2 ∷ insert_refusal true blade.edges 1 ∷ insert_refusal false blade.edges 1 ∷ [] ≡ 0 ∷ 8 ∷ 1 ∷ []
inserts-hold = refl

edits-hold : edit_refusal true true true true ∷ edit_refusal true true true false ∷ edit_refusal true true false false ∷ edit_refusal true false false false ∷ edit_refusal false false false false ∷ []
    ≡ 0 ∷ 8 ∷ 1 ∷ 2 ∷ 1 ∷ []
edits-hold = refl

-- ---- walks: faces, edges, vertices

pub record Place : Type 0 where
  pub model : Model
  pub id : ℕ

infix 30 ◌of◌
abbrev ◌of◌ : ℕ → Model → Place
i of m = record { model = m; id = i }

abbrev walked : Place → List (Answer (List ℕ))
walked p = body_faces p.model p.id ∷ body_edges p.model p.id ∷ body_vertices p.model p.id ∷ []

abbrev walks : List (Row Place (List (Answer (List ℕ))))
walks =
    -- the order, each at its first meeting
    (0 of stone
    gives given (0 ∷ 1 ∷ 2 ∷ 3 ∷ 4 ∷ 5 ∷ []) ∷ given (4 ∷ 1 ∷ 5 ∷ 0 ∷ 2 ∷ 7 ∷ 3 ∷ 6 ∷ 9 ∷ 8 ∷ 10 ∷ 11 ∷ []) ∷ given (0 ∷ 2 ∷ 3 ∷ 1 ∷ 4 ∷ 5 ∷ 7 ∷ 6 ∷ []) ∷ [])
    -- wire edges and acorn vertices come behind
    ∷ (0 of shell_is 0 (5 ∷ 2 ∷ []) (1 ∷ 11 ∷ 1 ∷ []) (6 ∷ 0 ∷ 6 ∷ []) (shell_is 1 (2 ∷ 5 ∷ []) (5 ∷ []) [] stone)
    gives given (5 ∷ 2 ∷ []) ∷ given (5 ∷ 11 ∷ 7 ∷ 9 ∷ 0 ∷ 2 ∷ 8 ∷ 1 ∷ []) ∷ given (1 ∷ 3 ∷ 7 ∷ 5 ∷ 0 ∷ 4 ∷ 2 ∷ 6 ∷ []) ∷ [])
    -- ids that are not followed may name no record
    ∷ (0 of shell_is 0 (9 ∷ 0 ∷ 9 ∷ []) [] [] blade gives given (9 ∷ 0 ∷ []) ∷ refused 2 ∷ refused 2 ∷ [])
    ∷ (0 of shell_is 0 (0 ∷ []) (9 ∷ 0 ∷ 9 ∷ []) [] blade gives given (0 ∷ []) ∷ given (0 ∷ 9 ∷ []) ∷ refused 2 ∷ [])
    ∷ (0 of ends_are (some 0) (some 7) (shell_is 0 (0 ∷ []) [] (8 ∷ 7 ∷ 8 ∷ []) blade) gives given (0 ∷ []) ∷ given (0 ∷ []) ∷ given (0 ∷ 7 ∷ 8 ∷ []) ∷ [])
    -- ends that are none are skipped
    ∷ (0 of ends_are none (some 1) blade gives given (0 ∷ []) ∷ given (0 ∷ []) ∷ given (1 ∷ []) ∷ [])
    ∷ (0 of ends_are none none blade gives given (0 ∷ []) ∷ given (0 ∷ []) ∷ given [] ∷ [])
    -- body, region, shell, loop, fin missing
    ∷ (1 of blade gives refused 2 ∷ refused 2 ∷ refused 2 ∷ [])
    ∷ (0 of regions_are (0 ∷ 9 ∷ []) blade gives refused 2 ∷ refused 2 ∷ refused 2 ∷ [])
    ∷ (0 of with_region 0 (a_region 0 false (0 ∷ 9 ∷ [])) blade gives refused 2 ∷ refused 2 ∷ refused 2 ∷ [])
    ∷ (0 of loops_are (0 ∷ 9 ∷ []) blade gives given (0 ∷ []) ∷ refused 2 ∷ refused 2 ∷ [])
    ∷ (0 of with_loop 0 (a_loop 0 (0 ∷ 9 ∷ [])) blade gives given (0 ∷ []) ∷ refused 2 ∷ refused 2 ∷ [])
    ∷ []

walks-hold : map (λ r. walked r.input) walks ≡ map (λ r. r.result) walks
unfolding computing
walks-hold = refl

-- a fin's ends: along its edge, against it; fin missing, edge missing
abbrev fins : List (Row Place (Answer Ends))
fins =
    (0 of blade gives given (record { start = some 0; end = some 1 }))
    ∷ (1 of blade gives given (record { start = some 1; end = some 0 }))
    ∷ (2 of blade gives refused 2)
    ∷ (0 of with_fin 0 (a_fin 0 9 positive) blade gives refused 2)
    ∷ []

fins-hold : map (λ r. fin_vertices r.input.model r.input.id) fins ≡ map (λ r. r.result) fins
unfolding computing
fins-hold = refl

-- ---- box and volume

abbrev bits : Float → ℕ
bits x = to_bits binary64 x

abbrev bits_of : Point3 → List ℕ
bits_of p = bits p.x ∷ bits p.y ∷ bits p.z ∷ []

abbrev measured : {A : Type 0} → (A → List ℕ) → Answer A → Answer (List ℕ)
measured f (refused n) = refused n
measured f (given a) = given (f a)

abbrev boxed : Model → Answer (List ℕ)
boxed m = measured (λ b. bits_of b.min ++ bits_of b.max) (body_bounding_box m 0)

abbrev boxes : List (Row Model (Answer (List ℕ)))
boxes =
    (blade gives given (0 ∷ 0 ∷ 0 ∷ 0x4010_0000_0000_0000 ∷ 0 ∷ 0 ∷ []))
    -- of equal zeros the first met
    ∷ (end_at (at (float_of 4) (neg (float_of 0)) (float_of 0)) blade gives given (0 ∷ 0 ∷ 0 ∷ 0x4010_0000_0000_0000 ∷ 0 ∷ 0 ∷ []))
    ∷ (start_at (at (float_of 0) (neg (float_of 0)) (float_of 0)) blade gives given (0 ∷ 0x8000_0000_0000_0000 ∷ 0 ∷ 0x4010_0000_0000_0000 ∷ 0x8000_0000_0000_0000 ∷ 0 ∷ []))
    -- face missing; no surface, missing, not a plane; loop missing; no curve, missing, not a line; edge missing
    ∷ (shell_is 0 (9 ∷ []) [] [] blade gives refused 2)
    ∷ (surface_is none blade gives refused 1)
    ∷ (surface_is (some 9) blade gives refused 2)
    ∷ (other_surface blade gives refused 7)
    ∷ (with_surface 0 (line (on_axis (float_of 0)) right) blade gives refused 7)
    ∷ (loops_are (9 ∷ []) blade gives refused 2)
    ∷ (curve_is none blade gives refused 1)
    ∷ (curve_is (some 9) blade gives refused 2)
    ∷ (other_curve blade gives refused 7)
    ∷ (with_curve 0 (plane (on_axis (float_of 0)) up) blade gives refused 7)
    ∷ (shell_is 0 (0 ∷ []) (9 ∷ []) [] blade gives refused 2)
    -- all faces before all edges
    ∷ (curve_is none (other_surface blade) gives refused 7)
    -- missing vertex, no vertex, a coordinate not finite
    ∷ (ends_are (some 0) (some 9) blade gives refused 2)
    ∷ (ends_are none none blade gives refused 4)
    ∷ (start_at (on_axis nan) blade gives refused 4)
    ∷ (start_at (at (float_of 0) (float_of 0) (inf true)) blade gives refused 4)
    ∷ (start_at (on_axis nan) (ends_are (some 0) (some 9) blade) gives refused 2)
    ∷ []

boxes-hold : map (λ r. boxed r.input) boxes ≡ map (λ r. r.result) boxes
unfolding computing
boxes-hold = refl

-- the blade as a solid: the shell of its solid region is the face's front
abbrev lump : Model
lump = as_solid (with_region 0 (a_region 0 true (0 ∷ [])) blade)

abbrev weighed : Model → Answer (List ℕ)
weighed m = measured (λ v. bits v ∷ []) (body_volume m 0)

abbrev volumes : List (Row Model (Answer (List ℕ)))
volumes =
    -- a front side reverses the points: where the outer region is the solid one, -24
    (with_region 0 (a_region 0 true (0 ∷ [])) (with_region 1 (a_region 0 false (1 ∷ [])) stone) gives given (0xc038_0000_0000_0000 ∷ []))
    -- a face that is listed twice counts twice: 32
    ∷ (with_shell 1 (a_shell 1 (0 ∷ 1 ∷ 2 ∷ 3 ∷ 4 ∷ 5 ∷ 1 ∷ [])) stone gives given (0x4040_0000_0000_0000 ∷ []))
    -- a corner that is not a number is not refused
    ∷ (with_vertex 0 (vertex_at (on_axis nan)) stone gives given (0x7ff8_0000_0000_0000 ∷ []))
    -- not solid, behind the walks
    ∷ (blade gives refused 6)
    ∷ (curve_is none blade gives refused 1)
    -- side not exactly one: neither, both
    ∷ (face_is none none (0 ∷ []) (some 0) lump gives refused 1)
    ∷ (face_is (some 0) (some 0) (0 ∷ []) (some 0) lump gives refused 1)
    -- loops not one
    ∷ (loops_are [] lump gives refused 7)
    ∷ (loops_are (0 ∷ 0 ∷ []) lump gives refused 7)
    -- fewer than three fins
    ∷ (lump gives refused 4)
    -- a start none, vertex missing: of the first fin that has either
    ∷ (ends_are none (some 9) (with_loop 0 (a_loop 0 (0 ∷ 1 ∷ 0 ∷ [])) lump) gives refused 7)
    ∷ (ends_are none (some 9) (with_loop 0 (a_loop 0 (1 ∷ 0 ∷ 0 ∷ [])) lump) gives refused 2)
    -- no face at all
    ∷ (shell_is 0 [] [] [] lump gives refused 4)
    ∷ []

volumes-hold : map (λ r. weighed r.input) volumes ≡ map (λ r. r.result) volumes
unfolding computing
volumes-hold = refl

-- ---- splitting

pub record Cutting : Type 0 where
  pub limits : Limits
  pub model : Model
  pub edge : ℕ
  pub fraction : Float

-- which test decides, counted from i, and with which refusal; 0 and 0 where none refuses
unfoldable deciding : ℕ → List ℕ → List ℕ
deciding i [] = 0 ∷ 0 ∷ []
deciding i (zero ∷ l) = deciding (suc i) l
deciding i (suc n ∷ l) = i ∷ suc n ∷ []

abbrev decided : Cutting → List ℕ
decided c = deciding 1 (split_tests c.limits c.model c.edge c.fraction)

-- the model's edge 0 at a quarter, with the largest tables
abbrev cut : Model → Cutting
cut m = record { limits = largest; model = m; edge = 0; fraction = quarter }

abbrev cut_at : Float → Cutting
cut_at t = record { limits = largest; model = blade; edge = 0; fraction = t }

abbrev edge_in : ℕ → Cutting
edge_in e = record { limits = largest; model = blade; edge = e; fraction = quarter }

abbrev within : Limits → Cutting
within x = record { limits = x; model = shell_is 0 (0 ∷ []) (0 ∷ []) [] blade; edge = 0; fraction = quarter }

-- a plane through a point of the axis, at a slope of 3 to 4
abbrev slope_at : Float → Model → Model
slope_at x = with_surface 0 (plane (on_axis x) (way (float_of 3 /ᶠ float_of 5) (float_of 0) (float_of 4 /ᶠ float_of 5)))

abbrev askew_at : Float → Cutting
askew_at t = record { limits = largest; model = askew; edge = 0; fraction = t }

abbrev cuts : List (Row Cutting (List ℕ))
cuts =
    -- 1
    (cut_at (float_of 0) gives 1 ∷ 1 ∷ [])
    ∷ (cut_at (float_of 1) gives 1 ∷ 1 ∷ [])
    ∷ (cut_at nan gives 1 ∷ 1 ∷ [])
    ∷ (cut_at (inf false) gives 1 ∷ 1 ∷ [])
    -- 2
    ∷ (edge_in 1 gives 2 ∷ 2 ∷ [])
    -- 3: missing, marked, and the first of both
    ∷ (cut (fins_are (0 ∷ 9 ∷ []) blade) gives 3 ∷ 2 ∷ [])
    ∷ (cut (with_fin 1 (record { owner = 0; edge = 0; sense = negative; pcurve = true }) blade) gives 3 ∷ 7 ∷ [])
    ∷ (cut (fins_are (1 ∷ 9 ∷ []) (with_fin 1 (record { owner = 0; edge = 0; sense = negative; pcurve = true }) blade)) gives 3 ∷ 7 ∷ [])
    -- 4: start none, end none
    ∷ (cut (ends_are none (some 1) blade) gives 4 ∷ 7 ∷ [])
    ∷ (cut (ends_are (some 0) none blade) gives 4 ∷ 7 ∷ [])
    -- 5: no curve, missing, not a line
    ∷ (cut (curve_is none blade) gives 5 ∷ 1 ∷ [])
    ∷ (cut (curve_is (some 9) blade) gives 5 ∷ 2 ∷ [])
    ∷ (cut (other_curve blade) gives 5 ∷ 7 ∷ [])
    ∷ (cut (with_curve 0 (plane (on_axis (float_of 0)) up) blade) gives 5 ∷ 7 ∷ [])
    -- 6: start, end
    ∷ (cut (ends_are (some 9) (some 1) blade) gives 6 ∷ 2 ∷ [])
    ∷ (cut (ends_are (some 0) (some 9) blade) gives 6 ∷ 2 ∷ [])
    -- 7: a line that runs backwards, two ends in one place
    ∷ (cut (with_curve 0 (line (on_axis (float_of 0)) left) blade) gives 7 ∷ 4 ∷ [])
    ∷ (cut (ends_are (some 0) (some 0) blade) gives 7 ∷ 4 ∷ [])
    -- 8: lo not finite, hi not finite, both the same float
    ∷ (cut (start_at (on_axis (neg (float_of (2 ^ 1023)))) (with_curve 0 (line (on_axis (float_of (2 ^ 1023))) right) blade)) gives 8 ∷ 7 ∷ [])
    ∷ (cut (end_at (on_axis (float_of (2 ^ 1023))) (with_curve 0 (line (on_axis (neg (float_of (2 ^ 1023)))) right) blade)) gives 8 ∷ 7 ∷ [])
    ∷ (cut (with_curve 0 (line (on_axis (neg (float_of (2 ^ 60)))) right) blade) gives 8 ∷ 7 ∷ [])
    -- 9: hi - lo is above the floats
    ∷ (cut (start_at (on_axis (neg (float_of (2 ^ 1023)))) (end_at (on_axis (float_of (2 ^ 1023))) blade)) gives 9 ∷ 4 ∷ [])
    -- 10: near the start, near the end; at the whole precision, not at half of it
    ∷ (cut_at (float_of 1 /ᶠ float_of 4096) gives 10 ∷ 4 ∷ [])
    ∷ (cut_at (float_of 4095 /ᶠ float_of 4096) gives 10 ∷ 4 ∷ [])
    ∷ (cut (with_precision (float_of 1) blade) gives 10 ∷ 4 ∷ [])
    -- 11: repeated, behind the fin between them; points to another edge; loop missing; not exactly once in its loop
    ∷ (cut (fins_are (0 ∷ 1 ∷ 0 ∷ []) blade) gives 11 ∷ 1 ∷ [])
    ∷ (cut (fins_are (0 ∷ 1 ∷ 0 ∷ []) (with_fin 1 (a_fin 9 0 negative) blade)) gives 11 ∷ 2 ∷ [])
    ∷ (cut (with_fin 1 (a_fin 9 5 negative) blade) gives 11 ∷ 1 ∷ [])
    ∷ (cut (with_fin 1 (a_fin 9 0 negative) blade) gives 11 ∷ 2 ∷ [])
    ∷ (cut (with_loop 0 (a_loop 9 (0 ∷ [])) (fins_are (1 ∷ []) blade)) gives 11 ∷ 1 ∷ [])
    ∷ (cut (with_loop 0 (a_loop 9 (0 ∷ 1 ∷ 0 ∷ [])) blade) gives 11 ∷ 1 ∷ [])
    -- face missing; no surface, missing, not a plane
    ∷ (cut (with_loop 0 (a_loop 9 (0 ∷ 1 ∷ [])) blade) gives 11 ∷ 2 ∷ [])
    ∷ (cut (surface_is none blade) gives 11 ∷ 1 ∷ [])
    ∷ (cut (surface_is (some 9) blade) gives 11 ∷ 2 ∷ [])
    ∷ (cut (other_surface blade) gives 11 ∷ 7 ∷ [])
    ∷ (cut (with_surface 0 (line (on_axis (float_of 0)) right) blade) gives 11 ∷ 7 ∷ [])
    -- off the plane, and just at the tolerance: at lo, at hi, at the split parameter alone
    ∷ (cut (slope_at (float_of 4) blade) gives 11 ∷ 1 ∷ [])
    ∷ (cut (slope_at (float_of 0) blade) gives 11 ∷ 1 ∷ [])
    ∷ (askew_at (float_of 1 /ᶠ float_of 5) gives 11 ∷ 1 ∷ [])
    ∷ (cut (tolerant_edge quarter (with_surface 0 (plane (at (float_of 0) (float_of 0) quarter) up) blade)) gives 11 ∷ 7 ∷ [])
    ∷ (cut (tolerant_edge (float_of 12 /ᶠ float_of 5) (slope_at (float_of 0) blade)) gives 11 ∷ 7 ∷ [])
    ∷ (askew_at (float_of 5 /ᶠ float_of 7) gives 11 ∷ 7 ∷ [])
    -- W-205: where every sum moves, these two are refused with 7
    ∷ (askew_at (float_of 4 /ᶠ float_of 5) gives 11 ∷ 1 ∷ [])
    ∷ (askew_at (float_of 9 /ᶠ float_of 10) gives 0 ∷ 0 ∷ [])
    -- half the precision is the edge's tolerance: off by 0.0004 passes, by 0.001 doesn't
    ∷ (cut (with_surface 0 (plane (at (float_of 0) (float_of 0) (float_of 1 /ᶠ float_of 2500)) up) blade) gives 0 ∷ 0 ∷ [])
    ∷ (cut (with_surface 0 (plane (at (float_of 0) (float_of 0) (float_of 1 /ᶠ float_of 1100)) up) blade) gives 11 ∷ 1 ∷ [])
    -- 12
    ∷ (cut (shell_is 0 (0 ∷ []) (0 ∷ 5 ∷ 0 ∷ []) [] blade) gives 12 ∷ 1 ∷ [])
    -- 13: all fit; then a table of fins, edges, vertices that is full, a list of wire edges, of a loop's fins (both counted together), of an edge's
    ∷ (within (room 4 2 3 2 4 2) gives 0 ∷ 0 ∷ [])
    ∷ (within (room 3 2 3 2 4 2) gives 13 ∷ 8 ∷ [])
    ∷ (within (room 4 1 3 2 4 2) gives 13 ∷ 8 ∷ [])
    ∷ (within (room 4 2 2 2 4 2) gives 13 ∷ 8 ∷ [])
    ∷ (within (room 4 2 3 1 4 2) gives 13 ∷ 8 ∷ [])
    ∷ (within (room 4 2 3 2 3 2) gives 13 ∷ 8 ∷ [])
    ∷ (within (room 4 2 3 2 4 1) gives 13 ∷ 8 ∷ [])
    -- of two that refuse, the first decides
    ∷ (record { limits = largest; model = blade; edge = 9; fraction = float_of 0 } gives 1 ∷ 1 ∷ [])
    ∷ (cut (edge_is none (some 1) none (9 ∷ []) blade) gives 3 ∷ 2 ∷ [])
    ∷ (cut (edge_is none (some 9) none (0 ∷ []) blade) gives 4 ∷ 7 ∷ [])
    ∷ (cut (edge_is (some 9) (some 1) none (0 ∷ []) blade) gives 5 ∷ 1 ∷ [])
    ∷ (cut (with_precision (float_of 1) (surface_is none blade)) gives 10 ∷ 4 ∷ [])
    ∷ (cut (surface_is none (shell_is 0 (0 ∷ []) (0 ∷ 0 ∷ []) [] blade)) gives 11 ∷ 1 ∷ [])
    ∷ (record { limits = room 2 1 2 2 2 2; model = shell_is 0 (0 ∷ []) (0 ∷ 0 ∷ []) [] blade; edge = 0; fraction = quarter } gives 12 ∷ 1 ∷ [])
    ∷ []

cuts-hold : map (λ r. decided r.input) cuts ≡ map (λ r. r.result) cuts
unfolding computing deciding
cuts-hold = refl

-- `edge_parameter_bounds` passes over tests 1, 3 and 9 to 13
abbrev bounds : List (Row Model (Answer ParamRange))
bounds =
    (blade gives given (record { lo = float_of 0; hi = float_of 4 }))
    ∷ (fins_are (9 ∷ []) (surface_is none (shell_is 0 [] (0 ∷ 0 ∷ []) [] blade)) gives given (record { lo = float_of 0; hi = float_of 4 }))
    ∷ (ends_are none (some 1) blade gives refused 7)
    ∷ (edge_is none (some 1) none [] blade gives refused 7)
    ∷ (curve_is none blade gives refused 1)
    ∷ (ends_are (some 9) (some 1) blade gives refused 2)
    ∷ (ends_are (some 0) (some 0) blade gives refused 4)
    ∷ (with_curve 0 (line (on_axis (neg (float_of (2 ^ 60)))) right) blade gives refused 7)
    ∷ []

bounds-hold : map (λ r. edge_parameter_bounds r.input 0) bounds ≡ map (λ r. r.result) bounds
unfolding computing
bounds-hold = refl

-- the model after a split of the blade, its edge with a tolerance of its own and listed among the shell's wire edges
pub record Seen : Type 0 where
  pub answer : Answer EdgeSplit
  pub loop_fins : List ℕ
  pub wire_edges : List ℕ
  pub edges : List Edge
  pub fins : List Fin
  pub vertex : Vertex
  pub used : List ℕ

abbrev seen : Float → Model → Seen
seen t m =
    let after = model_after largest m 0 t in
    record {
      answer = split_line_edge largest m 0 t;
      loop_fins = (after.loops.slot 0).fins;
      wire_edges = (after.shells.slot 0).wire_edges;
      edges = after.edges.slot 0 ∷ after.edges.slot 1 ∷ [];
      fins = after.fins.slot 2 ∷ after.fins.slot 3 ∷ [];
      vertex = after.vertices.slot 2;
      used = after.fins.used ∷ after.edges.used ∷ after.vertices.used ∷ after.loops.used ∷ [];
    }

split-blade : seen quarter (tolerant_edge quarter (shell_is 0 (0 ∷ []) (7 ∷ 0 ∷ 8 ∷ []) [] blade))
    ≡ record {
      answer = given (record { original_edge = 0; new_edge = 1; vertex = 2 });
      loop_fins = 0 ∷ 2 ∷ 3 ∷ 1 ∷ [];
      wire_edges = 7 ∷ 0 ∷ 1 ∷ 8 ∷ [];
      edges =
          record { fins = 0 ∷ 1 ∷ []; start = some 0; end = some 2; curve = some 0; tolerance = Own quarter }
          ∷ record { fins = 2 ∷ 3 ∷ []; start = some 2; end = some 1; curve = some 0; tolerance = Own quarter }
          ∷ [];
      fins = a_fin 0 1 positive ∷ a_fin 0 1 negative ∷ [];
      vertex = record { point = on_axis (float_of 1); tolerance = Own quarter };
      used = 4 ∷ 2 ∷ 3 ∷ 1 ∷ [];
    }
unfolding computing
split-blade = refl

-- where another loop lists a fin of the edge too, only the owner's list gains
abbrev loops_after : Model → List (List ℕ)
loops_after m = let after = model_after largest m 0 quarter in map (λ l. (after.loops.slot l).fins) (0 ∷ 1 ∷ 2 ∷ [])

owners-gain : loops_after (with_loop 1 (a_loop 1 (4 ∷ 5 ∷ 6 ∷ 7 ∷ 3 ∷ [])) stone)
    ≡ (0 ∷ 1 ∷ 2 ∷ 24 ∷ 3 ∷ []) ∷ (4 ∷ 5 ∷ 6 ∷ 7 ∷ 3 ∷ []) ∷ (8 ∷ 25 ∷ 9 ∷ 10 ∷ 11 ∷ []) ∷ []
unfolding computing
owners-gain = refl

-- a refused split alters nothing
abbrev unsplit : Model → List ℕ
unsplit m = (m.loops.slot 0).fins ++ (m.fins.used ∷ m.edges.used ∷ m.vertices.used ∷ [])

refused-blade : unsplit (model_after (room 4 2 3 2 3 2) blade 0 quarter) ≡ 0 ∷ 1 ∷ 2 ∷ 1 ∷ 2 ∷ []
unfolding computing
refused-blade = refl
