-- Evaluations that tell the definitions from wrong ones: each edit of must-fail/ makes one of them false. Assumes nothing.
-- Each asks the smallest model and the innermost definition that tell, since every edit evaluates them again; the crate `meaning_examples` has the whole tables.
use Rattle.std.specs.Prelude.{ℕ, ◌≡◌, refl, true, false, List, [], ◌∷◌, map, Float}
use Rattle.std.proofs.Math.Option.{none, some}
use Rattle.std.specs.Float.{binary64}
use Rattle.std.specs.Float.Ieee.{neg, to_bits}
use Rattle.geom_lines_planes.specs.declared.tolerance.Tolerance.TheVariants.{Own}
use Rattle.geom_lines_planes.specs.declared.tolerance.Version.TheVariants.{Second}
use Rattle.meaning.specs.Floats.{◌/ᶠ◌, float_of}
use Rattle.meaning.specs.Model.{Model, sheet, wire, office-0, office-1, positive, largest}
use Rattle.meaning.specs.Refuse.{given}
use Rattle.meaning.specs.Walks.{face_walk, faces_refusal, edge_walk, edges_refusal, vertex_walk, vertices_refusal}
use Rattle.meaning.specs.Inquire.{box_of, side_volume}
use Rattle.meaning.specs.Split.{test10, on_plane, test11-fin, test13, bounds_refusal, after_split, model_after, after_all}
use Rattle.meaning.specs.Faults.{Finding, skipped, fault, sample_at, curve_test, sample_tests, carried, findings, report_of, check_refusal, counts, whole_solid, fit_to_saw, other_ring}
use Rattle.meaning.specs.Offices.{body_for, foreign_edge, office_split_refusal, office_after_all}
use Rattle.meaning.specs.Stone.{table_of, at, plane, up, corner, stone, right, line, an_edge, a_loop}
use Rattle.meaning.specs.Blade.{blade, with_version, with_bodies, with_region, with_shell, with_loop, with_fin, with_vertex, with_surface, quarter, on_axis, as_solid, edge_is, ends_are, curve_is, fins_are, face_is, loops_are, shell_is, start_at, end_at, other_curve, other_surface, tolerant_edge, askew, room, with_curve, regions_are, wafer, as_sheet, all_void, solid_shells, solid_faces, back_is}
use Rattle.meaning.specs.Computing.{computing}

-- ---- walks

-- each at its first meeting
first-meetings : face_walk (shell_is 0 (9 ∷ 0 ∷ 9 ∷ []) [] [] blade) 0 ≡ 9 ∷ 0 ∷ []
unfolding computing
first-meetings = refl

-- wire edges come behind those of the loops
wire-edges-behind : edge_walk (shell_is 0 (0 ∷ []) (9 ∷ 0 ∷ []) [] blade) 0 ≡ 0 ∷ 9 ∷ []
unfolding computing
wire-edges-behind = refl

-- start, then end
start-then-end : vertex_walk blade 0 ≡ 0 ∷ 1 ∷ []
unfolding computing
start-then-end = refl

-- the refusals of the three walks
abbrev walked : Model → List ℕ
walked m = faces_refusal m 0 ∷ edges_refusal m 0 ∷ vertices_refusal m 0 ∷ []

-- what a walk follows must be there: a region, a shell; a face, a loop, a fin; the edge of a fin, a wire edge
followed : map walked
    (regions_are (9 ∷ []) blade
    ∷ with_region 0 (record { body = 0; solid = false; shells = 9 ∷ [] }) blade
    ∷ shell_is 0 (9 ∷ []) [] [] blade
    ∷ loops_are (9 ∷ []) blade
    ∷ with_loop 0 (record { face = 0; fins = 9 ∷ [] }) blade
    ∷ with_fin 0 (record { owner = 0; edge = 9; sense = positive; pcurve = false }) blade
    ∷ shell_is 0 [] (9 ∷ []) [] blade
    ∷ [])
    ≡ (2 ∷ 2 ∷ 2 ∷ [])
    ∷ (2 ∷ 2 ∷ 2 ∷ [])
    ∷ (0 ∷ 2 ∷ 2 ∷ [])
    ∷ (0 ∷ 2 ∷ 2 ∷ [])
    ∷ (0 ∷ 2 ∷ 2 ∷ [])
    ∷ (0 ∷ 0 ∷ 2 ∷ [])
    ∷ (0 ∷ 0 ∷ 2 ∷ [])
    ∷ []
unfolding computing
followed = refl

-- and what it only lists need not: an end, an acorn vertex
listed-only : map walked (blade ∷ ends_are (some 9) none blade ∷ shell_is 0 [] [] (9 ∷ []) blade ∷ []) ≡ (0 ∷ 0 ∷ 0 ∷ []) ∷ (0 ∷ 0 ∷ 0 ∷ []) ∷ (0 ∷ 0 ∷ 0 ∷ []) ∷ []
unfolding computing
listed-only = refl

-- ---- box and volume

abbrev bits : Float → ℕ
bits x = to_bits binary64 x

-- of equal zeros the first met
first-zero : bits (box_of (at (float_of 0) (neg (float_of 0)) (float_of 0) ∷ on_axis (float_of 4) ∷ [])).min.y ≡ 0x8000_0000_0000_0000
unfolding computing
first-zero = refl

-- a front side reverses the points: the top of the trial stone has -8 from the outer shell
front-reversed : bits (side_volume stone (record { shell = 0; face = 1 })) ≡ 0xc020_0000_0000_0000
unfolding computing
front-reversed = refl

-- ---- the tests of a split

-- 4 before 5: no start, and no curve
ends-before-curve : bounds_refusal (edge_is none (some 1) none [] blade) 0 ≡ 7
unfolding computing
ends-before-curve = refl

-- 10: near the end
near-the-end : test10 blade 0 (float_of 4095 /ᶠ float_of 4096) ≡ 4
unfolding computing
near-the-end = refl

-- 11: half the precision is the edge's tolerance, so that 0.0009 is off the plane
half-precision : on_plane blade 0 (record { origin = at (float_of 0) (float_of 0) (float_of 1 /ᶠ float_of 1100); normal = up }) (float_of 0) ≡ 1
unfolding computing
half-precision = refl

-- 11: an own tolerance of 0.0001, below the session's, off by 0.0004: the rule of the model's version (W-211)
abbrev off_own : Model → ℕ
off_own m = on_plane m 0 (record { origin = at (float_of 0) (float_of 0) (float_of 4 /ᶠ float_of 10000); normal = up }) (float_of 0)

by-version : map (λ m. off_own (tolerant_edge (float_of 1 /ᶠ float_of 10000) m)) (blade ∷ with_version Second blade ∷ []) ≡ 1 ∷ 0 ∷ []
unfolding computing
by-version = refl

-- 11: between two ends on the plane
between-the-ends : test11-fin askew 0 (float_of 1 /ᶠ float_of 5) 0 ≡ 1
unfolding computing
between-the-ends = refl

-- 13: both new fins of the loop are counted together
fins-together : test13 (room 4 2 3 2 3 2) blade 0 ≡ 8
unfolding computing
fins-together = refl

-- ---- a split keeps the version (W-211)
version-kept : (after_split (with_version Second blade) 0 quarter).version ≡ Second
unfolding after_split
version-kept = refl

-- ---- what a split writes: the blade's edge, which is a wire edge of the shell too

abbrev halved : Model
halved = after_split (shell_is 0 (0 ∷ []) (7 ∷ 0 ∷ 8 ∷ []) [] blade) 0 quarter

-- a new fin stands after a positive old fin, before a negative one
new-fins-beside : (halved.loops.slot 0).fins ≡ 0 ∷ 2 ∷ 3 ∷ 1 ∷ []
unfolding computing
new-fins-beside = refl

-- a new wire edge stands after the old one
new-wire-edge-after : (halved.shells.slot 0).wire_edges ≡ 7 ∷ 0 ∷ 1 ∷ 8 ∷ []
unfolding computing
new-wire-edge-after = refl

-- the old edge keeps the start, the new one has the end and both new fins
halves : halved.edges.slot 0 ∷ halved.edges.slot 1 ∷ [] ≡ an_edge 0 0 2 (0 ∷ 1 ∷ []) ∷ an_edge 0 2 1 (2 ∷ 3 ∷ []) ∷ []
unfolding computing
halves = refl

-- it is written where all tests pass, and nothing for want of room: an edge with no fin, with room for two vertices, and for three
whole-or-nothing : map (λ x. (model_after x (fins_are [] blade) 0 quarter).vertices.used) (room 2 2 2 1 2 2 ∷ room 2 2 3 1 2 2 ∷ []) ≡ 2 ∷ 3 ∷ []
unfolding computing
whole-or-nothing = refl

-- the second of two splits is asked of the model that the first one left, and splits the edge that it made
one-after-the-other : (after_all (room 2 3 4 1 2 2) (fins_are [] blade) (record { edge = 0; fraction = quarter } ∷ record { edge = 1; fraction = quarter } ∷ [])).vertices.used ≡ 4
unfolding computing
one-after-the-other = refl

-- ---- reports

-- samples, then the body
samples-before-body : check_refusal blade (record { geometry = false; edge_samples = 256 }) 1 ≡ 1
unfolding computing
samples-before-body = refl

abbrev topology : Model → List Finding
topology m = findings m (record { geometry = false; edge_samples = 0 }) 0

-- a face that its front shell does not list is checked nowhere
front-shell-alone : topology (face_is (some 9) (some 0) (9 ∷ []) none blade) ≡ []
unfolding computing
front-shell-alone = refl

-- a solid's edge with one fin, where the walk fails
no-walk-no-edge : topology (as_solid (fins_are (0 ∷ []) (with_loop 0 (a_loop 0 (0 ∷ 9 ∷ [])) blade))) ≡ fault 13 0 ∷ []
unfolding computing
no-walk-no-edge = refl

-- each reason at its place: a shell, a face, a loop and a fin that point elsewhere, no surface, and of each fin no curve
pointing-elsewhere : findings
    (with_shell 0 (record { region = 9; faces = 0 ∷ []; wire_edges = []; acorn_vertices = [] })
    (face_is none (some 9) (0 ∷ []) none
    (with_loop 0 (record { face = 9; fins = 0 ∷ 1 ∷ [] })
    (with_fin 0 (record { owner = 9; edge = 0; sense = positive; pcurve = false }) (curve_is none blade)))))
    (record { geometry = true; edge_samples = 0 })
    0
    ≡ map (λ n. fault n 0) (6 ∷ 8 ∷ 9 ∷ 11 ∷ 14 ∷ 21 ∷ 21 ∷ [])
unfolding computing
pointing-elsewhere = refl

empty-loop : topology (with_loop 0 (record { face = 0; fins = [] }) blade) ≡ fault 12 0 ∷ []
unfolding computing
empty-loop = refl

-- start, then end; of each the curve, then the surface; then the sample: all are off a plane above, the ends off the line too
ends-then-samples : carried (start_at (corner 2) (end_at (corner 3) (with_surface 0 (plane (corner 4) up) blade))) 1 0 (some 0) (some 0)
    ≡ fault 22 0 ∷ fault 23 0 ∷ fault 22 1 ∷ fault 23 1 ∷ fault 24 0 ∷ []
unfolding computing
ends-then-samples = refl

-- samples only if both ends exist: the end is none, is missing, is there
between-both-ends : map (λ b. sample_tests (ends_are (some 0) b (other_surface blade)) 1 0 0 0) (none ∷ some 9 ∷ some 1 ∷ []) ≡ [] ∷ [] ∷ (skipped ∷ []) ∷ []
unfolding computing
between-both-ends = refl

-- every fault counts, as many are kept as fit, and a check not made is no fault
counted : counts 2 (report_of (fault 12 0 ∷ skipped ∷ fault 13 0 ∷ fault 14 0 ∷ [])) ≡ record { faults = 3; kept = 2; unchecked = 1 }
unfolding computing
counted = refl

-- a start just at the sum of both tolerances: a check not made
unresolved : curve_test (tolerant_edge quarter (with_vertex 0 (record { point = at (float_of 0) (float_of 1 /ᶠ float_of 2) (float_of 0); tolerance = Own quarter }) blade)) 0 0 0 ≡ skipped ∷ []
unfolding computing
unresolved = refl

-- a sample is ((t1 - t0)·k)/(n + 1), and not (t1 - t0)·(k/(n + 1))
product-first : bits (sample_at (float_of 0) (float_of 3) 4 1) ≡ 0x3fe3_3333_3333_3333
unfolding computing
product-first = refl

-- an edge with neither end on a plane, or beside a line for a surface: checks not made
plane-ring : other_ring (ends_are none none (with_curve 0 (plane (on_axis (float_of 0)) up) blade)) 0 0 0 ≡ true
unfolding computing
plane-ring = refl

line-ring : other_ring (ends_are none none (with_surface 0 (line (on_axis (float_of 0)) right) blade)) 0 0 0 ≡ true
unfolding computing
line-ring = refl

-- ---- fit to saw

-- no fault, and two checks not made
not-fit : fit_to_saw (ends_are none none (other_curve (other_surface wafer))) 0 ≡ given false
unfolding computing
not-fit = refl

-- W-203: a whole solid is fit; of a sheet, a solid without a solid region, or without a face in one, that cannot be said
whole : whole_solid wafer 0 ≡ true
unfolding computing
whole = refl

a-sheet : fit_to_saw (as_sheet wafer) 0 ≡ given false
unfolding computing
a-sheet = refl

void-alone : whole_solid (all_void wafer) 0 ≡ false
unfolding computing
void-alone = refl

-- a face that names another body's shell, one that is missing, and one that lists another face alone
another-bodys : whole_solid (back_is 2 wafer) 0 ≡ false
unfolding computing
another-bodys = refl

missing-shell : whole_solid (back_is 9 (solid_shells (1 ∷ 9 ∷ []) wafer)) 0 ≡ false
unfolding computing
missing-shell = refl

lists-another : whole_solid (solid_faces (1 ∷ []) wafer) 0 ≡ false
unfolding computing
lists-another = refl

-- ---- two offices (W-206)

-- the blade is office 0's; behind it stand bodies of office 1 with these regions
abbrev shared : List (List ℕ) → Model
shared l = with_bodies (table_of (record { kind = sheet; office = office-0; regions = 0 ∷ [] }) (map (λ r. record { kind = wire; office = office-1; regions = r }) l)) blade

-- each office has its own bodies under their ids, the other's under the id behind the last, and an id that names none stays
own-bodies : map (λ o. map (body_for (shared ((0 ∷ []) ∷ [])) o) (0 ∷ 1 ∷ 2 ∷ 7 ∷ [])) (0 ∷ 1 ∷ []) ≡ (0 ∷ 2 ∷ 2 ∷ 7 ∷ []) ∷ (2 ∷ 1 ∷ 2 ∷ 7 ∷ []) ∷ []
unfolding computing
own-bodies = refl

-- the blade's edge is refused to office 1, which has no body with it; to both, where both have; and again to office 1 alone, where the walk of office 1's body fails; body by body
foreign-edges : map (λ l. map (λ o. foreign_edge (shared l) o 0) (0 ∷ 1 ∷ [])) (([] ∷ []) ∷ ((0 ∷ []) ∷ []) ∷ ((0 ∷ 9 ∷ []) ∷ []) ∷ ((0 ∷ 9 ∷ []) ∷ (0 ∷ []) ∷ []) ∷ [])
    ≡ (false ∷ true ∷ []) ∷ (true ∷ true ∷ []) ∷ (false ∷ true ∷ []) ∷ (true ∷ true ∷ []) ∷ []
unfolding computing
foreign-edges = refl

-- a foreign edge is a missing one: behind test 1, and not at all for an office that there is none of
foreign-as-missing : map (λ o. office_split_refusal largest (shared ([] ∷ [])) o 0 quarter) (0 ∷ 1 ∷ 2 ∷ []) ∷ map (λ o. office_split_refusal largest (shared ([] ∷ [])) o 0 (float_of 1)) (0 ∷ 1 ∷ 2 ∷ []) ∷ []
    ≡ (0 ∷ 2 ∷ 1 ∷ []) ∷ (1 ∷ 1 ∷ 1 ∷ []) ∷ []
unfolding computing
foreign-as-missing = refl

-- the other office's split changes nothing, and the next is asked of what it left
by_both : map (λ l. (office_after_all largest (shared ([] ∷ [])) l).edges.used)
    ((record { office = 1; edge = 0; fraction = quarter } ∷ []) ∷ (record { office = 0; edge = 0; fraction = quarter } ∷ record { office = 1; edge = 1; fraction = quarter } ∷ record { office = 0; edge = 1; fraction = quarter } ∷ []) ∷ [])
    ≡ 1 ∷ 3 ∷ []
unfolding computing
by_both = refl
