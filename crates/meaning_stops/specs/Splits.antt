-- Why a split is refused, and why `edge_parameter_bounds` is (01, "Splitting: order of tests"): the thirteen tests, each with its parts and the record of each part. Definitions only.
-- The numbers are those of meaning/specs/Split.antt, in its words; `Statements.antt` has that they are the call's.
use Rattle.std.specs.Prelude.{ℕ, ◌+◌, List, [], ◌∷◌, ◌++◌, map, eqb, leb, length, Float}
use Rattle.std.specs.Float.Ieee.{lt}
use Rattle.std.specs.Float.Ieee.Scale.{finite}
use Rattle.interval_arithmetic.specs.Ops.{zero_f}
use Rattle.geom_lines_planes.specs.Refuse.{◌unless◌}
use Rattle.geom_carriers.specs.Queries.{the_plane}
use Rattle.geom_signs.specs.Signs.{span_s}
use Rattle.meaning.specs.Lists.{run, member, count, joined, the, is_some}
use Rattle.meaning.specs.Floats.{float_of}
use Rattle.meaning.specs.Model.{Model, Limits, has, shell, face, loop, fin, edge, curve, surface}
use Rattle.meaning.specs.Refuse.{◌if◌}
use Rattle.meaning.specs.Split.{is_positive, start_point, end_point, lo, hi, parameter, split_point, apart, test7, test9, on_plane, edge_fits, gain}
use Rattle.meaning.specs.Faults.{of_shell, of_face, of_loop, of_fin, of_edge, of_vertex, no_line, no_plane}
use Rattle.meaning.specs.Offices.{office_refusal, edge_for}
use Rattle.meaning_stops.specs.Stops.{this, this_curve, this_surface, nothing, Part, part, Row, ◌∶◌, Stop, first_stop}

-- ---- the rows, by 01's numbers

-- 1. "Fraction not finite, ≤ 0 or ≥ 1: 1", of the edge that was asked about
abbrev pub row1 : ℕ → Float → List Part
row1 asked t =
    part 1 (1 unless finite t) (this of_edge asked) nothing
    ∷ part 2 (1 unless lt zero_f t) (this of_edge asked) nothing
    ∷ part 3 (1 unless lt t (float_of 1)) (this of_edge asked) nothing
    ∷ []

-- 2. "Edge missing: 2": what the id is for the office, told by the id that was asked about
abbrev pub row2 : Model → ℕ → ℕ → List Part
row2 m asked e = part 1 (2 unless has m.edges e) (this of_edge asked) nothing ∷ []

-- 3. "Per listed fin: missing 2, pcurve mark 7"
abbrev pub row3-fin : Model → ℕ → ℕ → List Part
row3-fin m e i =
    part 1 (2 unless has m.fins i) (this of_fin i) (this of_edge e)
    ∷ part 2 (7 if (fin m i).pcurve) (this of_fin i) (this of_edge e)
    ∷ []

abbrev pub row3 : Model → ℕ → List Part
row3 m e = joined (row3-fin m e) (edge m e).fins

-- 4. "An end is none: 7": the start, the end
abbrev pub row4 : Model → ℕ → List Part
row4 m e =
    part 1 (7 unless is_some (edge m e).start) (this of_edge e) nothing
    ∷ part 2 (7 unless is_some (edge m e).end) (this of_edge e) nothing
    ∷ []

-- 5. "No curve: 1; curve missing: 2; not a line: 7"
abbrev pub row5 : Model → ℕ → List Part
row5 m e =
    let c = the (edge m e).curve in
    part 1 (1 unless is_some (edge m e).curve) (this of_edge e) nothing
    ∷ part 2 (2 unless has m.curves c) (this_curve c) (this of_edge e)
    ∷ part 3 (7 if no_line (curve m c)) (this_curve c) (this of_edge e)
    ∷ []

-- 6. "Start, then end vertex missing: 2"
abbrev pub row6 : Model → ℕ → List Part
row6 m e =
    part 1 (2 unless has m.vertices (the (edge m e).start)) (this of_vertex (the (edge m e).start)) (this of_edge e)
    ∷ part 2 (2 unless has m.vertices (the (edge m e).end)) (this of_vertex (the (edge m e).end)) (this of_edge e)
    ∷ []

-- 7. "Interval of direction·(end - start) not positive: 4"
abbrev pub row7 : Model → ℕ → List Part
row7 m e = part 1 (test7 m e) (this of_edge e) nothing ∷ []

-- 8. "lo or hi not finite, or interval hi - lo not positive: 7": lo is the start's parameter, hi the end's
abbrev pub row8 : Model → ℕ → List Part
row8 m e =
    part 1 (7 unless finite (lo m e)) (this of_vertex (the (edge m e).start)) (this of_edge e)
    ∷ part 2 (7 unless finite (hi m e)) (this of_vertex (the (edge m e).end)) (this of_edge e)
    ∷ part 3 (7 unless is_positive (span_s (lo m e) (hi m e))) (this of_edge e) nothing
    ∷ []

-- 9. "Split point not finite: 4"
abbrev pub row9 : Model → ℕ → Float → List Part
row9 m e t = part 1 (test9 m e t) (this of_edge e) nothing ∷ []

-- 10. "Against start, then end: .. 4": the vertex that is too near
abbrev pub row10 : Model → ℕ → Float → List Part
row10 m e t =
    part 1 (4 unless apart m (split_point m e t) (start_point m e)) (this of_vertex (the (edge m e).start)) (this of_edge e)
    ∷ part 2 (4 unless apart m (split_point m e t) (end_point m e)) (this of_vertex (the (edge m e).end)) (this of_edge e)
    ∷ []

-- 11. one fin, behind "repeated": "points to another edge 1; loop missing 2; not exactly once in its loop 1; face missing 2; no surface 1; surface missing 2;
-- not a plane 7; then at lo, hi and the split parameter, .."
unfoldable pub row11-fin : Model → ℕ → Float → ℕ → List Part
row11-fin m e t i =
    let l = (fin m i).owner in
    let f = (loop m l).face in
    let s = the (face m f).surface in
    part 2 (1 unless eqb (fin m i).edge e) (this of_fin i) (this of_edge e)
    ∷ part 3 (2 unless has m.loops l) (this of_loop l) (this of_fin i)
    ∷ part 4 (1 unless eqb (count i (loop m l).fins) 1) (this of_fin i) (this of_loop l)
    ∷ part 5 (2 unless has m.faces f) (this of_face f) (this of_loop l)
    ∷ part 6 (1 unless is_some (face m f).surface) (this of_face f) (this of_loop l)
    ∷ part 7 (2 unless has m.surfaces s) (this_surface s) (this of_face f)
    ∷ part 8 (7 if no_plane (surface m s)) (this_surface s) (this of_face f)
    ∷ part 9 (on_plane m e (the_plane (surface m s)) (lo m e)) (this of_fin i) (this of_loop l)
    ∷ part 10 (on_plane m e (the_plane (surface m s)) (hi m e)) (this of_fin i) (this of_loop l)
    ∷ part 11 (on_plane m e (the_plane (surface m s)) (parameter m e t)) (this of_fin i) (this of_loop l)
    ∷ []

-- 11. "Per fin: repeated 1; ..": it stands among those before it
unfoldable pub row11-fins : Model → ℕ → Float → List ℕ → List ℕ → List Part
row11-fins m e t seen [] = []
row11-fins m e t seen (i ∷ l) = part 1 (1 if member i seen) (this of_fin i) (this of_edge e) ∷ row11-fin m e t i ++ row11-fins m e t (i ∷ seen) l

abbrev pub row11 : Model → ℕ → Float → List Part
row11 m e t = row11-fins m e t [] (edge m e).fins

-- 12. "A wire shell lists the edge more than once: 1"
abbrev pub row12 : Model → ℕ → List Part
row12 m e = map (λ s. part 1 (1 unless leb (count e (shell m s).wire_edges) 1) (this of_shell s) nothing) (run 0 m.shells.used)

-- 13. "No slot in any table or list concerned: 8, new fins in one loop counted together": the tables of fins, edges and vertices, the new edge's list; a loop's, in the order of the edge's fins; a shell's
abbrev pub row13-loops : Limits → Model → ℕ → List Part
row13-loops x m e =
    map (λ i. part 5 (8 unless leb (length (loop m (fin m i).owner).fins + gain m e (fin m i).owner) x.loop_fins) (this of_loop (fin m i).owner) (this of_fin i)) (edge m e).fins

abbrev pub row13-shells : Limits → Model → ℕ → List Part
row13-shells x m e =
    map (λ s. part 6 (8 unless leb (length (shell m s).wire_edges + count e (shell m s).wire_edges) x.shell_wire_edges) (this of_shell s) nothing) (run 0 m.shells.used)

abbrev pub row13 : Limits → Model → ℕ → List Part
row13 x m e =
    part 1 (8 unless leb (m.fins.used + length (edge m e).fins) x.fins) (this of_edge e) nothing
    ∷ part 2 (8 unless leb (m.edges.used + 1) x.edges) (this of_edge e) nothing
    ∷ part 3 (8 unless leb (m.vertices.used + 1) x.vertices) (this of_edge e) nothing
    ∷ part 4 (8 unless edge_fits x m e) (this of_edge e) nothing
    ∷ row13-loops x m e
    ++ row13-shells x m e

-- ---- "Why is this split refused?"

unfoldable pub split_stops : Limits → Model → ℕ → ℕ → Float → List Row
split_stops x m asked e t =
    (1 ∶ row1 asked t)
    ∷ (2 ∶ row2 m asked e)
    ∷ (3 ∶ row3 m e)
    ∷ (4 ∶ row4 m e)
    ∷ (5 ∶ row5 m e)
    ∷ (6 ∶ row6 m e)
    ∷ (7 ∶ row7 m e)
    ∷ (8 ∶ row8 m e)
    ∷ (9 ∶ row9 m e t)
    ∷ (10 ∶ row10 m e t)
    ∷ (11 ∶ row11 m e t)
    ∷ (12 ∶ row12 m e)
    ∷ (13 ∶ row13 x m e)
    ∷ []

-- "the office first": 1 for an office above 1 has row 0, which 01's rows leave free; then the tests of what the edge is for the office (W-206)
unfoldable pub split_stop : Limits → Model → ℕ → ℕ → Float → Stop
split_stop x m o e t = first_stop ((0 ∶ part 1 (office_refusal o) nothing nothing ∷ []) ∷ split_stops x m e (edge_for m o e) t)

-- ---- "`edge_parameter_bounds` makes tests 2 and 4 to 8 alone"

unfoldable pub bounds_stops : Model → ℕ → List Row
bounds_stops m e =
    (2 ∶ row2 m e e)
    ∷ (4 ∶ row4 m e)
    ∷ (5 ∶ row5 m e)
    ∷ (6 ∶ row6 m e)
    ∷ (7 ∶ row7 m e)
    ∷ (8 ∶ row8 m e)
    ∷ []

abbrev pub bounds_stop : Model → ℕ → Stop
bounds_stop m e = first_stop (bounds_stops m e)
