-- Why a walk of a body is refused, its box, its volume (01, "Walks", "Box and volume"): which record is missing, on which parent; which face, which edge, which fin. Definitions only.
-- The numbers are those of meaning/specs/Walks.antt and Inquire.antt, in their words; `Statements.antt` has that they are the calls'.
use Rattle.std.specs.Prelude.{ℕ, cond, List, [], ◌∷◌, ◌++◌, map, eqb, ltb, length, get_or}
use Rattle.std.proofs.Math.Option.{Option, none, some}
use Rattle.float_vectors.specs.Space.{finite_point}
use Rattle.geom_lines_planes.specs.Refuse.{◌unless◌}
use Rattle.meaning.specs.Lists.{member, joined, the, is_some}
use Rattle.meaning.specs.Model.{Model, has, body, region, shell, face, loop, fin, edge, point_of, curve, surface}
use Rattle.meaning.specs.Refuse.{◌if◌}
use Rattle.meaning.specs.Walks.{shells_of, face_walk, edge_walk, edge_vertices, vertex_walk}
use Rattle.meaning.specs.Inquire.{is_solid, Side, solid_sides, outward, inward, alike, rim, start_of}
use Rattle.meaning.specs.Faults.{Class, of_body, of_region, of_shell, of_face, of_loop, of_fin, of_edge, of_vertex, no_line, no_plane}
use Rattle.meaning.specs.Offices.{office_refusal, body_for}
use Rattle.meaning_stops.specs.Stops.{Entity, this, this_curve, this_surface, nothing, Part, part, Row, ◌∶◌, Stop, first_stop}

-- ---- the parent that names a record, where a walk has it from a list of ids: the first that is met

unfoldable pub first_with : (ℕ → List ℕ) → ℕ → List ℕ → Option ℕ
first_with f x [] = none
first_with f x (y ∷ l) = let later = first_with f x l in cond (member x (f y)) (some y) later

abbrev pub named : Class → Option ℕ → Entity → Entity
named c none other = other
named c (some i) other = this c i

-- the shell that lists the face
abbrev pub face_parent : Model → ℕ → ℕ → Entity
face_parent m b f = named of_shell (first_with (λ s. (shell m s).faces) f (shells_of m b)) nothing

-- the fin of the edge, or the shell that lists it among its wire edges
abbrev pub fins_of : Model → ℕ → List ℕ
fins_of m f = joined (λ l. (loop m l).fins) (face m f).loops

abbrev pub edge_parent : Model → ℕ → ℕ → Entity
edge_parent m b e =
    named of_fin (first_with (λ i. (fin m i).edge ∷ []) e (joined (fins_of m) (face_walk m b)))
    (named of_shell (first_with (λ s. (shell m s).wire_edges) e (shells_of m b)) nothing)

-- the edge that ends there, or the shell that lists it among its acorn vertices
abbrev pub vertex_parent : Model → ℕ → ℕ → Entity
vertex_parent m b v =
    named of_edge (first_with (λ e. edge_vertices (edge m e)) v (edge_walk m b))
    (named of_shell (first_with (λ s. (shell m s).acorn_vertices) v (shells_of m b)) nothing)

-- ---- the walks

-- 1. the regions and shells that the walk of faces follows: the body, a region of it, a shell of that
unfoldable pub region_parts : Model → ℕ → ℕ → List Part
region_parts m b r =
    part 2 (2 unless has m.regions r) (this of_region r) (this of_body b)
    ∷ map (λ s. part 3 (2 unless has m.shells s) (this of_shell s) (this of_region r)) (region m r).shells

abbrev pub face_parts : Model → ℕ → ℕ → List Part
face_parts m asked b = part 1 (2 unless has m.bodies b) (this of_body asked) nothing ∷ joined (region_parts m b) (body m b).regions

-- 2. what the walk of edges follows besides: a face, a loop of it, a fin of that
unfoldable pub loop_parts : Model → ℕ → ℕ → List Part
loop_parts m f l =
    part 2 (2 unless has m.loops l) (this of_loop l) (this of_face f)
    ∷ map (λ i. part 3 (2 unless has m.fins i) (this of_fin i) (this of_loop l)) (loop m l).fins

unfoldable pub walked_face : Model → ℕ → ℕ → List Part
walked_face m b f = part 1 (2 unless has m.faces f) (this of_face f) (face_parent m b f) ∷ joined (loop_parts m f) (face m f).loops

abbrev pub edge_parts : Model → ℕ → List Part
edge_parts m b = joined (walked_face m b) (face_walk m b)

-- 3. what the walk of vertices follows besides: an edge
abbrev pub vertex_parts : Model → ℕ → List Part
vertex_parts m b = map (λ e. part 1 (2 unless has m.edges e) (this of_edge e) (edge_parent m b e)) (edge_walk m b)

-- ---- "Both first walk faces (no surface 1, missing 2, not a plane 7), then edges (no curve 1, missing 2, not a line 7)"

-- 4. a face
unfoldable pub flat_parts : Model → ℕ → ℕ → List Part
flat_parts m b f =
    let s = the (face m f).surface in
    part 1 (2 unless has m.faces f) (this of_face f) (face_parent m b f)
    ∷ part 2 (1 unless is_some (face m f).surface) (this of_face f) (face_parent m b f)
    ∷ part 3 (2 unless has m.surfaces s) (this_surface s) (this of_face f)
    ∷ part 4 (7 if no_plane (surface m s)) (this_surface s) (this of_face f)
    ∷ []

-- 5. an edge
unfoldable pub straight_parts : Model → ℕ → ℕ → List Part
straight_parts m b e =
    let c = the (edge m e).curve in
    part 1 (2 unless has m.edges e) (this of_edge e) (edge_parent m b e)
    ∷ part 2 (1 unless is_some (edge m e).curve) (this of_edge e) (edge_parent m b e)
    ∷ part 3 (2 unless has m.curves c) (this_curve c) (this of_edge e)
    ∷ part 4 (7 if no_line (curve m c)) (this_curve c) (this of_edge e)
    ∷ []

-- ---- 6. "Box: missing vertex 2, no vertex 4, a coordinate not finite 4 (added)"

abbrev pub box_parts : Model → ℕ → List Part
box_parts m b =
    map (λ v. part 1 (2 unless has m.vertices v) (this of_vertex v) (vertex_parent m b v)) (vertex_walk m b)
    ++ part 2 (4 if eqb (length (vertex_walk m b)) 0) (this of_body b) nothing
    ∷ map (λ v. part 3 (4 unless finite_point (point_of m v)) (this of_vertex v) (vertex_parent m b v)) (vertex_walk m b)

-- ---- 7 to 9. "Volume: not solid 6; per face in solid regions: ..; no face at all 4"

-- "a start none 7, vertex missing 2": the fin i of the loop l
unfoldable pub start_parts : Model → ℕ → ℕ → List Part
start_parts m l i =
    part 4 (7 unless is_some (start_of m i)) (this of_fin i) (this of_loop l)
    ∷ part 5 (2 unless has m.vertices (the (start_of m i))) (this of_vertex (the (start_of m i))) (this of_edge (fin m i).edge)
    ∷ []

-- "side not exactly one 1, loops not one 7, fewer than three fins 4, .."
unfoldable pub side_parts : Model → Side → List Part
side_parts m s =
    let f = s.face in
    let l = get_or (face m f).loops 0 0 in
    part 1 (1 if alike (outward m s) (inward m s)) (this of_face f) (this of_shell s.shell)
    ∷ part 2 (7 unless eqb (length (face m f).loops) 1) (this of_face f) (this of_shell s.shell)
    ∷ part 3 (4 if ltb (length (rim m f)) 3) (this of_loop l) (this of_face f)
    ∷ joined (start_parts m l) (rim m f)

unfoldable pub sides_parts : Model → List Side → List Part
sides_parts m [] = []
sides_parts m (s ∷ l) = side_parts m s ++ sides_parts m l

-- ---- the calls' rows, each once, of the body b that was asked about by the id `asked`

module _ (m : Model) (asked b : ℕ) where
  unfoldable pub faces_stops : List Row
  faces_stops = (1 ∶ face_parts m asked b) ∷ []

  unfoldable pub edges_stops : List Row
  edges_stops = (1 ∶ face_parts m asked b) ∷ (2 ∶ edge_parts m b) ∷ []

  unfoldable pub vertices_stops : List Row
  vertices_stops = (1 ∶ face_parts m asked b) ∷ (2 ∶ edge_parts m b) ∷ (3 ∶ vertex_parts m b) ∷ []

  unfoldable pub box_stops : List Row
  box_stops =
      (1 ∶ face_parts m asked b)
      ∷ (4 ∶ joined (flat_parts m b) (face_walk m b))
      ∷ (2 ∶ edge_parts m b)
      ∷ (5 ∶ joined (straight_parts m b) (edge_walk m b))
      ∷ (3 ∶ vertex_parts m b)
      ∷ (6 ∶ box_parts m b)
      ∷ []

  unfoldable pub volume_stops : List Row
  volume_stops =
      (1 ∶ face_parts m asked b)
      ∷ (4 ∶ joined (flat_parts m b) (face_walk m b))
      ∷ (2 ∶ edge_parts m b)
      ∷ (5 ∶ joined (straight_parts m b) (edge_walk m b))
      ∷ (7 ∶ part 1 (6 unless is_solid (body m b).kind) (this of_body b) nothing ∷ [])
      ∷ (8 ∶ sides_parts m (solid_sides m b))
      ∷ (9 ∶ part 1 (4 if eqb (length (solid_sides m b)) 0) (this of_body b) nothing ∷ [])
      ∷ []

-- ---- "the office first": 1 for an office above 1 has row 0; then the rows of what the body is for the office (W-206)

abbrev pub office_stop : (Model → ℕ → ℕ → List Row) → Model → ℕ → ℕ → Stop
office_stop rows m o b = first_stop ((0 ∶ part 1 (office_refusal o) nothing nothing ∷ []) ∷ rows m b (body_for m o b))

unfoldable pub faces_stop : Model → ℕ → ℕ → Stop
faces_stop = office_stop faces_stops

unfoldable pub edges_stop : Model → ℕ → ℕ → Stop
edges_stop = office_stop edges_stops

unfoldable pub vertices_stop : Model → ℕ → ℕ → Stop
vertices_stop = office_stop vertices_stops

unfoldable pub box_stop : Model → ℕ → ℕ → Stop
box_stop = office_stop box_stops

unfoldable pub volume_stop : Model → ℕ → ℕ → Stop
volume_stop = office_stop volume_stops
