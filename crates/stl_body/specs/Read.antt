-- W-210, read binary STL (the request's words are quoted): the triangles that bytes hold, the body that is built of them, and when reading is refused. Definitions only.
use Rattle.std.specs.Prelude.{ℕ, zero, suc, ◌+◌, ◌*◌, ◌/◌, Bool, true, false, not, cond, ◌&&◌, ◌||◌, List, [], ◌∷◌, ◌++◌, map, eqb, leb, length, get_or, drop, Float}
use Rattle.std.proofs.Math.Option.{none, some}
use Rattle.std.specs.Float.{binary32}
use Rattle.std.specs.Float.Ieee.{of_bits, eq}
use Rattle.interval_arithmetic.specs.Ops.{zero_f}
use Rattle.float_vectors.specs.declared.vector.Point3.{Point3}
use Rattle.float_vectors.specs.Space.{finite_point}
use Rattle.geom_lines_planes.specs.declared.tolerance.Tolerance.TheVariants.{Session}
use Rattle.geom_lines_planes.specs.Refuse.{◌unless◌, ◌then◌}
use Rattle.meaning.specs.Lists.{run, all_below, every, count}
use Rattle.meaning.specs.Model.{Model, Limits, Office, Sense, positive, negative, solid, Body, Region, Shell, Face, Loop, Fin, Edge, Vertex, extended}
use Rattle.meaning.specs.Refuse.{Answer, answered}
use Rattle.meaning.specs.Split.{where_accepted}
use Rattle.meaning.specs.Offices.{office_refusal}
use Rattle.memory_layout.specs.Decode.{office_of}
use Rattle.image_format.specs.Bytes.{number}
use Rattle.stl_format.specs.Stl.{Triangle}

-- ---- the triangles that bytes hold: "Outside stones come in the same format" as W-209 writes. What its header, its normals and its attributes say is not read

-- 32 bits, which name a binary32 value; that is a binary64 value too
unfoldable pub coordinate_in : List ℕ → Float
coordinate_in s = of_bits binary32 (number 4 s)

unfoldable pub corner_in : List ℕ → Point3
corner_in s = record { x = coordinate_in s; y = coordinate_in (drop 4 s); z = coordinate_in (drop 8 s) }

-- behind the normal's 12 bytes
unfoldable pub triangle_in : List ℕ → Triangle
triangle_in s = record { a = corner_in (drop 12 s); b = corner_in (drop 24 s); c = corner_in (drop 36 s) }

-- n triangles of 50 bytes
unfoldable pub triangles_in : ℕ → List ℕ → List Triangle
triangles_in zero s = []
triangles_in (suc n) s = triangle_in s ∷ triangles_in n (drop 50 s)

-- W-209, "an 80-byte header, a 32-bit count, then 50 bytes for each triangle"
unfoldable pub count_in : List ℕ → ℕ
count_in s = number 4 (drop 80 s)

unfoldable pub stl_triangles : List ℕ → List Triangle
stl_triangles s = triangles_in (count_in s) (drop 84 s)

-- what "a length that does not fit the count" denies
unfoldable pub length_fits : List ℕ → Bool
length_fits s = eqb (length s) (84 + 50 * count_in s)

-- ---- what is met, one after the other: "Records are made in the order met"

module _ {A : Type 0} (same : A → A → Bool) where
  unfoldable pub known : A → List A → Bool
  known p [] = false
  known p (q ∷ l) = same p q || known p l

  -- how many stand before the first that is the same
  unfoldable pub which_of : A → List A → ℕ
  which_of p [] = 0
  which_of p (q ∷ l) = let n = suc (which_of p l) in cond (same p q) 0 n

  -- "the first met is stored"
  unfoldable pub met_behind : List A → List A → List A
  met_behind seen [] = seen
  met_behind seen (p ∷ l) = met_behind (cond (known p seen) seen (seen ++ (p ∷ []))) l

  abbrev pub all_met : List A → List A
  all_met l = met_behind [] l

-- "equal coordinates one vertex"; "Both zeros count as equal, .. and nothing else near is joined": IEEE 754's equality of floats
unfoldable pub same_point : Point3 → Point3 → Bool
same_point p q = eq p.x q.x && eq p.y q.y && eq p.z q.z

unfoldable pub corners : List Triangle → List Point3
corners [] = []
corners (t ∷ l) = t.a ∷ t.b ∷ t.c ∷ corners l

-- from a corner to the next of its triangle, by the vertices' numbers among those met
pub record Step : Type 0 where
  pub from : ℕ
  pub to : ℕ

abbrev pub step : ℕ → ℕ → Step
step u v = record { from = u; to = v }

abbrev pub same_step : Step → Step → Bool
same_step s t = eqb s.from t.from && eqb s.to t.to

-- "a loop from its first corner"
abbrev pub around : ℕ → ℕ → ℕ → List Step
around u v w = step u v ∷ step v w ∷ step w u ∷ []

unfoldable pub steps_of : List Point3 → List Triangle → List Step
steps_of points [] = []
steps_of points (t ∷ l) = around (which_of same_point t.a points) (which_of same_point t.b points) (which_of same_point t.c points) ++ steps_of points l

-- the edge of a step: "one edge for each unordered pair of vertices, running from the lower id to the higher"
abbrev pub rising : Step → Bool
rising s = leb s.from s.to

unfoldable pub edge_of : Step → Step
edge_of s = cond (rising s) s (step s.to s.from)

abbrev pub sense_of : Step → Sense
sense_of s = cond (rising s) positive negative

-- the vertices, the edges, the fins' steps and the number of each fin's edge, in the order met; "vertices already in the tables are not used"
pub record Mesh : Type 0 where
  pub triangles : ℕ
  pub points : List Point3
  pub steps : List Step
  pub edges : List Step
  pub edge_numbers : List ℕ

unfoldable pub mesh_of : List Triangle → Mesh
mesh_of l =
    let points = all_met same_point (corners l) in
    let steps = steps_of points l in
    let edges = all_met same_step (map edge_of steps) in
    record {
      triangles = length l;
      points = points;
      steps = steps;
      edges = edges;
      edge_numbers = map (λ s. which_of same_step (edge_of s) edges) steps;
    }

-- the fins of the edge e, the first fin's id being u
unfoldable pub fins_on : ℕ → ℕ → List ℕ → List ℕ
fins_on e u [] = []
fins_on e u (k ∷ l) = let rest = fins_on e (suc u) l in cond (eqb e k) (u ∷ rest) rest

-- ---- the body: "Build a solid body: one void and one solid region, one shell in each, a face for each triangle"

-- a place for `get_or`, of which nobody asks
abbrev pub nowhere : Point3
nowhere = record { x = zero_f; y = zero_f; z = zero_f }

-- the new records, the k-th of each kind, from 0. Of the regions and of the shells "The void comes first"
abbrev pub new_body : Model → Office → Body
new_body m o = record { kind = solid; office = o; regions = run m.regions.used 2 }

abbrev pub new_region : Model → ℕ → Region
new_region m k = record { body = m.bodies.used; solid = eqb k 1; shells = (m.shells.used + k) ∷ [] }

abbrev pub new_shell : Model → Mesh → ℕ → Shell
new_shell m t k = record { region = m.regions.used + k; faces = run m.faces.used t.triangles; wire_edges = []; acorn_vertices = [] }

-- "faces have its shell in front, the solid's at the back"; "There are no surfaces or curves yet"
abbrev pub new_face : Model → ℕ → Face
new_face m k = record { front = some m.shells.used; back = some (m.shells.used + 1); loops = (m.loops.used + k) ∷ []; surface = none; sense = positive }

abbrev pub new_loop : Model → ℕ → Loop
new_loop m k = record { face = m.faces.used + k; fins = run (m.fins.used + 3 * k) 3 }

abbrev pub new_fin : Model → Mesh → ℕ → Fin
new_fin m t k = record { owner = m.loops.used + k / 3; edge = m.edges.used + get_or t.edge_numbers k 0; sense = sense_of (get_or t.steps k (step 0 0)); pcurve = false }

abbrev pub edge_along : Model → List ℕ → Step → Edge
edge_along m fins s = record { fins = fins; start = some (m.vertices.used + s.from); end = some (m.vertices.used + s.to); curve = none; tolerance = Session }

abbrev pub new_edge : Model → Mesh → ℕ → Edge
new_edge m t k = edge_along m (fins_on k m.fins.used t.edge_numbers) (get_or t.edges k (step 0 0))

abbrev pub new_vertex : Mesh → ℕ → Vertex
new_vertex t k = record { point = get_or t.points k nowhere; tolerance = Session }

unfoldable pub built : Model → Office → Mesh → Model
built m o t =
    record {
      version = m.version;
      precision = m.precision;
      bodies = extended m.bodies 1 (λ k. new_body m o);
      regions = extended m.regions 2 (new_region m);
      shells = extended m.shells 2 (new_shell m t);
      faces = extended m.faces t.triangles (new_face m);
      loops = extended m.loops t.triangles (new_loop m);
      fins = extended m.fins (3 * t.triangles) (new_fin m t);
      edges = extended m.edges (length t.edges) (new_edge m t);
      vertices = extended m.vertices (length t.points) (new_vertex t);
      curves = m.curves;
      surfaces = m.surfaces;
    }

unfoldable pub after_read : Model → ℕ → List ℕ → Model
after_read m o s = built m (office_of o) (mesh_of (stl_triangles s))

-- ---- its refusals

-- what "a coordinate that is not finite" denies
unfoldable pub all_finite : List Point3 → Bool
all_finite [] = true
all_finite (p ∷ l) = finite_point p && all_finite l

-- what "a triangle with two equal corners" denies
unfoldable pub all_apart : List Triangle → Bool
all_apart [] = true
all_apart (t ∷ l) = not (same_point t.a t.b || same_point t.b t.c || same_point t.c t.a) && all_apart l

-- "capacity, an edge's ninth fin included": every table and every list has room
abbrev pub room_tests : Limits → Model → Mesh → List Bool
room_tests x m k =
    leb (m.bodies.used + 1) x.bodies
    ∷ leb (m.regions.used + 2) x.regions
    ∷ leb (m.shells.used + 2) x.shells
    ∷ leb (m.faces.used + k.triangles) x.faces
    ∷ leb (m.loops.used + k.triangles) x.loops
    ∷ leb (m.fins.used + 3 * k.triangles) x.fins
    ∷ leb (m.edges.used + length k.edges) x.edges
    ∷ leb (m.vertices.used + length k.points) x.vertices
    ∷ leb 2 x.body_regions
    ∷ leb 1 x.region_shells
    ∷ leb k.triangles x.shell_faces
    ∷ leb 1 x.face_loops
    ∷ leb 3 x.loop_fins
    ∷ all_below (λ e. leb (count e k.edge_numbers) x.edge_fins) (length k.edges)
    ∷ []

unfoldable pub has_room : Limits → Model → Mesh → Bool
has_room x m k = every (room_tests x m k)

-- "then 5 for a coordinate that is not finite, then 1 for a triangle with two equal corners, then 8 for capacity"
unfoldable pub triangles_refusal : Limits → Model → List Triangle → ℕ
triangles_refusal x m l =
    5 unless all_finite (corners l)
    then 1 unless all_apart l
    then 8 unless has_room x m (mesh_of l)

-- "9 for a length that does not fit the count", then W-206's "1 for an office above 1, right after 9"
unfoldable pub read_refusal : Limits → Model → ℕ → List ℕ → ℕ
read_refusal x m o s =
    9 unless length_fits s
    then office_refusal o
    then triangles_refusal x m (stl_triangles s)

-- the new body's id
abbrev pub read_stl : Limits → Model → ℕ → List ℕ → Answer ℕ
read_stl x m o s = answered (read_refusal x m o s) m.bodies.used

-- the model behind the call
unfoldable pub model_after_read : Limits → Model → ℕ → List ℕ → Model
model_after_read x m o s = where_accepted (read_refusal x m o s) m (after_read m o s)
