-- The blade, a small model to be damaged, and models with one record changed.
use Rattle.std.specs.Prelude.{ℕ, ◌^◌, true, false, List, [], ◌∷◌, Float}
use Rattle.std.proofs.Math.Option.{Option, none, some}
use Rattle.std.specs.Float.Ieee.{neg}
use Rattle.float_vectors.specs.declared.vector.Point3.{Point3}
use Rattle.geom_lines_planes.specs.declared.tolerance.Tolerance.TheVariants.{Own, Session}
use Rattle.geom_lines_planes.specs.declared.tolerance.Version.{Version}
use Rattle.geom_lines_planes.specs.declared.tolerance.Version.TheVariants.{First}
use Rattle.geom_carriers.specs.declared.Carrier.{Carrier}
use Rattle.geom_carriers.specs.declared.Carrier.TheVariants as Carriers
use Rattle.meaning.specs.Floats.{◌/ᶠ◌, float_of}
use Rattle.meaning.specs.Model.{sheet, solid, office-0, positive, negative, Body, Region, Shell, Face, Loop, Fin, Edge, Vertex, Table, Model, Limits}
use Rattle.meaning.specs.Edits.{edited}
use Rattle.meaning.specs.Stone.{milli, at, way, line, plane, right, up, table_of, vertex_at, an_edge, a_fin, a_loop, a_shell, a_region, corner}

-- ---- the blade: a sheet of one face, whose loop runs along the edge A, from (0,0,0) to (4,0,0), and back

abbrev pub blade_face : Face
blade_face = record { front = some 0; back = none; loops = 0 ∷ []; surface = some 0; sense = positive }

abbrev pub blade : Model
blade =
    record {
      version = First;
      precision = milli;
      bodies = table_of (record { kind = sheet; office = office-0; regions = 0 ∷ [] }) [];
      regions = table_of (a_region 0 false (0 ∷ [])) [];
      shells = table_of (a_shell 0 (0 ∷ [])) [];
      faces = table_of blade_face [];
      loops = table_of (a_loop 0 (0 ∷ 1 ∷ [])) [];
      fins = table_of (a_fin 0 0 positive) (a_fin 0 0 negative ∷ []);
      edges = table_of (an_edge 0 0 1 (0 ∷ 1 ∷ [])) [];
      vertices = table_of (vertex_at (corner 0)) (vertex_at (corner 1) ∷ []);
      curves = table_of (line (corner 0) right) [];
      surfaces = table_of (plane (corner 0) up) [];
    }

-- ---- the wafer: the blade as a solid without a volume, its face between the void's shell 0 and the solid's shell 1. Shell 2 lists the face too and is none of the body's;
-- the second face, which has no loop, is listed nowhere

abbrev pub wafer_face : Option ℕ → Option ℕ → List ℕ → Face
wafer_face f b l = record { front = f; back = b; loops = l; surface = some 0; sense = positive }

abbrev pub wafer : Model
wafer =
    record {
      version = First;
      precision = milli;
      bodies = table_of (record { kind = solid; office = office-0; regions = 0 ∷ 1 ∷ [] }) [];
      regions = table_of (a_region 0 false (0 ∷ [])) (a_region 0 true (1 ∷ []) ∷ []);
      shells = table_of (a_shell 0 (0 ∷ [])) (a_shell 1 (0 ∷ []) ∷ a_shell 0 (0 ∷ []) ∷ []);
      faces = table_of (wafer_face (some 0) (some 1) (0 ∷ [])) (wafer_face none (some 1) [] ∷ []);
      loops = blade.loops;
      fins = blade.fins;
      edges = blade.edges;
      vertices = blade.vertices;
      curves = blade.curves;
      surfaces = blade.surfaces;
    }

-- ---- a row of a table: what is asked, and what is told

pub record Row (A B : Type 0) : Type 0 where
  pub input : A
  pub result : B

infix 20 ◌gives◌
abbrev pub ◌gives◌ : {A B : Type 0} → A → B → Row A B
a gives b = record { input = a; result = b }

-- ---- a model with one record changed

-- r in the slot i
abbrev pub put : {A : Type 0} → ℕ → A → Table A → Table A
put i r t = edited t i (λ old. r)

abbrev pub with_precision : Float → Model → Model
with_precision p m = record { version = m.version; precision = p; bodies = m.bodies; regions = m.regions; shells = m.shells; faces = m.faces; loops = m.loops; fins = m.fins; edges = m.edges; vertices = m.vertices; curves = m.curves; surfaces = m.surfaces }

abbrev pub with_version : Version → Model → Model
with_version v m = record { version = v; precision = m.precision; bodies = m.bodies; regions = m.regions; shells = m.shells; faces = m.faces; loops = m.loops; fins = m.fins; edges = m.edges; vertices = m.vertices; curves = m.curves; surfaces = m.surfaces }

abbrev pub with_bodies : Table Body → Model → Model
with_bodies t m = record { version = m.version; precision = m.precision; bodies = t; regions = m.regions; shells = m.shells; faces = m.faces; loops = m.loops; fins = m.fins; edges = m.edges; vertices = m.vertices; curves = m.curves; surfaces = m.surfaces }

abbrev pub with_body : ℕ → Body → Model → Model
with_body i r m = record { version = m.version; precision = m.precision; bodies = put i r m.bodies; regions = m.regions; shells = m.shells; faces = m.faces; loops = m.loops; fins = m.fins; edges = m.edges; vertices = m.vertices; curves = m.curves; surfaces = m.surfaces }

abbrev pub with_region : ℕ → Region → Model → Model
with_region i r m = record { version = m.version; precision = m.precision; bodies = m.bodies; regions = put i r m.regions; shells = m.shells; faces = m.faces; loops = m.loops; fins = m.fins; edges = m.edges; vertices = m.vertices; curves = m.curves; surfaces = m.surfaces }

abbrev pub with_shell : ℕ → Shell → Model → Model
with_shell i r m = record { version = m.version; precision = m.precision; bodies = m.bodies; regions = m.regions; shells = put i r m.shells; faces = m.faces; loops = m.loops; fins = m.fins; edges = m.edges; vertices = m.vertices; curves = m.curves; surfaces = m.surfaces }

abbrev pub with_face : ℕ → Face → Model → Model
with_face i r m = record { version = m.version; precision = m.precision; bodies = m.bodies; regions = m.regions; shells = m.shells; faces = put i r m.faces; loops = m.loops; fins = m.fins; edges = m.edges; vertices = m.vertices; curves = m.curves; surfaces = m.surfaces }

abbrev pub with_loop : ℕ → Loop → Model → Model
with_loop i r m = record { version = m.version; precision = m.precision; bodies = m.bodies; regions = m.regions; shells = m.shells; faces = m.faces; loops = put i r m.loops; fins = m.fins; edges = m.edges; vertices = m.vertices; curves = m.curves; surfaces = m.surfaces }

abbrev pub with_fin : ℕ → Fin → Model → Model
with_fin i r m = record { version = m.version; precision = m.precision; bodies = m.bodies; regions = m.regions; shells = m.shells; faces = m.faces; loops = m.loops; fins = put i r m.fins; edges = m.edges; vertices = m.vertices; curves = m.curves; surfaces = m.surfaces }

abbrev pub with_edge : ℕ → Edge → Model → Model
with_edge i r m = record { version = m.version; precision = m.precision; bodies = m.bodies; regions = m.regions; shells = m.shells; faces = m.faces; loops = m.loops; fins = m.fins; edges = put i r m.edges; vertices = m.vertices; curves = m.curves; surfaces = m.surfaces }

abbrev pub with_vertex : ℕ → Vertex → Model → Model
with_vertex i r m = record { version = m.version; precision = m.precision; bodies = m.bodies; regions = m.regions; shells = m.shells; faces = m.faces; loops = m.loops; fins = m.fins; edges = m.edges; vertices = put i r m.vertices; curves = m.curves; surfaces = m.surfaces }

abbrev pub with_curve : ℕ → Carrier → Model → Model
with_curve i r m = record { version = m.version; precision = m.precision; bodies = m.bodies; regions = m.regions; shells = m.shells; faces = m.faces; loops = m.loops; fins = m.fins; edges = m.edges; vertices = m.vertices; curves = put i r m.curves; surfaces = m.surfaces }

abbrev pub with_surface : ℕ → Carrier → Model → Model
with_surface i r m = record { version = m.version; precision = m.precision; bodies = m.bodies; regions = m.regions; shells = m.shells; faces = m.faces; loops = m.loops; fins = m.fins; edges = m.edges; vertices = m.vertices; curves = m.curves; surfaces = put i r m.surfaces }

-- ---- the blade changed

abbrev pub quarter : Float
quarter = float_of 1 /ᶠ float_of 4

-- the blade's body, and the same as a solid
abbrev pub regions_are : List ℕ → Model → Model
regions_are l = with_body 0 (record { kind = sheet; office = office-0; regions = l })

abbrev pub as_solid : Model → Model
as_solid = with_body 0 (record { kind = solid; office = office-0; regions = 0 ∷ [] })

-- the blade's edge: ends, curve, fins
abbrev pub edge_is : Option ℕ → Option ℕ → Option ℕ → List ℕ → Model → Model
edge_is a b c l = with_edge 0 (record { fins = l; start = a; end = b; curve = c; tolerance = Session })

abbrev pub ends_are : Option ℕ → Option ℕ → Model → Model
ends_are a b = edge_is a b (some 0) (0 ∷ 1 ∷ [])

abbrev pub curve_is : Option ℕ → Model → Model
curve_is c = edge_is (some 0) (some 1) c (0 ∷ 1 ∷ [])

abbrev pub fins_are : List ℕ → Model → Model
fins_are = edge_is (some 0) (some 1) (some 0)

-- the blade's face: front, back, loops, surface
abbrev pub face_is : Option ℕ → Option ℕ → List ℕ → Option ℕ → Model → Model
face_is f b l s = with_face 0 (record { front = f; back = b; loops = l; surface = s; sense = positive })

abbrev pub surface_is : Option ℕ → Model → Model
surface_is = face_is (some 0) none (0 ∷ [])

abbrev pub loops_are : List ℕ → Model → Model
loops_are l = face_is (some 0) none l (some 0)

-- the blade's shell: faces, wire edges, acorn vertices
abbrev pub shell_is : ℕ → List ℕ → List ℕ → List ℕ → Model → Model
shell_is i f w a = with_shell i (record { region = i; faces = f; wire_edges = w; acorn_vertices = a })

-- the wafer as a sheet; its second region, second shell and face
abbrev pub as_sheet : Model → Model
as_sheet = with_body 0 (record { kind = sheet; office = office-0; regions = 0 ∷ 1 ∷ [] })

abbrev pub all_void : Model → Model
all_void = with_region 1 (a_region 0 false (1 ∷ []))

abbrev pub solid_shells : List ℕ → Model → Model
solid_shells l = with_region 1 (a_region 0 true l)

abbrev pub solid_faces : List ℕ → Model → Model
solid_faces l = with_shell 1 (a_shell 1 l)

abbrev pub back_is : ℕ → Model → Model
back_is s = with_face 0 (wafer_face (some 0) (some s) (0 ∷ []))

-- the start, and the end, elsewhere
abbrev pub start_at : Point3 → Model → Model
start_at p = with_vertex 0 (vertex_at p)

abbrev pub end_at : Point3 → Model → Model
end_at p = with_vertex 1 (vertex_at p)

abbrev pub on_axis : Float → Point3
on_axis x = at x (float_of 0) (float_of 0)

abbrev pub other_curve : Model → Model
other_curve = with_curve 0 Carriers.Other

abbrev pub other_surface : Model → Model
other_surface = with_surface 0 Carriers.Other

-- the edge's own tolerance
abbrev pub tolerant_edge : Float → Model → Model
tolerant_edge t = with_edge 0 (record { fins = 0 ∷ 1 ∷ []; start = some 0; end = some 1; curve = some 0; tolerance = Own t })

-- an edge from (100,0,0) to (103,4,0) on an upright plane, with the tolerance 2^-48: both ends are on the plane, and what lies between is rounded
abbrev pub askew : Model
askew =
    tolerant_edge (float_of 1 /ᶠ float_of (2 ^ 48))
    (start_at (on_axis (float_of 100))
    (end_at (at (float_of 103) (float_of 4) (float_of 0))
    (with_curve 0 (line (on_axis (float_of 100)) (way (float_of 3 /ᶠ float_of 5) (float_of 4 /ᶠ float_of 5) (float_of 0)))
    (with_surface 0 (plane (on_axis (float_of 100)) (way (float_of 4 /ᶠ float_of 5) (neg (float_of 3 /ᶠ float_of 5)) (float_of 0))) blade))))

-- tables of so many fins, edges, vertices; lists of so many wire edges, fins of a loop, fins of an edge
abbrev pub room : ℕ → ℕ → ℕ → ℕ → ℕ → ℕ → Limits
room f e v w l k =
    record {
      bodies = 1;
      regions = 1;
      shells = 1;
      faces = 1;
      loops = 1;
      fins = f;
      edges = e;
      vertices = v;
      curves = 1;
      surfaces = 1;
      body_regions = 1;
      region_shells = 1;
      shell_faces = 1;
      shell_wire_edges = w;
      shell_acorn_vertices = 1;
      face_loops = 1;
      loop_fins = l;
      edge_fins = k;
    }
