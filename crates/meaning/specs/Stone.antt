-- The trial stone as a model (01, "Trial stone").
use Rattle.std.specs.Prelude.{ℕ, Bool, true, false, List, [], ◌∷◌, length, get_or, Float}
use Rattle.std.proofs.Math.Option.{some}
use Rattle.std.specs.Float.{binary64}
use Rattle.std.specs.Float.Ieee.{round, neg}
use Rattle.float_vectors.specs.declared.vector.Point3.{Point3}
use Rattle.float_vectors.specs.declared.vector.Vec3.{Vec3}
use Rattle.geom_lines_planes.specs.declared.tolerance.Tolerance.TheVariants.{Session}
use Rattle.geom_lines_planes.specs.declared.tolerance.Version.TheVariants.{First}
use Rattle.geom_carriers.specs.declared.Carrier.{Carrier}
use Rattle.geom_carriers.specs.declared.Carrier.TheVariants as Carriers
use Rattle.meaning.specs.Floats.{float_of}
use Rattle.meaning.specs.Model.{solid, office-0, Sense, positive, negative, Region, Shell, Face, Loop, Fin, Edge, Vertex, Table, Model}

-- ---- floats, points, carriers

-- 0.001: the float nearest to 1 / 1000
abbrev pub milli : Float
milli = round binary64 false 1 1000

abbrev pub at : Float → Float → Float → Point3
at x y z = record { x = x; y = y; z = z }

abbrev pub way : Float → Float → Float → Vec3
way x y z = record { x = x; y = y; z = z }

abbrev pub line : Point3 → Vec3 → Carrier
line o d = Carriers.Line (record { origin = o; direction = d })

abbrev pub plane : Point3 → Vec3 → Carrier
plane o n = Carriers.Plane (record { origin = o; normal = n })

abbrev pub right : Vec3
right = way (float_of 1) (float_of 0) (float_of 0)

abbrev pub left : Vec3
left = way (neg (float_of 1)) (float_of 0) (float_of 0)

abbrev pub aft : Vec3
aft = way (float_of 0) (float_of 1) (float_of 0)

abbrev pub fore : Vec3
fore = way (float_of 0) (neg (float_of 1)) (float_of 0)

abbrev pub up : Vec3
up = way (float_of 0) (float_of 0) (float_of 1)

abbrev pub down : Vec3
down = way (float_of 0) (float_of 0) (neg (float_of 1))

-- ---- records

-- a table of a list of records. A slot beyond them, of which nobody asks, has the first
abbrev pub table_of : {A : Type 0} → A → List A → Table A
table_of d l = let all = d ∷ l in record { used = length all; slot = λ i. get_or all i d }

abbrev pub vertex_at : Point3 → Vertex
vertex_at p = record { point = p; tolerance = Session }

-- curve, start, end, fins
abbrev pub an_edge : ℕ → ℕ → ℕ → List ℕ → Edge
an_edge c a b l = record { fins = l; start = some a; end = some b; curve = some c; tolerance = Session }

abbrev pub a_fin : ℕ → ℕ → Sense → Fin
a_fin l e s = record { owner = l; edge = e; sense = s; pcurve = false }

abbrev pub a_loop : ℕ → List ℕ → Loop
a_loop f l = record { face = f; fins = l }

abbrev pub a_shell : ℕ → List ℕ → Shell
a_shell r l = record { region = r; faces = l; wire_edges = []; acorn_vertices = [] }

abbrev pub a_region : ℕ → Bool → List ℕ → Region
a_region b s l = record { body = b; solid = s; shells = l }

-- ---- 01, "A box from (0,0,0) to (4,3,2), all edges running along an increasing axis, precision 0.001, no own tolerances. Edge A runs
-- (0,0,0) to (4,0,0)". Edge 0 is A. Corner i is at x = 4 where i has bit 0, y = 3 for bit 1, z = 2 for bit 2

abbrev pub corner : ℕ → Point3
corner i =
    get_or
    (at (float_of 0) (float_of 0) (float_of 0)
    ∷ at (float_of 4) (float_of 0) (float_of 0)
    ∷ at (float_of 0) (float_of 3) (float_of 0)
    ∷ at (float_of 4) (float_of 3) (float_of 0)
    ∷ at (float_of 0) (float_of 0) (float_of 2)
    ∷ at (float_of 4) (float_of 0) (float_of 2)
    ∷ at (float_of 0) (float_of 3) (float_of 2)
    ∷ at (float_of 4) (float_of 3) (float_of 2)
    ∷ [])
    i
    (at (float_of 0) (float_of 0) (float_of 0))

-- the front looks into the void's shell 0, the back into the material's shell 1
abbrev pub stone_face : ℕ → Face
stone_face i = record { front = some 0; back = some 1; loops = i ∷ []; surface = some i; sense = positive }

abbrev corner_vertex : ℕ → Vertex
corner_vertex i = vertex_at (corner i)

abbrev pub stone : Model
stone =
    record {
      version = First;
      precision = milli;
      bodies = table_of (record { kind = solid; office = office-0; regions = 0 ∷ 1 ∷ [] }) [];
      regions = table_of (a_region 0 false (0 ∷ [])) (a_region 0 true (1 ∷ []) ∷ []);
      shells = table_of (a_shell 0 (0 ∷ 1 ∷ 2 ∷ 3 ∷ 4 ∷ 5 ∷ [])) (a_shell 1 (0 ∷ 1 ∷ 2 ∷ 3 ∷ 4 ∷ 5 ∷ []) ∷ []);
      faces = table_of (stone_face 0) (stone_face 1 ∷ stone_face 2 ∷ stone_face 3 ∷ stone_face 4 ∷ stone_face 5 ∷ []);
      loops =
          table_of (a_loop 0 (0 ∷ 1 ∷ 2 ∷ 3 ∷ []))
          (a_loop 1 (4 ∷ 5 ∷ 6 ∷ 7 ∷ [])
          ∷ a_loop 2 (8 ∷ 9 ∷ 10 ∷ 11 ∷ [])
          ∷ a_loop 3 (12 ∷ 13 ∷ 14 ∷ 15 ∷ [])
          ∷ a_loop 4 (16 ∷ 17 ∷ 18 ∷ 19 ∷ [])
          ∷ a_loop 5 (20 ∷ 21 ∷ 22 ∷ 23 ∷ [])
          ∷ []);
      fins =
          table_of (a_fin 0 4 positive)
          (a_fin 0 1 positive ∷ a_fin 0 5 negative ∷ a_fin 0 0 negative
          ∷ a_fin 1 2 positive ∷ a_fin 1 7 positive ∷ a_fin 1 3 negative ∷ a_fin 1 6 negative
          ∷ a_fin 2 0 positive ∷ a_fin 2 9 positive ∷ a_fin 2 2 negative ∷ a_fin 2 8 negative
          ∷ a_fin 3 10 positive ∷ a_fin 3 3 positive ∷ a_fin 3 11 negative ∷ a_fin 3 1 negative
          ∷ a_fin 4 8 positive ∷ a_fin 4 6 positive ∷ a_fin 4 10 negative ∷ a_fin 4 4 negative
          ∷ a_fin 5 5 positive ∷ a_fin 5 11 positive ∷ a_fin 5 7 negative ∷ a_fin 5 9 negative
          ∷ []);
      edges =
          table_of (an_edge 0 0 1 (3 ∷ 8 ∷ []))
          (an_edge 1 2 3 (1 ∷ 15 ∷ [])
          ∷ an_edge 2 4 5 (4 ∷ 10 ∷ [])
          ∷ an_edge 3 6 7 (6 ∷ 13 ∷ [])
          ∷ an_edge 4 0 2 (0 ∷ 19 ∷ [])
          ∷ an_edge 5 1 3 (2 ∷ 20 ∷ [])
          ∷ an_edge 6 4 6 (7 ∷ 17 ∷ [])
          ∷ an_edge 7 5 7 (5 ∷ 22 ∷ [])
          ∷ an_edge 8 0 4 (11 ∷ 16 ∷ [])
          ∷ an_edge 9 1 5 (9 ∷ 23 ∷ [])
          ∷ an_edge 10 2 6 (12 ∷ 18 ∷ [])
          ∷ an_edge 11 3 7 (14 ∷ 21 ∷ [])
          ∷ []);
      vertices =
          table_of (corner_vertex 0)
          (corner_vertex 1 ∷ corner_vertex 2 ∷ corner_vertex 3 ∷ corner_vertex 4 ∷ corner_vertex 5 ∷ corner_vertex 6 ∷ corner_vertex 7 ∷ []);
      curves =
          table_of (line (corner 0) right)
          (line (corner 2) right ∷ line (corner 4) right ∷ line (corner 6) right
          ∷ line (corner 0) aft ∷ line (corner 1) aft ∷ line (corner 4) aft ∷ line (corner 5) aft
          ∷ line (corner 0) up ∷ line (corner 1) up ∷ line (corner 2) up ∷ line (corner 3) up
          ∷ []);
      surfaces =
          table_of (plane (corner 0) down)
          (plane (corner 4) up ∷ plane (corner 0) fore ∷ plane (corner 2) aft ∷ plane (corner 0) left ∷ plane (corner 1) right ∷ []);
    }
