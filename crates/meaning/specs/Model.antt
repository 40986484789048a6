-- The model (entity.rs, arena.rs, model.rs): a record for each entity, and a table of each. Definitions only.
-- 01, "Ids are slot numbers from 0; nothing is removed".
use Rattle.std.specs.Prelude.{ℕ, ◌+◌, ◌-◌, Bool, cond, List, ltb, Float}
use Rattle.std.proofs.Math.Option.{Option}
use Rattle.float_vectors.specs.declared.vector.Point3.{Point3}
use Rattle.geom_lines_planes.specs.declared.tolerance.Tolerance.{Tolerance}
use Rattle.geom_lines_planes.specs.declared.tolerance.Version.{Version}
use Rattle.geom_carriers.specs.declared.Carrier.{Carrier}
use Rattle.geom_carriers.specs.Found.{Found}
use Rattle.std.specs.Prelude.{Some, None}

pub data BodyKind : Type 0 where
  acorn wire sheet solid general : BodyKind

pub data Sense : Type 0 where
  positive negative : Sense

-- W-206, "Each body carries an office number, 0 or 1"
pub data Office : Type 0 where
  office-0 office-1 : Office

pub record Body : Type 0 where
  pub kind : BodyKind
  pub office : Office
  pub regions : List ℕ

pub record Region : Type 0 where
  pub body : ℕ
  pub solid : Bool
  pub shells : List ℕ

pub record Shell : Type 0 where
  pub region : ℕ
  pub faces : List ℕ
  pub wire_edges : List ℕ
  pub acorn_vertices : List ℕ

pub record Face : Type 0 where
  pub front : Option ℕ
  pub back : Option ℕ
  pub loops : List ℕ
  pub surface : Option ℕ
  pub sense : Sense

pub record Loop : Type 0 where
  pub face : ℕ
  pub fins : List ℕ

-- 01, "pcurve contents (a fin only has a yes/no mark)"
pub record Fin : Type 0 where
  pub owner : ℕ
  pub edge : ℕ
  pub sense : Sense
  pub pcurve : Bool

pub record Edge : Type 0 where
  pub fins : List ℕ
  pub start : Option ℕ
  pub end : Option ℕ
  pub curve : Option ℕ
  pub tolerance : Tolerance

pub record Vertex : Type 0 where
  pub point : Point3
  pub tolerance : Tolerance

-- how many slots are used, and the record of each slot. Nobody reads the record of a slot that is not used
pub record Table (A : Type 0) : Type 0 where
  pub used : ℕ
  pub slot : ℕ → A

-- W-211, "A model names its version" of the drawing practice
pub record Model : Type 0 where
  pub version : Version
  pub precision : Float
  pub bodies : Table Body
  pub regions : Table Region
  pub shells : Table Shell
  pub faces : Table Face
  pub loops : Table Loop
  pub fins : Table Fin
  pub edges : Table Edge
  pub vertices : Table Vertex
  pub curves : Table Carrier
  pub surfaces : Table Carrier

module _ {A : Type 0} where
  -- the record exists
  abbrev pub has : Table A → ℕ → Bool
  has t i = ltb i t.used

  -- n records more, in the next slots: the k-th of them, from 0, is new k (Rust's `insert`)
  unfoldable pub extended : Table A → ℕ → (ℕ → A) → Table A
  extended t n new = record { used = t.used + n; slot = λ i. cond (ltb i t.used) (t.slot i) (new (i - t.used)) }

  -- each record changed by a function of its id
  unfoldable pub changed : Table A → (ℕ → A → A) → Table A
  changed t f = record { used = t.used; slot = λ i. f i (t.slot i) }

-- ---- the records by id

abbrev pub body : Model → ℕ → Body
body m i = m.bodies.slot i

abbrev pub region : Model → ℕ → Region
region m i = m.regions.slot i

abbrev pub shell : Model → ℕ → Shell
shell m i = m.shells.slot i

abbrev pub face : Model → ℕ → Face
face m i = m.faces.slot i

abbrev pub loop : Model → ℕ → Loop
loop m i = m.loops.slot i

abbrev pub fin : Model → ℕ → Fin
fin m i = m.fins.slot i

abbrev pub edge : Model → ℕ → Edge
edge m i = m.edges.slot i

abbrev pub vertex : Model → ℕ → Vertex
vertex m i = m.vertices.slot i

abbrev pub point_of : Model → ℕ → Point3
point_of m v = (vertex m v).point

-- what a table of carriers has under an id, which the queries of store.rs are asked about
unfoldable pub carrier_at : Table Carrier → ℕ → Found
carrier_at t i = cond (has t i) (Some (t.slot i)) None

abbrev pub curve : Model → ℕ → Found
curve m c = carrier_at m.curves c

abbrev pub surface : Model → ℕ → Found
surface m s = carrier_at m.surfaces s

-- ---- how many records each table holds, and how many entries each list

pub record Limits : Type 0 where
  pub bodies : ℕ
  pub regions : ℕ
  pub shells : ℕ
  pub faces : ℕ
  pub loops : ℕ
  pub fins : ℕ
  pub edges : ℕ
  pub vertices : ℕ
  pub curves : ℕ
  pub surfaces : ℕ
  pub body_regions : ℕ
  pub region_shells : ℕ
  pub shell_faces : ℕ
  pub shell_wire_edges : ℕ
  pub shell_acorn_vertices : ℕ
  pub face_loops : ℕ
  pub loop_fins : ℕ
  pub edge_fins : ℕ

-- 01, "Largest tables: 64 bodies, .."; "Lists: body 16 regions; .."
abbrev pub largest : Limits
largest =
    record {
      bodies = 64;
      regions = 128;
      shells = 128;
      faces = 512;
      loops = 512;
      fins = 4096;
      edges = 2048;
      vertices = 2048;
      curves = 2048;
      surfaces = 512;
      body_regions = 16;
      region_shells = 16;
      shell_faces = 512;
      shell_wire_edges = 256;
      shell_acorn_vertices = 64;
      face_loops = 16;
      loop_fins = 1024;
      edge_fins = 8;
    }
