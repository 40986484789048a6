-- What an insert and an edit change in the model, by the table's number. Definitions only.
-- Two models are the same when each table has as many records, and the same under each id that is used: nobody reads the others.
use Rattle.std.specs.Prelude.{ℕ, ◌<◌, ◌≡◌, cond, List, eqb, Float}
use Rattle.geom_carriers.specs.declared.Carrier.{Carrier}
use Rattle.meaning.specs.Model.{Model, Table, Body, Region, Shell, Face, Loop, Fin, Edge, Vertex}
use Rattle.meaning.specs.Edits.{inserted, edited}
use Rattle.memory_layout.specs.Names.{BODIES, REGIONS, SHELLS, FACES, LOOPS, FINS, EDGES, VERTICES, CURVES, SURFACES}
use Rattle.memory_layout.specs.Decode.{body_of, region_of, shell_of, face_of, loop_of, fin_of, edge_of, vertex_of, carrier_of}

pub record SameTable {A : Type 0} (t u : Table A) : Type 0 where
  pub used : t.used ≡ u.used
  pub slots : (i : ℕ) → i < t.used → t.slot i ≡ u.slot i

pub record SameModel (m n : Model) : Type 0 where
  pub version : m.version ≡ n.version
  pub precision : m.precision ≡ n.precision
  pub bodies : SameTable m.bodies n.bodies
  pub regions : SameTable m.regions n.regions
  pub shells : SameTable m.shells n.shells
  pub faces : SameTable m.faces n.faces
  pub loops : SameTable m.loops n.loops
  pub fins : SameTable m.fins n.fins
  pub edges : SameTable m.edges n.edges
  pub vertices : SameTable m.vertices n.vertices
  pub curves : SameTable m.curves n.curves
  pub surfaces : SameTable m.surfaces n.surfaces

-- a change of each table, by its number, where r and s are the words and floats of a record
abbrev each : ((A : Type 0) → ℕ → Table A → A → Table A) → List ℕ → List Float → Model → Model
each f r s m =
    record {
      version = m.version;
      precision = m.precision;
      bodies = f Body BODIES m.bodies (body_of r);
      regions = f Region REGIONS m.regions (region_of r);
      shells = f Shell SHELLS m.shells (shell_of r);
      faces = f Face FACES m.faces (face_of r);
      loops = f Loop LOOPS m.loops (loop_of r);
      fins = f Fin FINS m.fins (fin_of r);
      edges = f Edge EDGES m.edges (edge_of r s);
      vertices = f Vertex VERTICES m.vertices (vertex_of r s);
      curves = f Carrier CURVES m.curves (carrier_of r s);
      surfaces = f Carrier SURFACES m.surfaces (carrier_of r s);
    }

-- record i of table k is the one of the words r and the floats s
abbrev pub with_record : ℕ → ℕ → List ℕ → List Float → Model → Model
with_record k i r s m = each (λ A q t a. cond (eqb q k) (edited t i (λ _. a)) t) r s m

-- table k has one record more, that of the words r and the floats s
abbrev pub with_one_more : ℕ → List ℕ → List Float → Model → Model
with_one_more k r s m = each (λ A q t a. cond (eqb q k) (inserted t a) t) r s m
