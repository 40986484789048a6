-- The image of a model, and the model in an image (W-202, W-211). Definitions only.
-- "The precision's record comes first, then the tables in one fixed order, records in id order." The precision's record has the ten used counts too, so that an image that was cut off between two
-- records is a short one. "A version 2 model's image begins with one more record, with a mark of its own and the version."
use Rattle.std.specs.Prelude.{ℕ, zero, suc, Bool, true, cond, ◌&&◌, List, [], ◌∷◌, ◌++◌, eqb, leb, length, drop}
use Rattle.geom_lines_planes.specs.declared.tolerance.Version.{Version}
use Rattle.geom_lines_planes.specs.declared.tolerance.Version.TheVariants.{First, Second}
use Rattle.meaning.specs.Lists.{run, joined, all_below, every}
use Rattle.meaning.specs.Model.{Model, Table, largest, office-0, Body, Region, Shell, Face, Loop, Edge, Vertex}
use Rattle.meaning.specs.Edits.{tolerance_ok, precision_ok}
use Rattle.memory_layout.specs.Names.{BODIES, REGIONS, SHELLS, FACES, LOOPS, FINS, EDGES, VERTICES, CURVES, SURFACES, PRECISION}
use Rattle.memory_layout.specs.Layout.{word, real}
use Rattle.memory_layout.specs.Laid.{rooms, version_tag}
use Rattle.image_format.specs.Bytes.{number, same_bytes}
use Rattle.image_format.specs.Fields.{Fields, PRECISION_RECORD, VERSION_RECORD, marks, record_image, fields_in, behind, body_fields, region_fields, shell_fields, face_fields, loop_fields, fin_fields, edge_fields, vertex_fields, carrier_fields, body_in, region_in, shell_in, face_in, loop_in, fin_in, edge_in, vertex_in, carrier_in}

-- ---- written

abbrev pub precision_fields : Model → Fields
precision_fields m = record { office = office-0; words = rooms m; floats = m.precision ∷ []; lists = [] }

-- the records of table k in id order
unfoldable pub table_image : {A : Type 0} → ℕ → (A → Fields) → Table A → List ℕ
table_image k fields t = joined (λ i. record_image k (fields (t.slot i))) (run 0 t.used)

-- the precision's record, then the tables
unfoldable pub records_image : Model → List ℕ
records_image m =
    record_image PRECISION_RECORD (precision_fields m)
    ++ table_image BODIES body_fields m.bodies
    ++ table_image REGIONS region_fields m.regions
    ++ table_image SHELLS shell_fields m.shells
    ++ table_image FACES face_fields m.faces
    ++ table_image LOOPS loop_fields m.loops
    ++ table_image FINS fin_fields m.fins
    ++ table_image EDGES edge_fields m.edges
    ++ table_image VERTICES vertex_fields m.vertices
    ++ table_image CURVES carrier_fields m.curves
    ++ table_image SURFACES carrier_fields m.surfaces

-- "with a mark of its own and the version": "A version 1 model is written as before", with no such record
unfoldable pub version_image : Version → List ℕ
version_image First = []
version_image Second = record_image VERSION_RECORD (record { office = office-0; words = version_tag Second ∷ []; floats = []; lists = [] })

unfoldable pub image_of : Model → List ℕ
image_of m = version_image m.version ++ records_image m

-- ---- the precision's record and the tables read, whatever the bytes b are

-- how many records of table k the precision's record names
unfoldable pub count_in : List ℕ → ℕ → ℕ
count_in b k = word (fields_in PRECISION_RECORD b).words k

-- the bytes behind n records of table k
unfoldable pub behind_records : ℕ → ℕ → List ℕ → List ℕ
behind_records k zero s = s
behind_records k (suc n) s = behind k (behind_records k n s)

-- the bytes where table k begins
unfoldable pub table_bytes : List ℕ → ℕ → List ℕ
table_bytes b zero = behind PRECISION_RECORD b
table_bytes b (suc k) = behind_records k (count_in b k) (table_bytes b k)

-- record i of table k
unfoldable pub fields_at : List ℕ → ℕ → ℕ → Fields
fields_at b k i = fields_in k (behind_records k i (table_bytes b k))

module _ (b : List ℕ) where
  abbrev pub table_in : {A : Type 0} → ℕ → (Fields → A) → Table A
  table_in k of = record { used = count_in b k; slot = λ i. of (fields_at b k i) }

  unfoldable pub model_of : Version → Model
  model_of v =
      record {
        version = v;
        precision = real (fields_in PRECISION_RECORD b).floats PRECISION;
        bodies = table_in BODIES body_in;
        regions = table_in REGIONS region_in;
        shells = table_in SHELLS shell_in;
        faces = table_in FACES face_in;
        loops = table_in LOOPS loop_in;
        fins = table_in FINS fin_in;
        edges = table_in EDGES edge_in;
        vertices = table_in VERTICES vertex_in;
        curves = table_in CURVES carrier_in;
        surfaces = table_in SURFACES carrier_in;
      }

-- ---- an image read, whatever the bytes b are

-- version 2 where they begin with the mark of its record; "old images are read as version 1"
unfoldable pub version_in : List ℕ → Version
version_in b = cond (eqb (number 2 b) (word marks VERSION_RECORD)) Second First

-- the bytes behind that record, all of them where there is none
unfoldable pub records_in : List ℕ → List ℕ
records_in b = drop (length (version_image (version_in b))) b

unfoldable pub model_in : List ℕ → Model
model_in b = model_of (records_in b) (version_in b)

-- ---- accepted

-- no list is "above a limit", and no "tolerance that document 01's refusal 9 names"
abbrev pub body_held : Body → Bool
body_held r = leb (length r.regions) largest.body_regions

abbrev pub region_held : Region → Bool
region_held r = leb (length r.shells) largest.region_shells

abbrev pub shell_held : Shell → Bool
shell_held r =
    leb (length r.faces) largest.shell_faces && leb (length r.wire_edges) largest.shell_wire_edges && leb (length r.acorn_vertices) largest.shell_acorn_vertices

abbrev pub face_held : Face → Bool
face_held r = leb (length r.loops) largest.face_loops

abbrev pub loop_held : Loop → Bool
loop_held r = leb (length r.fins) largest.loop_fins

abbrev pub edge_held : Edge → Bool
edge_held r = leb (length r.fins) largest.edge_fins && tolerance_ok r.tolerance

abbrev pub vertex_held : Vertex → Bool
vertex_held r = tolerance_ok r.tolerance

abbrev pub every_record : {A : Type 0} → (A → Bool) → ℕ → Table A → Bool
every_record held limit t = leb t.used limit && all_below (λ i. held (t.slot i)) t.used

-- a model that 01's tables hold
unfoldable pub held : Model → Bool
held m =
    every (
    precision_ok m.precision
    ∷ every_record body_held largest.bodies m.bodies
    ∷ every_record region_held largest.regions m.regions
    ∷ every_record shell_held largest.shells m.shells
    ∷ every_record face_held largest.faces m.faces
    ∷ every_record loop_held largest.loops m.loops
    ∷ every_record (λ _. true) largest.fins m.fins
    ∷ every_record edge_held largest.edges m.edges
    ∷ every_record vertex_held largest.vertices m.vertices
    ∷ every_record (λ _. true) largest.curves m.curves
    ∷ every_record (λ _. true) largest.surfaces m.surfaces
    ∷ []
    )

-- "an image that the reader accepts is the one the writer makes": a short image, a wrong mark, an unknown tag, another spelling of what a model does not say, a version
-- record that "names anything but 2", and bytes left over make another one
unfoldable pub accepted : List ℕ → Bool
accepted b = held (model_in b) && same_bytes (image_of (model_in b)) b
