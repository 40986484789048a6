-- A record's image (W-202, "each record starts with a two-byte mark that names its table, then fixed fields, little-endian, floats as their bits, lists with a count"). Definitions only.
-- The fixed fields are numbers of 32 bits, then floats. What a model does not say has one spelling, zero: the id of none, the own tolerance of one that has the session's, the floats of a carrier
-- that is neither a line nor a plane. W-206: "W-202 writes office 1's bodies under a second body mark, so old images read as office 0."
use Rattle.std.specs.Prelude.{ℕ, ◌+◌, ◌*◌, cond, ◌&&◌, List, [], ◌∷◌, ◌++◌, eqb, length, get_or, drop, Float}
use Rattle.geom_carriers.specs.declared.Carrier.{Carrier}
use Rattle.meaning.specs.Model.{largest, Office, office-0, office-1, Body, Region, Shell, Face, Loop, Fin, Edge, Vertex}
use Rattle.memory_layout.specs.Names.{BODIES, AT_BODY_KIND, AT_BODY_REGIONS, AT_REGION_BODY, AT_REGION_SOLID, AT_REGION_SHELLS, AT_SHELL_REGION, AT_SHELL_FACES, AT_SHELL_WIRES, AT_SHELL_ACORNS, AT_FACE_FRONT, AT_FACE_BACK, AT_FACE_SURFACE, AT_FACE_SENSE, AT_FACE_LOOPS, AT_LOOP_FACE, AT_LOOP_FINS, AT_FIN_LOOP, AT_FIN_EDGE, AT_FIN_SENSE, AT_FIN_PCURVE, AT_EDGE_START, AT_EDGE_END, AT_EDGE_CURVE, AT_EDGE_TOLERANCE, AT_EDGE_FINS, FLOAT_EDGE_TOLERANCE}
use Rattle.memory_layout.specs.Layout.{word, real}
use Rattle.memory_layout.specs.Decode.{kind_of, sense_of, flag_at, maybe_at, tolerance_of, vertex_of, carrier_of}
use Rattle.memory_layout.specs.Laid.{bit, sense, kind, maybe, tag, own, coordinates, carrier_tag, carrier_reals}
use Rattle.image_format.specs.Bytes.{little, words, floats, lists, number, words_in, floats_in, lists_in}

-- what stands in a record, and the office whose mark it stands under: its own of a body, 0 of all others
pub record Fields : Type 0 where
  pub office : Office
  pub words : List ℕ
  pub floats : List Float
  pub lists : List (List ℕ)

-- ---- by table, and last the precision's record and the version's: two letters, the first in the lower byte; how many numbers, floats and lists

abbrev pub PRECISION_RECORD : ℕ
PRECISION_RECORD = 10

abbrev pub VERSION_RECORD : ℕ
VERSION_RECORD = 11

-- BO, RE, SH, FA, LO, FI, ED, VE, CU, SU; PR, VN
abbrev pub marks : List ℕ
marks = 0x4f42 ∷ 0x4552 ∷ 0x4853 ∷ 0x4146 ∷ 0x4f4c ∷ 0x4946 ∷ 0x4445 ∷ 0x4556 ∷ 0x5543 ∷ 0x5553 ∷ 0x5250 ∷ 0x4e56 ∷ []

-- "a second body mark": BP
abbrev pub SECOND_BODY_MARK : ℕ
SECOND_BODY_MARK = 0x5042

-- by table and office
abbrev pub mark_of : ℕ → Office → ℕ
mark_of k office-0 = word marks k
mark_of k office-1 = SECOND_BODY_MARK

abbrev pub word_counts : List ℕ
word_counts = 1 ∷ 2 ∷ 1 ∷ 7 ∷ 1 ∷ 4 ∷ 7 ∷ 1 ∷ 1 ∷ 1 ∷ 10 ∷ 1 ∷ []

abbrev pub float_counts : List ℕ
float_counts = 0 ∷ 0 ∷ 0 ∷ 0 ∷ 0 ∷ 0 ∷ 1 ∷ 4 ∷ 6 ∷ 6 ∷ 1 ∷ 0 ∷ []

abbrev pub list_counts : List ℕ
list_counts = 1 ∷ 1 ∷ 3 ∷ 1 ∷ 1 ∷ 0 ∷ 1 ∷ 0 ∷ 0 ∷ 0 ∷ 0 ∷ 0 ∷ []

-- and the places of those lists among the words of a record of the lent memory; the numbers stand at its front
abbrev pub list_places_of : List (List ℕ)
list_places_of =
    (AT_BODY_REGIONS ∷ [])
    ∷ (AT_REGION_SHELLS ∷ [])
    ∷ (AT_SHELL_FACES ∷ AT_SHELL_WIRES ∷ AT_SHELL_ACORNS ∷ [])
    ∷ (AT_FACE_LOOPS ∷ [])
    ∷ (AT_LOOP_FINS ∷ [])
    ∷ []
    ∷ (AT_EDGE_FINS ∷ [])
    ∷ []

-- how long each of those lists may be
abbrev pub list_limits_of : List (List ℕ)
list_limits_of =
    (largest.body_regions ∷ [])
    ∷ (largest.region_shells ∷ [])
    ∷ (largest.shell_faces ∷ largest.shell_wire_edges ∷ largest.shell_acorn_vertices ∷ [])
    ∷ (largest.face_loops ∷ [])
    ∷ (largest.loop_fins ∷ [])
    ∷ []
    ∷ (largest.edge_fins ∷ [])
    ∷ []

-- ---- a record of table k as bytes

unfoldable pub record_image : ℕ → Fields → List ℕ
record_image k f = little 2 (mark_of k f.office) ++ words f.words ++ floats f.floats ++ lists f.lists

-- the office that a mark tells; "so old images read as office 0"
abbrev pub office_in : ℕ → ℕ → Office
office_in k n = cond (eqb k BODIES && eqb n SECOND_BODY_MARK) office-1 office-0

-- the fields of a record of table k that begins with the first of the bytes s, whatever its mark is
unfoldable pub fields_in : ℕ → List ℕ → Fields
fields_in k s =
    let n = 2 + 4 * word word_counts k in
    let l = n + 8 * word float_counts k in
    record {
      office = office_in k (number 2 s);
      words = words_in (word word_counts k) (drop 2 s);
      floats = floats_in (word float_counts k) (drop n s);
      lists = lists_in (word list_counts k) (drop l s);
    }

-- the bytes behind that record
unfoldable pub behind : ℕ → List ℕ → List ℕ
behind k s = drop (length (record_image k (fields_in k s))) s

-- ---- the fields of each record

abbrev pub body_fields : Body → Fields
body_fields r = record { office = r.office; words = kind r.kind ∷ []; floats = []; lists = r.regions ∷ [] }

abbrev pub region_fields : Region → Fields
region_fields r = record { office = office-0; words = r.body ∷ bit r.solid ∷ []; floats = []; lists = r.shells ∷ [] }

abbrev pub shell_fields : Shell → Fields
shell_fields r = record { office = office-0; words = r.region ∷ []; floats = []; lists = r.faces ∷ r.wire_edges ∷ r.acorn_vertices ∷ [] }

abbrev pub face_fields : Face → Fields
face_fields r =
    record { office = office-0; words = maybe r.front ++ maybe r.back ++ maybe r.surface ++ (sense r.sense ∷ []); floats = []; lists = r.loops ∷ [] }

abbrev pub loop_fields : Loop → Fields
loop_fields r = record { office = office-0; words = r.face ∷ []; floats = []; lists = r.fins ∷ [] }

abbrev pub fin_fields : Fin → Fields
fin_fields r = record { office = office-0; words = r.owner ∷ r.edge ∷ sense r.sense ∷ bit r.pcurve ∷ []; floats = []; lists = [] }

abbrev pub edge_fields : Edge → Fields
edge_fields r =
    record {
      office = office-0;
      words = maybe r.start ++ maybe r.end ++ maybe r.curve ++ (tag r.tolerance ∷ []);
      floats = own r.tolerance ∷ [];
      lists = r.fins ∷ [];
    }

abbrev pub vertex_fields : Vertex → Fields
vertex_fields r = record { office = office-0; words = tag r.tolerance ∷ []; floats = coordinates r.point ++ (own r.tolerance ∷ []); lists = [] }

abbrev pub carrier_fields : Carrier → Fields
carrier_fields c = record { office = office-0; words = carrier_tag c; floats = carrier_reals c; lists = [] }

-- ---- and the record of such fields, which stand where the lent memory has them

-- list j of the fields
abbrev pub list_in : Fields → ℕ → List ℕ
list_in f j = get_or f.lists j []

abbrev pub body_in : Fields → Body
body_in f = record { kind = kind_of (word f.words AT_BODY_KIND); office = f.office; regions = list_in f 0 }

abbrev pub region_in : Fields → Region
region_in f = record { body = word f.words AT_REGION_BODY; solid = flag_at f.words AT_REGION_SOLID; shells = list_in f 0 }

abbrev pub shell_in : Fields → Shell
shell_in f = record { region = word f.words AT_SHELL_REGION; faces = list_in f 0; wire_edges = list_in f 1; acorn_vertices = list_in f 2 }

abbrev pub face_in : Fields → Face
face_in f =
    record {
      front = maybe_at f.words AT_FACE_FRONT;
      back = maybe_at f.words AT_FACE_BACK;
      loops = list_in f 0;
      surface = maybe_at f.words AT_FACE_SURFACE;
      sense = sense_of (word f.words AT_FACE_SENSE);
    }

abbrev pub loop_in : Fields → Loop
loop_in f = record { face = word f.words AT_LOOP_FACE; fins = list_in f 0 }

abbrev pub fin_in : Fields → Fin
fin_in f =
    record {
      owner = word f.words AT_FIN_LOOP;
      edge = word f.words AT_FIN_EDGE;
      sense = sense_of (word f.words AT_FIN_SENSE);
      pcurve = flag_at f.words AT_FIN_PCURVE;
    }

abbrev pub edge_in : Fields → Edge
edge_in f =
    record {
      fins = list_in f 0;
      start = maybe_at f.words AT_EDGE_START;
      end = maybe_at f.words AT_EDGE_END;
      curve = maybe_at f.words AT_EDGE_CURVE;
      tolerance = tolerance_of (word f.words AT_EDGE_TOLERANCE) (real f.floats FLOAT_EDGE_TOLERANCE);
    }

abbrev pub vertex_in : Fields → Vertex
vertex_in f = vertex_of f.words f.floats

abbrev pub carrier_in : Fields → Carrier
carrier_in f = carrier_of f.words f.floats
