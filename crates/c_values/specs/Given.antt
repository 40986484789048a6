-- Which fields the numbers name that a C program hands to an insert or a set: the numbers of `Crossing.antt`, without the lists. Definitions only.
-- A tag that is none is refused with 1, right after 9, as a tolerance that no record may have.
use Rattle.std.specs.Prelude.{ℕ, zero, suc, Bool, ◌&&◌, List, leb, Float}
use Rattle.geom_lines_planes.specs.declared.tolerance.Tolerance.{Tolerance}
use Rattle.meaning.specs.Edits.{tolerance_ok}
use Rattle.memory_layout.specs.Names.{AT_BODY_KIND, AT_REGION_BODY, AT_REGION_SOLID, AT_SHELL_REGION, AT_FACE_FRONT, AT_FACE_BACK, AT_FACE_SURFACE, AT_FACE_SENSE, AT_LOOP_FACE, AT_FIN_LOOP, AT_FIN_EDGE, AT_FIN_SENSE, AT_FIN_PCURVE, AT_EDGE_START, AT_EDGE_END, AT_EDGE_CURVE, AT_EDGE_TOLERANCE, AT_VERTEX_TOLERANCE, AT_CARRIER_TAG, FLOAT_EDGE_TOLERANCE, FLOAT_VERTEX_POINT, FLOAT_VERTEX_TOLERANCE}
use Rattle.memory_layout.specs.Layout.{word, real}
use Rattle.memory_layout.specs.Decode.{maybe_at, flag_at, sense_of, kind_of, tolerance_of, point_at, carrier_of}
use Rattle.memory_records.specs.Seen.{Ref}
use Rattle.memory_contains.specs.declared.EntityRef.{EntityRef}
use Rattle.memory_contains.specs.declared.EntityRef.TheVariants as Entities
use Rattle.memory_records.specs.Seen.{seen_ref, seen_kind, seen_sense}
use Rattle.edit_fields.specs.Fields.{body_fields, kind_fields, region_fields, shell_fields, face_fields, loop_fields, fin_fields, edge_fields, vertex_fields, carrier_fields, edge_floats, vertex_floats, carrier_floats}

-- ---- the tags of a value v are known; and an own tolerance, among the floats s, is one that a record may have

abbrev pub body_known : List ℕ → Bool
body_known v = leb (word v AT_BODY_KIND) 4

-- and so is the office o
abbrev pub body_in : ℕ → List ℕ → Bool
body_in o v = body_known v && leb o 1

abbrev pub region_known : List ℕ → Bool
region_known v = leb (word v AT_REGION_SOLID) 1

abbrev pub face_known : List ℕ → Bool
face_known v = leb (word v AT_FACE_FRONT) 1 && leb (word v AT_FACE_BACK) 1 && leb (word v AT_FACE_SURFACE) 1 && leb (word v AT_FACE_SENSE) 1

abbrev pub fin_known : List ℕ → Bool
fin_known v = leb (word v AT_FIN_SENSE) 1 && leb (word v AT_FIN_PCURVE) 1

abbrev pub own_known : List ℕ → Bool
own_known v = leb (word v AT_VERTEX_TOLERANCE) 1

abbrev pub carrier_known : List ℕ → Bool
carrier_known v = leb (word v AT_CARRIER_TAG) 2

-- the tolerance of an edge, and of a vertex
abbrev pub edge_tolerance : List ℕ → List Float → Tolerance
edge_tolerance v s = tolerance_of (word v AT_EDGE_TOLERANCE) (real s FLOAT_EDGE_TOLERANCE)

abbrev pub vertex_tolerance : List ℕ → List Float → Tolerance
vertex_tolerance v s = tolerance_of (word v AT_VERTEX_TOLERANCE) (real s FLOAT_VERTEX_TOLERANCE)

unfoldable pub edge_good : List ℕ → List Float → Bool
edge_good v s = face_known v && tolerance_ok (edge_tolerance v s)

unfoldable pub vertex_good : List ℕ → List Float → Bool
vertex_good v s = own_known v && tolerance_ok (vertex_tolerance v s)

-- ---- the fields, as `memory_layout` reads them off a record's words and floats

-- a body in the office o (W-206); a set keeps it
abbrev pub body_given : ℕ → List ℕ → List ℕ
body_given o v = body_fields (seen_kind (kind_of (word v AT_BODY_KIND))) o

abbrev pub kind_given : List ℕ → List ℕ
kind_given v = kind_fields (seen_kind (kind_of (word v AT_BODY_KIND)))

abbrev pub region_given : List ℕ → List ℕ
region_given v = region_fields (word v AT_REGION_BODY) (flag_at v AT_REGION_SOLID)

abbrev pub shell_given : List ℕ → List ℕ
shell_given v = shell_fields (word v AT_SHELL_REGION)

abbrev pub face_given : List ℕ → List ℕ
face_given v = face_fields (seen_ref (maybe_at v AT_FACE_FRONT)) (seen_ref (maybe_at v AT_FACE_BACK)) (seen_ref (maybe_at v AT_FACE_SURFACE)) (seen_sense (sense_of (word v AT_FACE_SENSE)))

abbrev pub loop_given : List ℕ → List ℕ
loop_given v = loop_fields (word v AT_LOOP_FACE)

abbrev pub fin_given : List ℕ → List ℕ
fin_given v = fin_fields (word v AT_FIN_LOOP) (word v AT_FIN_EDGE) (seen_sense (sense_of (word v AT_FIN_SENSE))) (flag_at v AT_FIN_PCURVE)

abbrev pub edge_given : List ℕ → List Float → List ℕ
edge_given v s = edge_fields (seen_ref (maybe_at v AT_EDGE_START)) (seen_ref (maybe_at v AT_EDGE_END)) (seen_ref (maybe_at v AT_EDGE_CURVE)) (edge_tolerance v s)

abbrev pub vertex_given : List ℕ → List Float → List ℕ
vertex_given v s = vertex_fields (vertex_tolerance v s)

abbrev pub carrier_given : List ℕ → List Float → List ℕ
carrier_given v s = carrier_fields (carrier_of v s)

-- and the floats
abbrev pub edge_own : List ℕ → List Float → List Float
edge_own v s = edge_floats (edge_tolerance v s)

abbrev pub vertex_own : List ℕ → List Float → List Float
vertex_own v s = vertex_floats (point_at s FLOAT_VERTEX_POINT) (vertex_tolerance v s)

abbrev pub carrier_own : List ℕ → List Float → List Float
carrier_own v s = carrier_floats (carrier_of v s)

-- ---- an entity by its class, which is the number of its table
abbrev pub entity_of : ℕ → ℕ → EntityRef
entity_of zero i = Entities.Body i
entity_of (suc zero) i = Entities.Region i
entity_of (suc (suc zero)) i = Entities.Shell i
entity_of (suc (suc (suc zero))) i = Entities.Face i
entity_of (suc (suc (suc (suc zero)))) i = Entities.Loop i
entity_of (suc (suc (suc (suc (suc zero))))) i = Entities.Fin i
entity_of (suc (suc (suc (suc (suc (suc zero)))))) i = Entities.Edge i
entity_of (suc (suc (suc (suc (suc (suc (suc n))))))) i = Entities.Vertex i
