-- The model that the lent memory holds. A record is read off its own words w and floats x. Definitions only.
use Rattle.std.specs.Prelude.{ℕ, zero, suc, ◌+◌, Bool, not, cond, List, eqb, take, drop, Float}
use Rattle.std.proofs.Math.Option.{Option, none, some}
use Rattle.float_vectors.specs.declared.vector.Point3.{Point3}
use Rattle.float_vectors.specs.declared.vector.Vec3.{Vec3}
use Rattle.geom_lines_planes.specs.declared.tolerance.Tolerance.{Tolerance}
use Rattle.geom_lines_planes.specs.declared.tolerance.Tolerance.TheVariants.{Own, Session}
use Rattle.geom_lines_planes.specs.declared.tolerance.Version.{Version}
use Rattle.geom_lines_planes.specs.declared.tolerance.Version.TheVariants.{First, Second}
use Rattle.geom_carriers.specs.declared.Carrier.{Carrier}
use Rattle.geom_carriers.specs.declared.Carrier.TheVariants as Carriers
use Rattle.meaning.specs.Model.{Model, Table, BodyKind, acorn, wire, sheet, solid, general, Sense, positive, negative, Office, office-0, office-1, Body, Region, Shell, Face, Loop, Fin, Edge, Vertex}
use Rattle.memory_layout.specs.Names.{BODIES, REGIONS, SHELLS, FACES, LOOPS, FINS, EDGES, VERTICES, CURVES, SURFACES, AT_BODY_KIND, AT_BODY_OFFICE, AT_BODY_REGIONS, AT_REGION_BODY, AT_REGION_SOLID, AT_REGION_SHELLS, AT_SHELL_REGION, AT_SHELL_FACES, AT_SHELL_WIRES, AT_SHELL_ACORNS, AT_FACE_FRONT, AT_FACE_BACK, AT_FACE_SURFACE, AT_FACE_SENSE, AT_FACE_LOOPS, AT_LOOP_FACE, AT_LOOP_FINS, AT_FIN_LOOP, AT_FIN_EDGE, AT_FIN_SENSE, AT_FIN_PCURVE, AT_EDGE_START, AT_EDGE_END, AT_EDGE_CURVE, AT_EDGE_TOLERANCE, AT_EDGE_FINS, AT_VERTEX_TOLERANCE, AT_CARRIER_TAG, VERSION, PRECISION, FLOAT_EDGE_TOLERANCE, FLOAT_VERTEX_POINT, FLOAT_VERTEX_TOLERANCE, FLOAT_CARRIER_ORIGIN, FLOAT_CARRIER_DIRECTION}
use Rattle.memory_layout.specs.Layout.{word, real, words_of, reals_of}

-- ---- what stands at a place of a record

-- a list: its length, then its entries
unfoldable pub list_at : List ℕ → ℕ → List ℕ
list_at w at = take (word w at) (drop (suc at) w)

-- an optional id: its tag, then the id
abbrev pub maybe_at : List ℕ → ℕ → Option ℕ
maybe_at w at = cond (eqb (word w at) 0) none (some (word w (suc at)))

-- a yes or no
abbrev pub flag_at : List ℕ → ℕ → Bool
flag_at w at = not (eqb (word w at) 0)

abbrev pub sense_of : ℕ → Sense
sense_of n = cond (eqb n 0) positive negative

abbrev pub kind_of : ℕ → BodyKind
kind_of zero = acorn
kind_of (suc zero) = wire
kind_of (suc (suc zero)) = sheet
kind_of (suc (suc (suc zero))) = solid
kind_of (suc (suc (suc (suc n)))) = general

abbrev pub office_of : ℕ → Office
office_of n = cond (eqb n 0) office-0 office-1

-- the version, 1 or 2, which names itself
abbrev pub version_of : ℕ → Version
version_of n = cond (eqb n 2) Second First

-- an optional tolerance: its tag among the words, the tolerance among the floats
abbrev pub tolerance_of : ℕ → Float → Tolerance
tolerance_of n t = cond (eqb n 0) Session (Own t)

abbrev pub point_at : List Float → ℕ → Point3
point_at x at = record { x = real x at; y = real x (at + 1); z = real x (at + 2) }

abbrev pub vec_at : List Float → ℕ → Vec3
vec_at x at = record { x = real x at; y = real x (at + 1); z = real x (at + 2) }

-- ---- the records

abbrev pub body_of : List ℕ → Body
body_of w = record { kind = kind_of (word w AT_BODY_KIND); office = office_of (word w AT_BODY_OFFICE); regions = list_at w AT_BODY_REGIONS }

abbrev pub region_of : List ℕ → Region
region_of w = record { body = word w AT_REGION_BODY; solid = flag_at w AT_REGION_SOLID; shells = list_at w AT_REGION_SHELLS }

abbrev pub shell_of : List ℕ → Shell
shell_of w = record { region = word w AT_SHELL_REGION; faces = list_at w AT_SHELL_FACES; wire_edges = list_at w AT_SHELL_WIRES; acorn_vertices = list_at w AT_SHELL_ACORNS }

abbrev pub face_of : List ℕ → Face
face_of w = record { front = maybe_at w AT_FACE_FRONT; back = maybe_at w AT_FACE_BACK; loops = list_at w AT_FACE_LOOPS; surface = maybe_at w AT_FACE_SURFACE; sense = sense_of (word w AT_FACE_SENSE) }

abbrev pub loop_of : List ℕ → Loop
loop_of w = record { face = word w AT_LOOP_FACE; fins = list_at w AT_LOOP_FINS }

abbrev pub fin_of : List ℕ → Fin
fin_of w = record { owner = word w AT_FIN_LOOP; edge = word w AT_FIN_EDGE; sense = sense_of (word w AT_FIN_SENSE); pcurve = flag_at w AT_FIN_PCURVE }

abbrev pub edge_of : List ℕ → List Float → Edge
edge_of w x =
    record {
      fins = list_at w AT_EDGE_FINS;
      start = maybe_at w AT_EDGE_START;
      end = maybe_at w AT_EDGE_END;
      curve = maybe_at w AT_EDGE_CURVE;
      tolerance = tolerance_of (word w AT_EDGE_TOLERANCE) (real x FLOAT_EDGE_TOLERANCE);
    }

abbrev pub vertex_of : List ℕ → List Float → Vertex
vertex_of w x = record { point = point_at x FLOAT_VERTEX_POINT; tolerance = tolerance_of (word w AT_VERTEX_TOLERANCE) (real x FLOAT_VERTEX_TOLERANCE) }

-- a line, a plane or other, by the tag
abbrev pub carrier_of : List ℕ → List Float → Carrier
carrier_of w x =
    cond (eqb (word w AT_CARRIER_TAG) 0) (Carriers.Line (record { origin = point_at x FLOAT_CARRIER_ORIGIN; direction = vec_at x FLOAT_CARRIER_DIRECTION }))
    (cond (eqb (word w AT_CARRIER_TAG) 1) (Carriers.Plane (record { origin = point_at x FLOAT_CARRIER_ORIGIN; normal = vec_at x FLOAT_CARRIER_DIRECTION })) Carriers.Other)

-- ---- the model

module _ (room w : List ℕ) (x : List Float) where
  -- table k, each record made of its own words and floats
  abbrev pub table : {A : Type 0} → ℕ → (List ℕ → List Float → A) → Table A
  table k of = record { used = word w k; slot = λ i. of (words_of room w k i) (reals_of room x k i) }

  unfoldable pub decode : Model
  decode =
      record {
        version = version_of (word w VERSION);
        precision = real x PRECISION;
        bodies = table BODIES (λ s _. body_of s);
        regions = table REGIONS (λ s _. region_of s);
        shells = table SHELLS (λ s _. shell_of s);
        faces = table FACES (λ s _. face_of s);
        loops = table LOOPS (λ s _. loop_of s);
        fins = table FINS (λ s _. fin_of s);
        edges = table EDGES edge_of;
        vertices = table VERTICES vertex_of;
        curves = table CURVES carrier_of;
        surfaces = table SURFACES carrier_of;
      }
