-- A record as a lookup gives it (entity.rs): the model's record, each list as its number of entries. Definitions only.
-- `list_entry` of `memory_lists` gives the entries one by one.
use Rattle.std.specs.Prelude.{ℕ, length}
use Rattle.std.specs.Prelude as Prelude
use Rattle.std.proofs.Math.Option.{Option, none, some}
use Rattle.meaning.specs.Model as Model
use Rattle.memory_records.specs.declared.records.BodyKind.{BodyKind}
use Rattle.memory_records.specs.declared.records.BodyKind.TheVariants as Kinds
use Rattle.memory_records.specs.declared.records.Sense.{Sense}
use Rattle.memory_records.specs.declared.records.Sense.TheVariants as Senses
use Rattle.memory_records.specs.declared.records.Body.{Body}
use Rattle.memory_records.specs.declared.records.Region.{Region}
use Rattle.memory_records.specs.declared.records.Shell.{Shell}
use Rattle.memory_records.specs.declared.records.Face.{Face}
use Rattle.memory_records.specs.declared.records.Loop.{Loop}
use Rattle.memory_records.specs.declared.records.Fin.{Fin}
use Rattle.memory_records.specs.declared.records.Edge.{Edge}
use Rattle.memory_records.specs.declared.records.Vertex.{Vertex}

-- ---- kinds, senses, optional ids

unfoldable pub seen_kind : Model.BodyKind → BodyKind
seen_kind Model.acorn = Kinds.Acorn
seen_kind Model.wire = Kinds.Wire
seen_kind Model.sheet = Kinds.Sheet
seen_kind Model.solid = Kinds.Solid
seen_kind Model.general = Kinds.General

unfoldable pub seen_sense : Model.Sense → Sense
seen_sense Model.positive = Senses.Positive
seen_sense Model.negative = Senses.Negative

-- 01, "`Option` ids an enum": the code's `Option<u32>`
abbrev pub Ref : Type 0
Ref = Prelude.Option ℕ

unfoldable pub seen_ref : Option ℕ → Ref
seen_ref none = Prelude.None
seen_ref (some i) = Prelude.Some i

-- ---- the records

unfoldable pub seen_body : Model.Body → Body
seen_body b = record { kind = seen_kind b.kind; regions = length b.regions }

unfoldable pub seen_region : Model.Region → Region
seen_region r = record { body = r.body; solid = r.solid; shells = length r.shells }

unfoldable pub seen_shell : Model.Shell → Shell
seen_shell s =
    record {
      region = s.region;
      faces = length s.faces;
      wire_edges = length s.wire_edges;
      acorn_vertices = length s.acorn_vertices;
    }

unfoldable pub seen_face : Model.Face → Face
seen_face f =
    record {
      front = seen_ref f.front;
      back = seen_ref f.back;
      surface = seen_ref f.surface;
      sense = seen_sense f.sense;
      loops = length f.loops;
    }

unfoldable pub seen_loop : Model.Loop → Loop
seen_loop l = record { face = l.face; fins = length l.fins }

unfoldable pub seen_fin : Model.Fin → Fin
seen_fin f = record { owner = f.owner; edge = f.edge; sense = seen_sense f.sense; pcurve = f.pcurve }

unfoldable pub seen_edge : Model.Edge → Edge
seen_edge e =
    record {
      start = seen_ref e.start;
      end = seen_ref e.end;
      curve = seen_ref e.curve;
      tolerance = e.tolerance;
      fins = length e.fins;
    }

unfoldable pub seen_vertex : Model.Vertex → Vertex
seen_vertex v = record { point = v.point; tolerance = v.tolerance }
