-- What the values that a call is handed are in the model, and a model with another table. Definitions only.
use Rattle.std.specs.Prelude.{ℕ}
use Rattle.std.proofs.Math.Option.{Option, none, some}
use Rattle.geom_carriers.specs.declared.Carrier.{Carrier}
use Rattle.meaning.specs.Model as Model
use Rattle.memory_records.specs.declared.records.BodyKind.{BodyKind}
use Rattle.memory_records.specs.declared.records.BodyKind.TheVariants as Kinds
use Rattle.memory_records.specs.declared.records.Sense.{Sense}
use Rattle.memory_records.specs.declared.records.Sense.TheVariants as Senses
use Rattle.memory_records.specs.Seen.{Ref}
use Rattle.std.specs.Prelude.{Some, None}

-- ---- the values, as the model has them

unfoldable pub meant_kind : BodyKind → Model.BodyKind
meant_kind Kinds.Acorn = Model.acorn
meant_kind Kinds.Wire = Model.wire
meant_kind Kinds.Sheet = Model.sheet
meant_kind Kinds.Solid = Model.solid
meant_kind Kinds.General = Model.general

unfoldable pub meant_sense : Sense → Model.Sense
meant_sense Senses.Positive = Model.positive
meant_sense Senses.Negative = Model.negative

unfoldable pub meant_ref : Ref → Option ℕ
meant_ref None = none
meant_ref (Some i) = some i

-- ---- the model m with another table

module _ (m : Model.Model) where
  abbrev tables : Model.Table Model.Body → Model.Table Model.Region → Model.Table Model.Shell → Model.Table Model.Face → Model.Table Model.Loop
      → Model.Table Model.Fin → Model.Table Model.Edge → Model.Table Model.Vertex → Model.Table Carrier → Model.Table Carrier → Model.Model
  tables b r s f l n e v c u =
      record {
        version = m.version;
        precision = m.precision;
        bodies = b;
        regions = r;
        shells = s;
        faces = f;
        loops = l;
        fins = n;
        edges = e;
        vertices = v;
        curves = c;
        surfaces = u;
      }

  abbrev pub with_bodies : Model.Table Model.Body → Model.Model
  with_bodies t = tables t m.regions m.shells m.faces m.loops m.fins m.edges m.vertices m.curves m.surfaces

  abbrev pub with_regions : Model.Table Model.Region → Model.Model
  with_regions t = tables m.bodies t m.shells m.faces m.loops m.fins m.edges m.vertices m.curves m.surfaces

  abbrev pub with_shells : Model.Table Model.Shell → Model.Model
  with_shells t = tables m.bodies m.regions t m.faces m.loops m.fins m.edges m.vertices m.curves m.surfaces

  abbrev pub with_faces : Model.Table Model.Face → Model.Model
  with_faces t = tables m.bodies m.regions m.shells t m.loops m.fins m.edges m.vertices m.curves m.surfaces

  abbrev pub with_loops : Model.Table Model.Loop → Model.Model
  with_loops t = tables m.bodies m.regions m.shells m.faces t m.fins m.edges m.vertices m.curves m.surfaces

  abbrev pub with_fins : Model.Table Model.Fin → Model.Model
  with_fins t = tables m.bodies m.regions m.shells m.faces m.loops t m.edges m.vertices m.curves m.surfaces

  abbrev pub with_edges : Model.Table Model.Edge → Model.Model
  with_edges t = tables m.bodies m.regions m.shells m.faces m.loops m.fins t m.vertices m.curves m.surfaces

  abbrev pub with_vertices : Model.Table Model.Vertex → Model.Model
  with_vertices t = tables m.bodies m.regions m.shells m.faces m.loops m.fins m.edges t m.curves m.surfaces

  abbrev pub with_curves : Model.Table Carrier → Model.Model
  with_curves t = tables m.bodies m.regions m.shells m.faces m.loops m.fins m.edges m.vertices t m.surfaces

  abbrev pub with_surfaces : Model.Table Carrier → Model.Model
  with_surfaces t = tables m.bodies m.regions m.shells m.faces m.loops m.fins m.edges m.vertices m.curves t
