-- What `precision`, `version` and `contains` answer (model.rs; 01, "lookups"; W-211, "A model names its version"), of the model that the lent memory holds. Definitions only.
use Rattle.std.specs.Prelude.{ℕ, Bool, List, Float}
use Rattle.geom_lines_planes.specs.Refuse.{◌unless◌, answer}
use Rattle.meaning.specs.Model.{Model, has}
use Rattle.memory_layout.specs.Decode.{decode}
use Rattle.memory_layout.specs.Readable.{readable}
use Rattle.memory_layout.specs.Laid.{version_tag}
use Rattle.memory_contains.specs.declared.PrecisionFound.{PrecisionFound}
use Rattle.memory_contains.specs.declared.PrecisionFound.TheVariants as Precisions
use Rattle.memory_contains.specs.declared.VersionFound.{VersionFound}
use Rattle.memory_contains.specs.declared.VersionFound.TheVariants as Versions
use Rattle.memory_contains.specs.declared.Contained.{Contained}
use Rattle.memory_contains.specs.declared.Contained.TheVariants as Contents
use Rattle.memory_contains.specs.declared.EntityRef.{EntityRef}
use Rattle.memory_contains.specs.declared.EntityRef.TheVariants as Entities

-- `contains`: whether the entity exists
abbrev pub contained : Model → EntityRef → Bool
contained m (Entities.Body i) = has m.bodies i
contained m (Entities.Region i) = has m.regions i
contained m (Entities.Shell i) = has m.shells i
contained m (Entities.Face i) = has m.faces i
contained m (Entities.Loop i) = has m.loops i
contained m (Entities.Fin i) = has m.fins i
contained m (Entities.Edge i) = has m.edges i
contained m (Entities.Vertex i) = has m.vertices i

module _ (room w : List ℕ) (x : List Float) where
  unfoldable pub precision_answer : PrecisionFound
  precision_answer = answer Precisions.Is Precisions.Refused (9 unless readable room w x) (decode room w x).precision

  unfoldable pub version_answer : VersionFound
  version_answer = answer Versions.Is Versions.Refused (9 unless readable room w x) (version_tag (decode room w x).version)

  unfoldable pub contains_answer : EntityRef → Contained
  contains_answer e = answer Contents.Is Contents.Refused (9 unless readable room w x) (contained (decode room w x) e)
