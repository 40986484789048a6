-- The refusal of a lookup by the number of its table, and the table of an entity. No reader of a public promise needs this
-- file. Definitions only.
use Rattle.std.specs.Prelude.{ℕ, List, ltb, Float}
use Rattle.geom_lines_planes.specs.Refuse.{◌unless◌, ◌then◌}
use Rattle.memory_layout.specs.Names.{BODIES, REGIONS, SHELLS, FACES, LOOPS, FINS, EDGES, VERTICES}
use Rattle.memory_layout.specs.Layout.{word}
use Rattle.memory_layout.specs.Readable.{readable}
use Rattle.memory_contains.specs.declared.EntityRef.{EntityRef}
use Rattle.memory_contains.specs.declared.EntityRef.TheVariants as Entities

module _ (room w : List ℕ) (x : List Float) where
  -- the refusal of record i of table k
  abbrev pub refusal_at : ℕ → ℕ → ℕ
  refusal_at k i = 9 unless readable room w x then 2 unless ltb i (word w k)

-- an entity as its table and its id
unfoldable pub table_of : EntityRef → ℕ
table_of (Entities.Body i) = BODIES
table_of (Entities.Region i) = REGIONS
table_of (Entities.Shell i) = SHELLS
table_of (Entities.Face i) = FACES
table_of (Entities.Loop i) = LOOPS
table_of (Entities.Fin i) = FINS
table_of (Entities.Edge i) = EDGES
table_of (Entities.Vertex i) = VERTICES

unfoldable pub id_of : EntityRef → ℕ
id_of (Entities.Body i) = i
id_of (Entities.Region i) = i
id_of (Entities.Shell i) = i
id_of (Entities.Face i) = i
id_of (Entities.Loop i) = i
id_of (Entities.Fin i) = i
id_of (Entities.Edge i) = i
id_of (Entities.Vertex i) = i
