-- What the lookups answer (model.rs; 01, "lookups"), of the model that the lent memory holds. Definitions only.
use Rattle.std.specs.Prelude.{ℕ, List, Float}
use Rattle.geom_lines_planes.specs.Refuse.{◌unless◌, ◌then◌, answer}
use Rattle.meaning.specs.Model.{Table, has}
use Rattle.memory_layout.specs.Decode.{decode}
use Rattle.memory_layout.specs.Readable.{readable}
use Rattle.memory_records.specs.Seen.{seen_body, seen_region, seen_shell, seen_face, seen_loop, seen_fin, seen_edge, seen_vertex}
use Rattle.memory_lookups.specs.declared.BodyFound.{BodyFound}
use Rattle.memory_lookups.specs.declared.BodyFound.TheVariants as Bodies
use Rattle.memory_lookups.specs.declared.RegionFound.{RegionFound}
use Rattle.memory_lookups.specs.declared.RegionFound.TheVariants as Regions
use Rattle.memory_lookups.specs.declared.ShellFound.{ShellFound}
use Rattle.memory_lookups.specs.declared.ShellFound.TheVariants as Shells
use Rattle.memory_lookups.specs.declared.FaceFound.{FaceFound}
use Rattle.memory_lookups.specs.declared.FaceFound.TheVariants as Faces
use Rattle.memory_lookups.specs.declared.LoopFound.{LoopFound}
use Rattle.memory_lookups.specs.declared.LoopFound.TheVariants as Loops
use Rattle.memory_lookups.specs.declared.FinFound.{FinFound}
use Rattle.memory_lookups.specs.declared.FinFound.TheVariants as Fins
use Rattle.memory_lookups.specs.declared.EdgeFound.{EdgeFound}
use Rattle.memory_lookups.specs.declared.EdgeFound.TheVariants as Edges
use Rattle.memory_lookups.specs.declared.VertexFound.{VertexFound}
use Rattle.memory_lookups.specs.declared.VertexFound.TheVariants as Vertices
use Rattle.memory_lookups.specs.declared.CarrierFound.{CarrierFound}
use Rattle.memory_lookups.specs.declared.CarrierFound.TheVariants as Carriers

module _ (room w : List ℕ) (x : List Float) where
  -- "Every call tests 9 first"; "2: a named or needed record does not exist" (`lookup`)
  abbrev pub lookup_refusal : {R : Type 0} → Table R → ℕ → ℕ
  lookup_refusal t i = 9 unless readable room w x then 2 unless has t i

  -- what is seen of record i of a table, or the refusal
  abbrev pub looked : {R B A : Type 0} → (B → A) → (ℕ → A) → (R → B) → Table R → ℕ → A
  looked is refused seen t i = answer is refused (lookup_refusal t i) (seen (t.slot i))

  unfoldable pub body_answer : ℕ → BodyFound
  body_answer = looked Bodies.Is Bodies.Refused seen_body (decode room w x).bodies

  unfoldable pub region_answer : ℕ → RegionFound
  region_answer = looked Regions.Is Regions.Refused seen_region (decode room w x).regions

  unfoldable pub shell_answer : ℕ → ShellFound
  shell_answer = looked Shells.Is Shells.Refused seen_shell (decode room w x).shells

  unfoldable pub face_answer : ℕ → FaceFound
  face_answer = looked Faces.Is Faces.Refused seen_face (decode room w x).faces

  unfoldable pub loop_answer : ℕ → LoopFound
  loop_answer = looked Loops.Is Loops.Refused seen_loop (decode room w x).loops

  unfoldable pub fin_answer : ℕ → FinFound
  fin_answer = looked Fins.Is Fins.Refused seen_fin (decode room w x).fins

  unfoldable pub edge_answer : ℕ → EdgeFound
  edge_answer = looked Edges.Is Edges.Refused seen_edge (decode room w x).edges

  unfoldable pub vertex_answer : ℕ → VertexFound
  vertex_answer = looked Vertices.Is Vertices.Refused seen_vertex (decode room w x).vertices

  unfoldable pub curve_answer : ℕ → CarrierFound
  curve_answer = looked Carriers.Is Carriers.Refused (λ c. c) (decode room w x).curves

  unfoldable pub surface_answer : ℕ → CarrierFound
  surface_answer = looked Carriers.Is Carriers.Refused (λ c. c) (decode room w x).surfaces
