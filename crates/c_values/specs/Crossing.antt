-- What crosses to C in lent slots, where the number is 0: a record's value, the ends of a fin, the range of an edge. A refusal leaves the slots as they were, which `unless_refused`
-- of `memory_writes` says. Definitions only.
use Rattle.std.specs.Prelude.{ℕ, List, [], ◌∷◌, ◌++◌, Float}
use Rattle.meaning.specs.Model.{Model}
use Rattle.meaning.specs.Split.{lo, hi}
use Rattle.memory_records.specs.declared.records.Body.{Body}
use Rattle.memory_records.specs.declared.records.Region.{Region}
use Rattle.memory_records.specs.declared.records.Shell.{Shell}
use Rattle.memory_records.specs.declared.records.Face.{Face}
use Rattle.memory_records.specs.declared.records.Loop.{Loop}
use Rattle.memory_records.specs.declared.records.Fin.{Fin}
use Rattle.memory_records.specs.declared.records.Edge.{Edge}
use Rattle.memory_records.specs.declared.records.Vertex.{Vertex}
use Rattle.walk_fin_ends.specs.declared.Tips.{Tips}
use Rattle.edit_tags.specs.Tags.{ref_tag, ref_id}
use Rattle.edit_fields.specs.Fields.{kind_fields, region_fields, shell_fields, face_fields, loop_fields, fin_fields, edge_fields, vertex_fields, edge_floats, vertex_floats}

-- ---- a record's value: its fields, then the lengths of its lists; of a body not the office, which asks

unfoldable pub body_value : Body → List ℕ
body_value b = kind_fields b.kind ++ (b.regions ∷ [])

unfoldable pub region_value : Region → List ℕ
region_value r = region_fields r.body r.solid ++ (r.shells ∷ [])

unfoldable pub shell_value : Shell → List ℕ
shell_value s = shell_fields s.region ++ (s.faces ∷ s.wire_edges ∷ s.acorn_vertices ∷ [])

unfoldable pub face_value : Face → List ℕ
face_value f = face_fields f.front f.back f.surface f.sense ++ (f.loops ∷ [])

unfoldable pub loop_value : Loop → List ℕ
loop_value l = loop_fields l.face ++ (l.fins ∷ [])

unfoldable pub fin_value : Fin → List ℕ
fin_value f = fin_fields f.owner f.edge f.sense f.pcurve

unfoldable pub edge_value : Edge → List ℕ
edge_value e = edge_fields e.start e.end e.curve e.tolerance ++ (e.fins ∷ [])

abbrev pub vertex_value : Vertex → List ℕ
vertex_value v = vertex_fields v.tolerance

-- and its floats
abbrev pub edge_reals : Edge → List Float
edge_reals e = edge_floats e.tolerance

abbrev pub vertex_reals : Vertex → List Float
vertex_reals v = vertex_floats v.point v.tolerance

-- ---- the ends of a fin
unfoldable pub tips_value : Tips → List ℕ
tips_value t = ref_tag t.start ∷ ref_id t.start ∷ ref_tag t.end ∷ ref_id t.end ∷ []

-- the parameter bounds of an edge
abbrev pub range_value : Model → ℕ → List Float
range_value m e = lo m e ∷ hi m e ∷ []
