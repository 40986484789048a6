-- What is found of a fin, part by part (`Laws.antt`: it is what `meaning` says). No reader of a public promise needs this file. Definitions only.
use Rattle.std.specs.Prelude.{ℕ, not, cond, List, [], ◌∷◌, ◌++◌, ltb}
use Rattle.std.proofs.Math.Option.{Option}
use Rattle.meaning.specs.Lists.{member, joined}
use Rattle.meaning.specs.Model.{Model, has, fin, edge}
use Rattle.meaning.specs.Walks.{edge_vertices, readable_fin}
use Rattle.meaning.specs.Faults.{Finding, only_if, fault, carried}

-- reason 17 on the edge e where the vertex v is missing
abbrev pub lacking : ℕ → ℕ → ℕ → List Finding
lacking used e v = only_if (not (ltb v used)) (fault 17 e)

unfoldable pub vertices_there : Model → ℕ → List Finding
vertices_there m e = joined (lacking m.vertices.used e) (edge_vertices (edge m e))

-- `fin_findings`: what the edge e that the fin i names adds
unfoldable pub fin_edge : Model → ℕ → ℕ → List Finding
fin_edge m i e = cond (has m.edges e) (only_if (not (member i (edge m e).fins)) (fault 16 e) ++ vertices_there m e) (fault 15 i ∷ [])

-- `fin_geometry`, of a face with that surface
unfoldable pub fin_on : Model → ℕ → Option ℕ → ℕ → List Finding
fin_on m n surface i = cond (readable_fin m i) (carried m n (fin m i).edge (edge m (fin m i).edge).curve surface) []
