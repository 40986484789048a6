-- What the inner functions ask, and one that is made on the way. No reader of a public promise needs this file. Definitions only.
use Rattle.std.specs.Prelude.{ℕ, ◌+◌, ◌≤◌, ◌<◌, List, [], ◌∷◌, length}
use Rattle.memory_layout.specs.Names.{FINS, EDGES, VERTICES, AT_EDGE_END, AT_EDGE_END_ID, AT_EDGE_CURVE, AT_EDGE_CURVE_ID, AT_EDGE_TOLERANCE}
use Rattle.memory_layout.specs.Layout.{word, words_needed}
use Rattle.memory_layout.specs.Fit.{Small}

-- the lent words hold the tables, with room for n fins, an edge and a vertex more
pub record Slots (room w : List ℕ) (n : ℕ) : Type 0 where
  pub small : Small room
  pub enough : words_needed room ≤ length w
  pub counts : 11 ≤ length w
  pub few : n ≤ 8
  pub fins : word w FINS + n ≤ word room FINS
  pub edges : word w EDGES < word room EDGES
  pub vertices : word w VERTICES < word room VERTICES
  pub most-fins : word room FINS ≤ 4096
  pub most-edges : word room EDGES ≤ 2048
  pub most-vertices : word room VERTICES ≤ 2048

-- the new edge's first words as `second_fields`, with all eight fins
unfoldable pub second_room : List ℕ → ℕ → ℕ → ℕ → List ℕ
second_room s vertex first n =
    1
    ∷ vertex
    ∷ word s AT_EDGE_END
    ∷ word s AT_EDGE_END_ID
    ∷ word s AT_EDGE_CURVE
    ∷ word s AT_EDGE_CURVE_ID
    ∷ word s AT_EDGE_TOLERANCE
    ∷ n
    ∷ first
    ∷ (first + 1)
    ∷ (first + 2)
    ∷ (first + 3)
    ∷ (first + 4)
    ∷ (first + 5)
    ∷ (first + 6)
    ∷ (first + 7)
    ∷ []
