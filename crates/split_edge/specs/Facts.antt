-- What the inner functions ask. No reader of a public promise needs this file. Definitions only.
use Rattle.std.specs.Prelude.{ℕ, ◌≤◌, ◌<◌, ◌≡◌, List, length, Float}
use Rattle.memory_layout.specs.Names.{EDGES, VERTICES}
use Rattle.memory_layout.specs.Layout.{word}
use Rattle.memory_layout.specs.Decode.{decode}
use Rattle.memory_layout.specs.Fit.{Fit}
use Rattle.split_bounds.specs.Ends.{ends_refusal}

-- the edge's line and ends can be read, and there is a slot for an edge and for a vertex
pub record Open (room w : List ℕ) (x : List Float) (e : ℕ) : Type 0 where
  pub fit : Fit room w x
  pub ends : ends_refusal (decode room w x) e ≡ 0
  pub counts : 11 ≤ length w
  pub there : e < word w EDGES
  pub edges : word w EDGES < word room EDGES
  pub vertices : word w VERTICES < word room VERTICES
