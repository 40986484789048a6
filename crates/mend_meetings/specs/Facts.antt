-- What the inner functions ask. No reader of a public promise needs this file. Definitions only.
use Rattle.std.specs.Prelude.{ℕ, ◌≤◌, ◌<◌, ◌≡◌, true, List, [], length}
use Rattle.meaning.specs.Model.{Model, fin}
use Rattle.memory_layout.specs.Layout.{word}
use Rattle.memory_layout.specs.Names.{FINS, EDGES}
use Rattle.memory_layout.specs.Decode.{decode}
use Rattle.memory_layout.specs.Fit.{Lists}
use Rattle.mend_meetings.specs.Machine.{MARKS}

-- the lists stand whole, and there are marks
pub record Ready (room w s : List ℕ) : Type 0 where
  pub lists : Lists room w
  pub marks : MARKS ≤ length s

-- a region, shell, loop or fin that is there; a fin's edge is
pub record Present (room w : List ℕ) (k i : ℕ) : Type 0 where
  pub table : k < 6
  pub slot : i < word w k
  pub edge : k ≡ FINS → (fin (decode room w []) i).edge < word w EDGES

-- the model, of which no float is looked at
abbrev pub model_of : List ℕ → List ℕ → Model
model_of room w = decode room w []
