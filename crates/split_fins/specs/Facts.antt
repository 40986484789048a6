-- What the inner functions ask. No reader of a public promise needs this file. Definitions only.
use Rattle.std.specs.Prelude.{ℕ, ◌<◌, List, length, get_or}
use Rattle.memory_layout.specs.Names.{FINS}
use Rattle.memory_layout.specs.Layout.{word}

-- the listed fins exist
pub record Present (w l : List ℕ) : Type 0 where
  pub there : (k : ℕ) → k < length l → get_or l k 0 < word w FINS
