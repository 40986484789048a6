-- What the inner functions ask. No reader of a public promise needs this file. Definitions only.
use Rattle.std.specs.Prelude.{ℕ, ◌<◌, List, length}
use Rattle.memory_layout.specs.Names.{LOOPS, FINS, AT_FIN_LOOP}
use Rattle.memory_layout.specs.Layout.{word, words_of}

-- the listed fins exist, and so do their loops
pub record Owned (room w l : List ℕ) : Type 0 where
  pub there : (k : ℕ) → k < length l → word l k < word w FINS
  pub owner : (k : ℕ) → k < length l → word (words_of room w FINS (word l k)) AT_FIN_LOOP < word w LOOPS
