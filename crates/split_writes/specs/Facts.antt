-- What the inner functions ask. No reader of a public promise needs this file. Definitions only.
use Rattle.std.specs.Prelude.{ℕ, ◌<◌, true, false, List, [], ◌∷◌, length}
use Rattle.memory_layout.specs.Names.{SHELLS, LOOPS, FINS, EDGES, EDGE_FINS, AT_SHELL_WIRES, AT_LOOP_FINS, AT_FIN_LOOP, AT_FIN_SENSE}
use Rattle.memory_layout.specs.Layout.{word}
use Rattle.memory_layout.specs.Entries.{list_of}
use Rattle.memory_layout.specs.Fit.{Lists}
use Rattle.split_lists.specs.BesideFacts.{Olds}
use Rattle.split_lists.specs.Facts.{Roomy}
use Rattle.split_fins.specs.Facts.{Present}
use Rattle.split_pieces.specs.Pieces.{fin_words}
use Rattle.split_pieces.specs.Facts.{Slots}

-- there is room for all that a split of the edge e writes, where `fins` are its fins, each with its loop and its sense
pub record Ready (room w : List ℕ) (e : ℕ) (fins owners senses : List ℕ) : Type 0 where
  pub there : e < word w EDGES
  pub slots : Slots room w (length owners)
  pub olds : Olds fins owners senses (word w FINS)
  pub loops : Roomy room w LOOPS AT_LOOP_FINS (word w LOOPS) fins owners senses true (word w FINS)
  pub wires : Roomy room w SHELLS AT_SHELL_WIRES (word w SHELLS) (e ∷ []) (0 ∷ []) (0 ∷ []) false (word w EDGES)

-- and these are its fins, which exist
pub record Listing (room w : List ℕ) (e : ℕ) : Type 0 where
  pub lists : Lists room w
  pub present : Present w (list_of room w EDGE_FINS e)
  pub ready : Ready room w e (list_of room w EDGE_FINS e) (fin_words room w AT_FIN_LOOP (list_of room w EDGE_FINS e)) (fin_words room w AT_FIN_SENSE (list_of room w EDGE_FINS e))
