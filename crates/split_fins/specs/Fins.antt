-- The tests of an edge's fins by their own words (01, "Splitting: order of tests", 3, and 11 as far as the loop). `Laws.antt` says that those of 3 are those of `meaning`. Definitions only.
use Rattle.std.specs.Prelude.{ℕ, List, eqb, ltb}
use Rattle.geom_lines_planes.specs.Refuse.{◌unless◌, ◌then◌}
use Rattle.meaning.specs.Lists.{member}
use Rattle.meaning.specs.Refuse.{◌if◌}
use Rattle.memory_layout.specs.Names.{LOOPS, FINS, AT_FIN_LOOP, AT_FIN_EDGE, AT_FIN_PCURVE}
use Rattle.memory_layout.specs.Layout.{word, words_of}
use Rattle.memory_layout.specs.Decode.{flag_at}

module _ (room w : List ℕ) where
  -- "missing 2, pcurve mark 7"
  unfoldable pub pcurve_test : ℕ → ℕ
  pcurve_test i = 2 unless ltb i (word w FINS) then 7 if flag_at (words_of room w FINS i) AT_FIN_PCURVE

  -- "repeated 1; points to another edge 1; loop missing 2"
  unfoldable pub use_test : ℕ → List ℕ → ℕ → ℕ
  use_test e seen i =
      1 if member i seen
      then 1 unless eqb (word (words_of room w FINS i) AT_FIN_EDGE) e
      then 2 unless ltb (word (words_of room w FINS i) AT_FIN_LOOP) (word w LOOPS)
