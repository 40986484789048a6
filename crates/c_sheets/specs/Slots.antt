-- The five lent words of a stone sheet. Definitions only.
use Rattle.std.specs.Prelude.{ℕ, List, [], ◌∷◌}
use Rattle.memory_layout.specs.Layout.{word}
use Rattle.sheet_words.specs.declared.StoneSheet.{StoneSheet}

-- slot 0 has the number of stones, 1 and 2 the total, its lower word first, 3 the body of the largest stone, 4 its number
unfoldable pub sheet_in : List ℕ → StoneSheet
sheet_in w = record { stones = word w 0; low = word w 1; high = word w 2; body = word w 3; largest = word w 4 }

-- the same five slots, by the sheet that goes into them
unfoldable pub sheet_out : StoneSheet → List ℕ
sheet_out s = s.stones ∷ s.low ∷ s.high ∷ s.body ∷ s.largest ∷ []
