-- A list at a place of the words, with another list in its stead. Definitions only.
use Rattle.std.specs.Prelude.{ℕ, suc, List, ◌∷◌, ◌++◌, length, take, drop}
use Rattle.memory_writes.specs.Put.{over}

-- a list without the entry at a place
unfoldable pub struck : List ℕ → ℕ → List ℕ
struck l place = take place l ++ drop (suc place) l

-- words with l as the list at a place: its length, its entries, and behind them what stood there
unfoldable pub with_list : ℕ → List ℕ → List ℕ → List ℕ
with_list at l w = over at (length l ∷ l) w
