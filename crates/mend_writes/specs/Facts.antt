-- What is asked of a list of changes before they are stored: each names a record that has room. No reader of a public promise needs this file. Definitions only.
use Rattle.std.specs.Prelude.{ℕ, ◌+◌, ◌*◌, ◌≤◌, ◌<◌, ◌≡◌, List, length, take, drop}
use Rattle.meaning_mends.specs.Words.{PARENT}
use Rattle.memory_layout.specs.Names.{EDGES}
use Rattle.memory_layout.specs.Layout.{word, words_needed}
use Rattle.memory_layout.specs.Fit.{Small}

-- six words: the table, the record, the field, the place, the old value, the new one
pub record Stored (room e : List ℕ) : Type 0 where
  pub whole : length e ≡ 6
  pub table : word e 0 < 10
  pub slot : word e 1 < word room (word e 0)
  pub list : (word e 2 ≡ PARENT → ⊥) → (word e 0 ≡ EDGES) × (word e 3 < 8)

-- entry i of a list of changes
abbrev pub entry_of : List ℕ → ℕ → List ℕ
entry_of list i = take 6 (drop (6 * i) list)

-- the tables have room for all changes of the list
pub record Appliable (room w list : List ℕ) : Type 0 where
  pub small : Small room
  pub words : words_needed room ≤ length w
  pub each : (i : ℕ) → 6 * i + 6 ≤ length list → Stored room (entry_of list i)
