-- The theorems of specs/Statements.antt that rest on struck-le. Assumes nothing.
use Prim.Native.Nat.{ℕ}
use Rattle.std.proofs.Common.{arith}
use Rattle.std.specs.Prelude.{◌≡◌, Float}
use mathlib.Core.List.{List}
use Rattle.memory_layout.specs.Entries.{list_of, entry_refusal}
use Rattle.memory_layout.specs.Laws.{lists_of, entry-standing}
use Rattle.memory_layout.proofs.Laws.{listed_le}
use Rattle.edit_lists.specs.Place.{struck}
use Rattle.edit_lists.specs.Answers.{strike_entry_words}
use Rattle.edit_lists.specs.Statements.{Relisted, relisted, struck-le}

module _ (room w : List ℕ) (x : List Float) (j i : ℕ) where
  pub entry-struck : (place : ℕ) → entry_refusal room w x j i place ≡ 0
      → Relisted room w (strike_entry_words room w x j i place) x j i (struck (list_of room w j i) place)
  unfolding strike_entry_words
  entry-struck place z =
      let t = entry-standing room w x j i place z in
      let l : List ℕ = list_of room w j i in
      let a = listed_le room w j i (lists_of room w x t.fit) t.list t.record-there in
      let b = struck-le l place in
      rw z (relisted room w x j i (struck l place) t.fit t.list t.record-there (omega arith))
