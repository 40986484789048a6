-- Several records of one table written one after the other. Definitions only.
use Rattle.std.specs.Prelude.{ℕ, zero, suc, ◌+◌, Bool, cond, List}
use Rattle.memory_layout.specs.Layout.{words_of}
use Rattle.memory_writes.specs.Put.{put_words}
use Rattle.split_lists.specs.Beside.{entries_for, doubled}

-- the words with r j as those of record from + j of table k, for each j below n
unfoldable pub put_all : List ℕ → ℕ → ℕ → (ℕ → List ℕ) → ℕ → List ℕ → List ℕ
put_all room k from r zero w = w
put_all room k from r (suc n) w = put_words room k (from + n) (r n) (put_all room k from r n w)

-- record i of table k, its list at a place with what stands beside each entry: that of its own fins, or of everyone's edges
unfoldable pub doubled_at : List ℕ → List ℕ → ℕ → ℕ → List ℕ → List ℕ → List ℕ → Bool → ℕ → ℕ → List ℕ
doubled_at room w k place olds owners senses own first i = doubled (entries_for olds owners senses (cond own i 0) first) place (words_of room w k i)
