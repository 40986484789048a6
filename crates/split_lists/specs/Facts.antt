-- What the inner functions ask. No reader of a public promise needs this file. Definitions only.
use Rattle.std.specs.Prelude.{ℕ, ◌≤◌, ◌<◌, Bool, cond, List, length}
use Rattle.memory_layout.specs.Layout.{word, words_needed, words_of}
use Rattle.split_lists.specs.Beside.{entries_for}
use Rattle.split_lists.specs.BesideFacts.{Longer}

-- the first n records of table k lie in the memory, and each has room for what its list becomes
pub record Roomy (room w : List ℕ) (k place n : ℕ) (olds owners senses : List ℕ) (own : Bool) (first : ℕ) : Type 0 where
  pub enough : words_needed room ≤ length w
  pub table : k < 10
  pub slots : n ≤ word room k
  pub each : (i : ℕ) → i < n → Longer (words_of room w k i) place (entries_for olds owners senses (cond own i 0) first)
