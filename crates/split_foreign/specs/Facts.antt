-- What the inner functions ask and leave. No reader of a public promise needs this file. Definitions only.
use Rattle.std.specs.Prelude.{ℕ, ◌≤◌, ◌≡◌, List, length}
use Rattle.split_foreign.specs.Status.{entry, standing}

-- a row with room for n statuses, in which no record stands yet
pub record Fresh (n : ℕ) (s : List ℕ) : Type 0 where
  pub enough : n ≤ length s
  pub each : (k : ℕ) → standing s k ≡ 2

-- a row with the statuses f of n records, and no other
pub record Rows (n : ℕ) (f : ℕ → ℕ) (s : List ℕ) : Type 0 where
  pub each : (k : ℕ) → standing s k ≡ entry n f k
