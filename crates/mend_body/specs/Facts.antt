-- What the inner functions ask. No reader of a public promise needs this file. Definitions only.
use Rattle.std.specs.Prelude.{ℕ, ◌≤◌, ◌≡◌, List, length, replicate}
use Rattle.memory_layout.specs.Fit.{Lists}
use Rattle.mend_meetings.specs.Machine.{MARKS}

-- the lists stand whole, and there are marks, all of them zero
pub record Tested (room w s : List ℕ) : Type 0 where
  pub lists : Lists room w
  pub long : MARKS ≤ length s
  pub zeros : s ≡ replicate (length s) 0
