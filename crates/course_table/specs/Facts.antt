-- What the functions behind the test of a course table may rely on. No reader of a public promise needs this file. Definitions only.
use Rattle.std.specs.Prelude.{ℕ, ◌+◌, ◌*◌, ◌≤◌, ◌<◌, List, length}
use Rattle.memory_layout.specs.Layout.{word}

-- course c has its 17 words
pub record Lies (w : List ℕ) (c : ℕ) : Type 0 where
  pub few : c < 256
  pub whole : 18 + 17 * c ≤ length w

-- n courses have theirs
pub record Rows (w : List ℕ) (n : ℕ) : Type 0 where
  pub few : n ≤ 256
  pub long : 1 + 17 * n ≤ length w

-- the table can be read
pub record Laid (w : List ℕ) : Type 0 where
  pub few : word w 0 ≤ 256
  pub long : 1 + 17 * word w 0 ≤ length w
  pub short : (c : ℕ) → c < word w 0 → word w (1 + 17 * c) ≤ 16
