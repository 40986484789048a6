-- The records of an extended table. Assumes nothing.
use Rattle.std.specs.Prelude.{ℕ, ◌-◌, ◌≤◌, ◌<◌, ◌≡◌}
use Rattle.std.proofs.Common.{lt-ltb, le-ltb}
use Rattle.meaning.specs.Model.{Table, extended}

-- a record of an extended table: an old one, or a new one
module _ {A : Type 0} (t : Table A) (n : ℕ) (new : ℕ → A) where
  pub extended-old : (i : ℕ) → i < t.used → (extended t n new).slot i ≡ t.slot i
  unfolding extended
  extended-old i h = rw (lt-ltb i t.used h)

  pub extended-new : (i : ℕ) → t.used ≤ i → (extended t n new).slot i ≡ new (i - t.used)
  unfolding extended
  extended-new i h = rw (le-ltb i t.used h)
