-- `image_accepted::tables_end` meets its contract. Assumes nothing.
use Rattle.std.specs.Prelude.{◌≡◌, ◌≤◌, length}
use Rattle.image_accepted.specs.Ends.{tables_end}
use Rattle.image_accepted.proofs.tables_end.Given as goal

abbrev pub invariant-loop-k : goal.invariant-loop-k
invariant-loop-k l = (l.end ≡ tables_end l.bytes l.k) × (l.end ≤ length l.bytes)
