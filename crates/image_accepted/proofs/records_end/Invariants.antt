-- `image_accepted::records_end` meets its contract. Assumes nothing.
use Rattle.std.specs.Prelude.{◌≡◌, ◌≤◌, length}
use Rattle.image_accepted.specs.Ends.{records_end}
use Rattle.image_accepted.proofs.records_end.Given as goal

abbrev pub invariant-loop : goal.invariant-loop
invariant-loop l = (l.end ≡ records_end l.k l.bytes l.counter l.at) × (l.end ≤ length l.bytes)
