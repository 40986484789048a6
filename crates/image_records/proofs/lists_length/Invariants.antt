-- `image_records::lists_length` meets its contract: a turn of the loop is one more list. Assumes nothing.
use Rattle.std.specs.Prelude.{◌≡◌, length}
use Rattle.image_records.specs.Kept.{lists_of}
use Rattle.image_records.proofs.lists_length.Given as goal

abbrev pub invariant-loop-j : goal.invariant-loop-j
invariant-loop-j l = l.long ≡ length (lists_of l.k l.w l.j)
