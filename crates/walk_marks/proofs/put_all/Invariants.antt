-- `walk_marks::put_all` meets its contract: a turn of the loop is one more entry. Assumes nothing.
use Rattle.std.specs.Prelude.{◌≡◌}
use Rattle.std.proofs.Common.{take}
use Rattle.walk_marks.specs.Marks.{puts}
use Rattle.walk_marks.proofs.put_all.Given as goal

abbrev pub invariant-loop-k : goal.invariant-loop-k
invariant-loop-k l = l.out ≡ puts l.initial.out l.at (take l.k l.ids)
