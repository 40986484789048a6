-- `walk_marks::has` meets its contract: a turn of the loop is one more entry. Assumes nothing.
use Rattle.std.specs.Prelude.{◌≡◌}
use Rattle.std.proofs.Common.{take}
use Rattle.meaning.specs.Lists.{member}
use Rattle.walk_marks.proofs.has.Given as goal

abbrev pub invariant-loop-id : goal.invariant-loop-id
invariant-loop-id l = l.found ≡ member l.x (take l.id-index l.ids)
