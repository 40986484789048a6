-- `walk_marks::all_below` meets its contract: a turn of the loop is one more entry. Assumes nothing.
use Rattle.std.specs.Prelude.{◌≡◌, ltb}
use Rattle.std.proofs.Common.{take}
use Rattle.meaning.specs.Lists.{all}
use Rattle.walk_marks.proofs.all_below.Given as goal

abbrev pub invariant-loop-id : goal.invariant-loop-id
invariant-loop-id l = l.ok ≡ all (λ x. ltb x l.used) (take l.id-index l.ids)
