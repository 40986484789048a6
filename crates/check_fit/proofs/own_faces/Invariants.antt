-- `check_fit::own_faces` meets its contract: a turn of the loop is one face more. Assumes nothing.
use Rattle.std.proofs.Common.{◌≡◌, take}
use Rattle.meaning.specs.Lists.{all}
use Rattle.check_fit.specs.Whole.{owns_in}
use Rattle.check_fit.proofs.own_faces.Given as goal

abbrev pub invariant-loop-id : goal.invariant-loop-id
invariant-loop-id l = l.ok ≡ all (owns_in l.room l.words l.path) (take l.id-index l.ids)
