-- `check_fit::any_face` meets its contract: a turn of the loop is one shell more. Assumes nothing.
use Rattle.std.proofs.Common.{◌≡◌, take}
use Rattle.meaning.specs.Lists.{any}
use Rattle.check_fit.specs.Whole.{faced_in}
use Rattle.check_fit.proofs.any_face.Given as goal

abbrev pub invariant-loop-shell : goal.invariant-loop-shell
invariant-loop-shell l = l.found ≡ any (faced_in l.room l.words) (take l.shell-index l.shells)
