-- `inquire_regions::with_shells` meets its contract: a turn of the loop is one shell more. Assumes nothing.
use Rattle.std.specs.Prelude.{◌≡◌, List, ◌++◌}
use Rattle.std.proofs.Common.{take}
use Rattle.meaning.specs.Lists.{joined}
use Rattle.meaning.specs.Inquire.{Side, sides_of}
use Rattle.memory_layout.specs.Decode.{decode}
use Rattle.inquire_regions.specs.Regions.{tally_of}
use Rattle.inquire_regions.proofs.with_shells.Given as goal

abbrev pub invariant-loop-shell : goal.invariant-loop-shell
invariant-loop-shell v = (l : List Side) → v.initial.t ≡ tally_of v.whole (decode v.room v.words v.reals) l → v.t ≡ tally_of v.whole (decode v.room v.words v.reals) (l ++ joined (sides_of (decode v.room v.words v.reals)) (take v.shell-index v.shells))
