-- `inquire_regions::with_shell` meets its contract: a turn of the loop is one face more. Assumes nothing.
use Rattle.std.specs.Prelude.{◌≡◌, List, ◌++◌, map}
use Rattle.std.proofs.Common.{take}
use Rattle.meaning.specs.Inquire.{Side}
use Rattle.memory_layout.specs.Decode.{decode}
use Rattle.inquire_regions.specs.Regions.{tally_of}
use Rattle.inquire_regions.proofs.with_shell.Given as goal

abbrev pub invariant-loop-face : goal.invariant-loop-face
invariant-loop-face v = (l : List Side) → v.initial.t ≡ tally_of v.whole (decode v.room v.words v.reals) l → v.t ≡ tally_of v.whole (decode v.room v.words v.reals) (l ++ map (λ f. record { shell = v.shell; face = f }) (take v.face-index v.faces))
