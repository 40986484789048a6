-- `stl_regions::with_shells` meets its contract: a turn of the loop is one shell more. Assumes nothing.
use Rattle.std.specs.Prelude.{◌+◌, ◌*◌, ◌≤◌, take}
use Rattle.meaning.specs.Lists.{joined}
use Rattle.meaning.specs.Inquire.{sides_of}
use Rattle.memory_layout.specs.Decode.{decode}
use Rattle.stl_fan.specs.Pens.{Drawn}
use Rattle.stl_regions.proofs.with_shells.Given as goal

abbrev pub invariant-loop-shell : goal.invariant-loop-shell
invariant-loop-shell l = (l.t.count ≤ l.initial.t.count + 0x80000 * l.shell-index) × Drawn (decode l.room l.words l.reals) (joined (sides_of (decode l.room l.words l.reals)) (take l.shell-index l.shells)) l.initial.t l.t l.initial.bytes l.bytes
