-- `stl_regions::with_shell` meets its contract: a turn of the loop is one face more. Assumes nothing.
use Rattle.std.specs.Prelude.{◌+◌, ◌*◌, ◌≤◌, map, take}
use Rattle.memory_layout.specs.Decode.{decode}
use Rattle.stl_fan.specs.Pens.{Drawn}
use Rattle.stl_regions.proofs.with_shell.Given as goal

abbrev pub invariant-loop-face : goal.invariant-loop-face
invariant-loop-face l = (l.t.count ≤ l.initial.t.count + 1024 * l.face-index) × Drawn (decode l.room l.words l.reals) (map (λ f. record { shell = l.shell; face = f }) (take l.face-index l.faces)) l.initial.t l.t l.initial.bytes l.bytes
