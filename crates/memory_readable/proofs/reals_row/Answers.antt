-- `memory_readable::reals_row` meets its contract. Assumes nothing.
use Prim.Native.Nat.{◌+◌, ◌*◌, ◌-◌}
use mathlib.Core.Path.{◌≡◌}
use native.Mathlib.Omega.{arith}
use Rattle.memory_layout.specs.TableRows.{row}
use Rattle.memory_readable.proofs.reals_row.Goals as goal

pub returns : goal.returns
unfolding row
returns c =
    let s = c in
    let e : s.args.n * s.args.i + s.args.n - s.args.n * s.args.i ≡ s.args.n = omega arith in
    rw e
