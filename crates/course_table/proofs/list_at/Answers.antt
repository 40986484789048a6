-- `course_table::list_at` meets its contract. Assumes nothing.
use Prim.Native.Nat.{◌+◌, ◌-◌}
use mathlib.Core.Path.{◌≡◌}
use native.Mathlib.Numerals.{add-one}
use native.Mathlib.Omega.{arith}
use Rattle.memory_layout.specs.Layout.{word}
use Rattle.memory_layout.specs.Decode.{list_at}
use Rattle.course_table.proofs.list_at.Goals as goal

pub returns : goal.returns
unfolding list_at
returns c =
    let s = c in
    let at = s.args.at in
    let n = word s.args.courses.now at in
    let e : at + 1 + n - (at + 1) ≡ n = omega arith in
    rw (e, add-one at)
