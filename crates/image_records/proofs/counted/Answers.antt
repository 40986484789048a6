-- `image_records::counted` meets its contract. Assumes nothing.
use Prim.Native.Nat.{suc, ◌+◌, ◌-◌}
use native.Mathlib.Omega.{arith}
use mathlib.Core.Path.{◌≡◌}
use Rattle.memory_layout.specs.Layout.{word}
use Rattle.image_records.proofs.counted.Goals as goal

pub returns : goal.returns
returns c =
    let s = c in
    let at = s.args.at in
    let n = word s.args.w.now at in
    let e : at + 1 + n - at ≡ suc n = omega arith in
    rw e
