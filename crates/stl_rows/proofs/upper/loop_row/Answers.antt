-- `stl_rows::upper::loop_row` meets its contract. Assumes nothing.
use Prim.Native.Nat.{◌+◌, ◌*◌}
use mathlib.Core.Path.{ap}
use mathlib.Core.List.{◌∷◌}
use Rattle.stl_rows.specs.Laws.{three-run}
use Rattle.stl_rows.proofs.upper.loop_row.Goals as goal

pub returns : goal.returns
returns c = ap (λ l. (c.args.face + c.args.k) ∷ 3 ∷ l) (three-run (c.args.fin + 3 * c.args.k))
