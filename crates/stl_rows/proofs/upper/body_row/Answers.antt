-- `stl_rows::upper::body_row` meets its contract. Assumes nothing.
use mathlib.Core.Path.{ap}
use mathlib.Core.List.{◌∷◌}
use Rattle.stl_rows.specs.Laws.{two_run}
use Rattle.stl_rows.proofs.upper.body_row.Goals as goal

pub returns : goal.returns
returns c = ap (λ l. 3 ∷ c.args.office ∷ 2 ∷ l) (two_run c.args.region)
