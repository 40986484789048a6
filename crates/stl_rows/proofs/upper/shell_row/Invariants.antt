-- `stl_rows::upper::shell_row` meets its contract: a turn of the loop is one face more. Assumes nothing.
use Rattle.std.specs.Prelude.{◌≡◌, ◌∷◌, ◌+◌, length, take}
use Rattle.meaning.specs.Lists.{run}
use Rattle.stl_rows.proofs.upper.shell_row.Given as goal

abbrev pub invariant-loop-k : goal.invariant-loop-k
invariant-loop-k l = (take (2 + l.k) l.row ≡ l.region ∷ l.n ∷ run l.face l.k) × (length l.row ≡ 514)
