-- `check_reasons::row` meets its contract: the table is that of `meaning`, in numbers, all 26 rows at once. Assumes nothing.
use Prim.Native.Nat.{◌<◌, ◌-◌}
use native.Mathlib.Omega.{arith}
use Rattle.meaning.specs.Faults.{reasons}
use Rattle.check_reasons.specs.Log.{in_numbers}
use Rattle.check_reasons.specs.Laws.{map-nth}
use borrow.Author.Rules.{rules}
use Rattle.check_reasons.proofs.row.Goals as goal

pub returns : goal.returns
returns c = let h : c.args.n - 1 < 26 = omega arith in map-nth in_numbers reasons (c.args.n - 1) _ _ h
