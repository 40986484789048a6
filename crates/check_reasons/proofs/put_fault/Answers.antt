-- `check_reasons::put_fault` meets its contract. Assumes nothing.
use mathlib.Core.Path.{refl}
use Rattle.check_reasons.specs.Laws.{sets-four}
use borrow.Author.Rules.{rules}
use Rattle.check_reasons.proofs.put_fault.Goals as goal

pub returns : goal.returns
returns c = sets-four c.args.nums.now _ _ _ _ _ c.args.k _ _ _ _ refl c.put.ensures c.put-2.ensures c.put-3.ensures c.put-4.ensures
