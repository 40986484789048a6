-- `inquire_stone::weight_refusal` meets its contract. Assumes nothing.
use borrow.Author.Rules.{rules}
use Rattle.inquire_stone.specs.Laws.{weight-number}
use Rattle.inquire_stone.proofs.weight_refusal.Goals as goal

pub returns : goal.returns
returns c = weight-number c.args.w _ _ _ c.unless.ensures c.unless-2.ensures c.then.ensures
