-- `slab_rules::judged` meets its contract. Assumes nothing.
use Rattle.slab_rules.specs.Laws.{all-judged}
use borrow.Author.Rules.{rules}
use Rattle.slab_rules.proofs.judged.Goals as goal

pub returns : goal.returns
returns c = let s = c in record { is = all-judged _ _ _ _ _ _ s.args.one s.args.two s.args.three s.args.four s.args.five s.args.six c.judge.ensures c.judge-2.ensures c.judge-faces.ensures c.judge-3.ensures c.judge-4.ensures c.judge-5.ensures }
