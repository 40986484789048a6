-- `slab_rules::judge` meets its contract. Assumes nothing.
use Rattle.slab_rules.specs.Laws.{judge-stays, judge-holds, judge-names}
use borrow.Author.Rules.{rules}
use Rattle.slab_rules.proofs.judge.Goals as goal

pub returns-then-v-ne0 : goal.returns-then-v-ne0
returns-then-v-ne0 c = let s = c in judge-stays s.args.v s.args.rule s.args.n c.if-v-ne0.true

pub returns-then-n-eq0 : goal.returns-then-n-eq0
returns-then-n-eq0 c = let s = c in judge-holds s.args.v s.args.rule s.args.n c.if-v-ne0.false c.if-n-eq0.true

pub returns : goal.returns
returns c = let s = c in judge-names s.args.v s.args.rule s.args.n c.if-v-ne0.false c.if-n-eq0.false
