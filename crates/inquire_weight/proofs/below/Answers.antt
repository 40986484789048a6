-- `inquire_weight::below` meets its contract. Assumes nothing.
use Rattle.inquire_weight.specs.Laws.{turned-fits, under_none, under-cast, under-is}
use Rattle.inquire_weight.proofs.below.Goals as goal

pub overflow_sub-result : goal.overflow_sub-result
overflow_sub-result c = turned-fits c.args.v c.requires

pub overflow_cast-result : goal.overflow_cast-result
overflow_cast-result c = under-cast c.args.v c.requires c.if-v-lt0.true

pub returns-then-v-lt0 : goal.returns-then-v-lt0
returns-then-v-lt0 c = under-is c.args.v c.requires c.if-v-lt0.true

pub returns : goal.returns
returns c = under_none c.args.v c.requires c.if-v-lt0.false
