-- `inquire_weight::above` meets its contract. Assumes nothing.
use Rattle.inquire_weight.specs.Laws.{over_none, over-cast, over-is}
use Rattle.inquire_weight.proofs.above.Goals as goal

pub returns-then-v-lt0 : goal.returns-then-v-lt0
returns-then-v-lt0 c = over_none c.args.v c.requires c.if-v-lt0.true

pub overflow_cast-result : goal.overflow_cast-result
overflow_cast-result c = over-cast c.args.v c.requires c.if-v-lt0.false

pub returns : goal.returns
returns c = over-is c.args.v c.requires c.if-v-lt0.false
