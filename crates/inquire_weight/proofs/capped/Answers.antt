-- `inquire_weight::capped` meets its contract. Assumes nothing.
use Rattle.inquire_weight.specs.Laws.{capped-above, capped-below}
use Rattle.inquire_weight.proofs.capped.Goals as goal

pub returns-then-n-gt4096 : goal.returns-then-n-gt4096
returns-then-n-gt4096 c = capped-above c.args.n c.if-n-gt4096.true

pub returns : goal.returns
returns c = capped-below c.args.n c.if-n-gt4096.false
