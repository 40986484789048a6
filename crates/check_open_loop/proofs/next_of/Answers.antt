-- `check_open_loop::next_of` meets its contract: the last comes before the first. Assumes nothing.
use Rattle.check_open_loop.specs.Laws.{next-follows, next-first}
use Rattle.check_open_loop.proofs.next_of.Goals as goal

pub returns-then-i-fins : goal.returns-then-i-fins
returns-then-i-fins c = next-follows c.args.fins.now c.args.k c.if-i-fins.true

pub returns : goal.returns
returns c = next-first c.args.fins.now c.args.k c.requires c.if-i-fins.false
