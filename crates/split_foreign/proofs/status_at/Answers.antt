-- `split_foreign::status_at` meets its contract. Assumes nothing.
use mathlib.Core.Path.{sym}
use lib.ListN.{get_or-eq_default}
use Rattle.split_foreign.specs.Laws.{standing-in}
use Rattle.split_foreign.proofs.status_at.Goals as goal

pub returns-then-i-below : goal.returns-then-i-below
returns-then-i-below c = standing-in c.args.below.now c.args.i c.if-i-below.true

pub returns : goal.returns
returns c = sym (get_or-eq_default c.args.below.now 2 c.if-i-below.false)
