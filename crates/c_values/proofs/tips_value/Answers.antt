-- `c_values::tips_value` meets its contract. Assumes nothing.
use Rattle.c_values.specs.Crossing.{tips_value}
use borrow.Author.Rules.{rules}
use Rattle.c_values.proofs.tips_value.Goals as goal

pub returns : goal.returns
unfolding tips_value
returns c = rw (c.ref_value-b.ensures, c.ref_value-a.ensures)
