-- `inquire_tally::refused_tally` meets its contract. Assumes nothing.
use borrow.Author.Rules.{rules}
use lib.Ieee.{of_bits}
use Rattle.inquire_tally.specs.Laws.{nothing-weighed}
use Rattle.inquire_tally.proofs.refused_tally.Goals as goal

pub returns : goal.returns
unfolding of_bits
returns c = nothing-weighed c.args.n _ c.no_weight.ensures
