-- `inquire_regions::none` meets its contract. Assumes nothing.
use lib.Ieee.{of_bits}
use Rattle.inquire_regions.specs.Laws.{tally-none}
use Rattle.inquire_regions.proofs.none.Goals as goal

pub returns : goal.returns
unfolding of_bits
returns c = λ whole m. tally-none m _ c.no_weight.ensures whole
