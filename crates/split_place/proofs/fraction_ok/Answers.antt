-- `split_place::fraction_ok` meets its contract. Assumes nothing.
use borrow.Author.Rules.{rules}
use lib.Ieee.{of_bits}
use Rattle.split_place.specs.Place.{fraction_ok}
use Rattle.split_place.specs.Laws.{one-bits}
use Rattle.split_place.proofs.fraction_ok.Goals as goal

pub returns : goal.returns
unfolding fraction_ok of_bits
returns c = let one = one-bits in cc
