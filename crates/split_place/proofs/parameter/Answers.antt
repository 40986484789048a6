-- `split_place::parameter` meets its contract. Assumes nothing.
use borrow.Author.Rules.{rules}
use Rattle.split_place.specs.Place.{along}
use Rattle.split_place.proofs.parameter.Goals as goal

pub returns : goal.returns
unfolding along
returns c = rw (c.hi.ensures, c.lo-lo.ensures)
