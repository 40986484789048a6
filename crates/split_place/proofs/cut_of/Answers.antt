-- `split_place::cut_of` meets its contract. Assumes nothing.
use borrow.Author.Rules.{rules}
use Rattle.split_place.specs.Place.{cut_of}
use Rattle.split_place.proofs.cut_of.Goals as goal

pub returns : goal.returns
unfolding cut_of
returns c = rw (c.eval-3.ensures, c.parameter.ensures, c.eval-2.ensures, c.hi.ensures, c.eval.ensures, c.lo.ensures)
