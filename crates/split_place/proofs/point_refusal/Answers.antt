-- `split_place::point_refusal` meets its contract. Assumes nothing.
use borrow.Author.Rules.{rules}
use Rattle.split_place.specs.Place.{point_test}
use Rattle.split_place.proofs.point_refusal.Goals as goal

pub returns : goal.returns
unfolding point_test
returns c =
    rw (c.then-2.ensures, c.then.ensures, c.unless.ensures, c.is_finite.ensures, c.unless-end.ensures, c.is_positive-2.ensures, c.apart-2.ensures, c.unless-start.ensures, c.is_positive.ensures, c.apart.ensures)
