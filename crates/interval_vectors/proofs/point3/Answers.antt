-- `interval_vectors::point3` meets its contract: what its calls ensure, put together, is `point_i3`. Assumes nothing.
use borrow.Author.Rules.{rules}
use Rattle.interval_vectors.specs.Vectors.{point_i3}
use Rattle.interval_vectors.proofs.point3.Goals as goal

pub returns : goal.returns
unfolding point_i3
returns c =
    λ i. record { x = c.point.ensures i; y = c.point-2.ensures i; z = c.point-3.ensures i }
