-- `interval_vectors::vector` meets its contract: what its calls ensure, put together, is `vector_i`. Assumes nothing.
use borrow.Author.Rules.{rules}
use Rattle.interval_vectors.specs.Vectors.{vector_i}
use Rattle.interval_vectors.proofs.vector.Goals as goal

pub returns : goal.returns
unfolding vector_i
returns c =
    λ i. record { x = c.difference.ensures i; y = c.difference-2.ensures i; z = c.difference-3.ensures i }
