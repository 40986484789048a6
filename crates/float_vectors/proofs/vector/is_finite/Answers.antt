-- `float_vectors::vector::is_finite` meets its contract: a number between the infinities is finite, and no other is. Assumes nothing.
use lib.Ieee.{div, neg, of_bits}
use Rattle.float_order.proofs.Bits.{finite-between}
use Rattle.float_vectors.proofs.vector.is_finite.Goals as goal

pub returns : goal.returns
unfolding div neg of_bits
returns c = finite-between c.args.x
