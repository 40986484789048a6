-- `stl_triangles::spot_of` meets its contract. Assumes nothing.
use borrow.Author.Rules.{rules}
use Rattle.stl_triangles.specs.Spots.{spot_of}
use Rattle.stl_triangles.proofs.spot_of.Goals as goal

pub returns : goal.returns
unfolding spot_of
returns c = λ i. record { x = c.narrow_bits.ensures i; y = c.narrow_bits-2.ensures i; z = c.narrow_bits-3.ensures i }
