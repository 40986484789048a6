-- `split_lists::beside::double` meets its contract. Assumes nothing.
use native.Mathlib.Omega.{arith}
use mathlib.Core.Path.{refl}
use Rattle.split_lists.proofs.beside.double.Goals as goal

pub slice_bounds-double_with-end : goal.slice_bounds-double_with-end
slice_bounds-double_with-end c = refl

pub double_with-requires : goal.double_with-requires
double_with-requires c = record { olds = c.requires.olds; longer = c.requires.longer; in_bounds = omega arith }

pub shape_of-w : goal.shape_of-w
shape_of-w c = c.double_with.auto.w

pub returns : goal.returns
returns c = c.double_with.ensures
