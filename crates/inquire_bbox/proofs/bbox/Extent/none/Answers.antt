-- `bbox::Extent::none` meets its contract. Assumes nothing.
use mathlib.Core.Path.{sym}
use lib.Ieee.{of_bits}
use Rattle.inquire_bbox.specs.Laws.{extent-none}
use Rattle.inquire_bbox.proofs.bbox.Extent.none.Goals as goal

pub returns : goal.returns
unfolding of_bits
returns c = sym extent-none
