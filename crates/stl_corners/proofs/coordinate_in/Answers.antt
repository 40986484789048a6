-- `stl_corners::coordinate_in` meets its contract. Assumes nothing.
use mathlib.Core.Path.{ap, ◌∙◌}
use lib.Ieee.{binary32, of_bits}
use Rattle.stl_body.specs.Read.{coordinate_in}
use Rattle.stl_corners.proofs.coordinate_in.Goals as goal

pub returns : goal.returns
unfolding coordinate_in
returns c = c.single_of.ensures ∙ ap (of_bits binary32) c.word_in.ensures
