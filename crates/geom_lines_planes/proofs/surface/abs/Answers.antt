-- `surface::abs` meets its contract: each arm returns what `size_f` gives where its tests are as the arm found them. Assumes nothing.
use mathlib.Core.Path.{sym, subst}
use lib.Dec.{T}
use lib.Ieee.{binary64, fits, of_bits}
use Rattle.geom_lines_planes.specs.Size.{size_below, size-zero, size_above}
use Rattle.geom_lines_planes.proofs.surface.abs.Goals as goal
use Rattle.geom_lines_planes.proofs.surface.abs.Goals.{Start}

-- what owning an `f64` tells: the format holds it
held : (c : Start) → T (fits binary64 c.args.x)
held c = subst T (sym c.well_formed.0.1) tt

pub returns-then-x : goal.returns-then-x
unfolding of_bits
returns-then-x c = size_below c.args.x c.if-x.true

pub returns-then-x-2 : goal.returns-then-x-2
unfolding of_bits
returns-then-x-2 c = size-zero c.args.x (held c.before.before) c.if-x-2.true

pub returns : goal.returns
unfolding of_bits
returns c = size_above c.args.x c.if-x.false c.if-x-2.false
