-- `slab_faces::height` meets its contract. Assumes nothing.
use mathlib.Core.Path.{ap, ◌∙◌}
use Rattle.meaning_slabs.specs.Slabs.{on}
use Rattle.inquire_fin_starts.specs.Starts.{start_point}
use Rattle.slab_faces.proofs.height.Goals as goal

pub start_point-requires : goal.start_point-requires
start_point-requires c = c.requires

pub returns : goal.returns
unfolding start_point
returns c = c.on.ensures ∙ ap (on c.args.axis) c.start_point.ensures
