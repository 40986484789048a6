-- `slab_faces::face_axis` meets its contract. Assumes nothing.
use mathlib.Core.Path.{ap, ◌∙◌}
use Rattle.meaning_slabs.specs.Slabs.{axis_of}
use Rattle.slab_faces.proofs.face_axis.Goals as goal

pub normal_of-requires : goal.normal_of-requires
normal_of-requires c = c.requires

pub returns : goal.returns
returns c = c.axis_of.ensures ∙ ap axis_of c.normal_of.ensures
