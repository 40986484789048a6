-- `course_stones::course_stones` meets its contract. Assumes nothing.
use mathlib.Core.Path.{ap, ◌∙◌}
use lib.ListN.{length, length-replicate}
use Rattle.course_stones.specs.Weighing.{kept-zero, summed}
use Rattle.course_stones.proofs.course_stones.Goals as goal

pub weigh-requires : goal.weigh-requires
weigh-requires c =
    record { n_bound = c.requires.in_bounds.1; laid = c.requires.laid; faces_value = kept-zero c.clear.new.marks (length c.args.faces.now) c.clear.ensures }

pub shape_of-faces : goal.shape_of-faces
shape_of-faces c =
    let w = c.weigh.ensures.faces in
    ap length (w ∙ c.clear.ensures) ∙ length-replicate _ _

pub returns : goal.returns
returns c =
    let s = c in
    let cleared = c.clear.ensures in
    let w = c.weigh.ensures in
    record { answer = c.course_sum.ensures ∙ summed s.args.room.now s.args.words.now s.args.reals.now s.args.office s.args.courses.now s.args.course _ _ cleared _ _ _ w.numbers w.above w.below; faces = w.faces ∙ cleared }
