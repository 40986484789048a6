-- `wedge` meets its contract: what its calls ensure. Assumes nothing.
use mathlib.Core.Path.{ap, ap₂, ◌∙◌}
use Rattle.float_vectors.specs.Space.{dot_v, cross_v}
use Rattle.meaning.specs.Floats.{to_vec}
use Rattle.inquire_fan.specs.Fan.{wedge}
use Rattle.inquire_fan.proofs.wedge.Goals as goal

pub returns : goal.returns
unfolding wedge
returns c =
    let sub2 = c in
    let o = sub2.args.o in
    c.dot.ensures ∙ ap (dot_v (to_vec o)) (c.cross.ensures ∙ ap₂ cross_v sub2.sub-a.ensures sub2.sub-b.ensures)
