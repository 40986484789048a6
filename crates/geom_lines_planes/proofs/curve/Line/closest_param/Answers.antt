-- `curve::Line::closest_param` meets its contract: what its calls ensure, put together, is `nearest`. Assumes nothing.
use mathlib.Core.Path.{ap, ◌∙◌}
use Rattle.float_vectors.specs.declared.vector.Vec3.{Vec3}
use Rattle.float_vectors.specs.Space.{dot_v}
use Rattle.geom_lines_planes.specs.Geometry.{nearest}
use Rattle.geom_lines_planes.proofs.curve.Line.closest_param.Goals as goal

pub returns : goal.returns
unfolding nearest
returns c = c.dot.ensures ∙ ap (λ (v : Vec3). dot_v v c.args.self.direction) c.sub.ensures
