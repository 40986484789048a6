-- `curve::Line::eval` meets its contract: what its calls ensure, put together, is `line_point`. Assumes nothing.
use mathlib.Core.Path.{ap, ◌∙◌}
use Rattle.float_vectors.specs.Space.{along}
use Rattle.geom_lines_planes.specs.Geometry.{line_point}
use Rattle.geom_lines_planes.proofs.curve.Line.eval.Goals as goal

pub returns : goal.returns
unfolding line_point
returns c = c.add.ensures ∙ ap (along c.args.self.origin) c.mul.ensures
