-- `surface::Plane::distance` meets its contract: what its calls ensure, put together, is `plane_distance`. Assumes nothing.
use mathlib.Core.Path.{ap, ◌∙◌}
use Rattle.float_vectors.specs.declared.vector.Vec3.{Vec3}
use Rattle.float_vectors.specs.Space.{dot_v}
use Rattle.geom_lines_planes.specs.Geometry.{size_f, plane_distance}
use Rattle.geom_lines_planes.proofs.surface.Plane.distance.Goals as goal

pub returns : goal.returns
unfolding plane_distance
returns c =
    let sub = c in
    c.abs.ensures ∙ ap size_f (c.dot.ensures ∙ ap (λ (v : Vec3). dot_v v sub.args.self.normal) sub.sub.ensures)
