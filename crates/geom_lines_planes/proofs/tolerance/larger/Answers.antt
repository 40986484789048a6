-- `tolerance::larger` meets its contract. Assumes nothing.
use Rattle.geom_lines_planes.specs.Geometry.{rule}
use Rattle.geom_lines_planes.proofs.tolerance.larger.Goals as goal

pub returns-then-own-session : goal.returns-then-own-session
unfolding rule
returns-then-own-session c = rw c.if-own-session.true

pub returns : goal.returns
unfolding rule
returns c = rw c.if-own-session.false
