-- `tolerance::rule` meets its contract, version by version. Assumes nothing.
use mathlib.Core.Path.{sym, ap, ◌∙◌}
use Rattle.geom_lines_planes.specs.declared.tolerance.Version.{Version}
use Rattle.geom_lines_planes.specs.Geometry.{rule}
use Rattle.geom_lines_planes.proofs.tolerance.rule.Goals as goal

pub returns-in-First : goal.returns-in-First
unfolding rule
returns-in-First c = sym (ap (λ (v : Version). rule v c.args.own c.args.session) c.in-First.is)

pub returns-in-Second : goal.returns-in-Second
returns-in-Second c =
    c.larger.ensures
    ∙ sym (ap (λ (v : Version). rule v c.args.own c.args.session) c.in-Second.is)
