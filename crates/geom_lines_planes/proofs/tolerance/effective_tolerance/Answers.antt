-- `tolerance::effective_tolerance` meets its contract, whichever rule holds. Assumes nothing.
use mathlib.Core.Path.{sym, ap, ◌∙◌}
use Rattle.geom_lines_planes.specs.declared.tolerance.Tolerance.{Tolerance}
use Rattle.geom_lines_planes.specs.Geometry.{effective}
use Rattle.geom_lines_planes.proofs.tolerance.effective_tolerance.Goals as goal

pub returns-in-Own : goal.returns-in-Own
unfolding effective
returns-in-Own c =
    let s = c in
    c.rule.ensures ∙ sym (ap (λ (l : Tolerance). effective s.args.version l s.args.precision) c.in-Own.is)

pub returns-in-Session : goal.returns-in-Session
unfolding effective
returns-in-Session c =
    let s = c in
    sym (ap (λ (l : Tolerance). effective s.args.version l s.args.precision) c.in-Session.is)
