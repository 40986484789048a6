-- `inquire_volume::told` meets its contract. Assumes nothing.
use mathlib.Core.Path.{ap, ◌∙◌}
use Rattle.geom_lines_planes.specs.Refuse.{◌then◌}
use Rattle.inquire_volume.specs.Laws.{told-refused, told-given}
use Rattle.meaning_list_laws.specs.Tests.{unless_not}
use borrow.Author.Rules.{rules}
use Rattle.inquire_volume.proofs.told.Goals as goal

pub returns-then-n-ne0 : goal.returns-then-n-ne0
returns-then-n-ne0 c =
    let s = c in
    told-refused s.args.t _ (c.then-n.ensures ∙ ap (λ k. s.args.t.refused then k) (c.unless.ensures ∙ unless_not 4 s.args.t.empty)) c.if-n-ne0.true

pub returns : goal.returns
returns c =
    let s = c in
    told-given s.args.t _ (c.then-n.ensures ∙ ap (λ k. s.args.t.refused then k) (c.unless.ensures ∙ unless_not 4 s.args.t.empty)) c.if-n-ne0.false
