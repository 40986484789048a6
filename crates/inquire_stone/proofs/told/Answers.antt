-- `inquire_stone::told` meets its contract. Assumes nothing.
use mathlib.Core.Path.{ap, ◌∙◌}
use borrow.Author.Rules.{rules}
use Rattle.geom_lines_planes.specs.Refuse.{◌then◌}
use Rattle.meaning.specs.Refuse.{◌if◌}
use Rattle.meaning_list_laws.specs.Tests.{then-assoc, unless_not}
use Rattle.inquire_stone.specs.Laws.{told-refused, told-given}
use Rattle.inquire_stone.proofs.told.Goals as goal

pub returns-then-n-ne0 : goal.returns-then-n-ne0
returns-then-n-ne0 c =
    let s = c in
    told-refused s.args.t _ (c.then-n.ensures ∙ ap (λ k. k then c.weight_refusal.result) (c.then.ensures ∙ ap (λ k. s.args.t.refused then k) (c.unless.ensures ∙ unless_not 4 s.args.t.empty)) ∙ then-assoc s.args.t.refused (4 if s.args.t.empty) _ ∙ ap (λ k. s.args.t.refused then 4 if s.args.t.empty then k) c.weight_refusal.ensures) c.if-n-ne0.true

pub returns : goal.returns
returns c =
    let s = c in
    told-given s.args.t _ (c.then-n.ensures ∙ ap (λ k. k then c.weight_refusal.result) (c.then.ensures ∙ ap (λ k. s.args.t.refused then k) (c.unless.ensures ∙ unless_not 4 s.args.t.empty)) ∙ then-assoc s.args.t.refused (4 if s.args.t.empty) _ ∙ ap (λ k. s.args.t.refused then 4 if s.args.t.empty then k) c.weight_refusal.ensures) c.if-n-ne0.false
