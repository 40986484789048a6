-- `inquire_tally::body_tally` meets its contract. Assumes nothing.
use mathlib.Core.Path.{sym, ◌∙◌}
use Rattle.walk_answers.specs.Calls.{reach}
use Rattle.inquire_polyhedral.specs.Laws.{accepted-polyhedral, polyhedral-edged}
use Rattle.inquire_tally.specs.Laws.{tally-refused, tally-given}
use borrow.Author.Rules.{rules}
use Rattle.inquire_tally.proofs.body_tally.Goals as goal

pub returns-then-n-ne0 : goal.returns-then-n-ne0
returns-then-n-ne0 c =
    let s = c in
    record { answer = c.refused_tally.ensures ∙ tally-refused s.args.whole s.args.room.now s.args.words.now s.args.reals.now s.args.body s.args.faces.now _ c.polyhedral_refusal-n.ensures c.if-n-ne0.true; faces = c.clear.ensures }

pub solid_tally-requires : goal.solid_tally-requires
solid_tally-requires c =
    let s = c in
    let a = accepted-polyhedral s.args.room.now s.args.words.now s.args.reals.now s.args.body (reach s.args.room.now 3 s.args.faces.now) (sym c.polyhedral_refusal-n.ensures ∙ c.if-n-ne0.false) in
    record { fit = a.0; edged = polyhedral-edged s.args.room.now s.args.words.now s.args.reals.now s.args.body a.1 }

pub returns : goal.returns
returns c =
    let s = c in
    record { answer = tally-given s.args.whole s.args.room.now s.args.words.now s.args.reals.now s.args.body s.args.faces.now _ (sym c.polyhedral_refusal-n.ensures ∙ c.if-n-ne0.false) c.solid_tally.ensures; faces = c.clear.ensures }
