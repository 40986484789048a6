-- `inquire_stone::body_stone` meets its contract. Assumes nothing.
use mathlib.Core.Path.{◌∙◌, ap}
use Rattle.inquire_stone.specs.Told.{told_stone}
use Rattle.inquire_stone.specs.Laws.{stone-told}
use borrow.Author.Rules.{rules}
use Rattle.inquire_stone.proofs.body_stone.Goals as goal

pub returns : goal.returns
returns c =
    let s = c in
    let t = c.body_tally.ensures in
    record { answer = c.told.ensures ∙ ap told_stone t.answer ∙ stone-told s.args.room.now s.args.words.now s.args.reals.now s.args.body s.args.faces.now; faces = t.faces }
