-- `inquire_volume::body_volume` meets its contract. Assumes nothing.
use mathlib.Core.Path.{◌∙◌, ap}
use Rattle.inquire_volume.specs.Told.{told_volume}
use Rattle.inquire_volume.proofs.Laws.{volume-told}
use borrow.Author.Rules.{rules}
use Rattle.inquire_volume.proofs.body_volume.Goals as goal

pub returns : goal.returns
returns c =
    let s = c in
    let t = c.body_tally.ensures in
    record { answer = c.told.ensures ∙ ap told_volume t.answer ∙ volume-told s.args.room.now s.args.words.now s.args.reals.now s.args.body s.args.faces.now; faces = t.faces }
