-- `edit_sets::set_body` meets its contract. Assumes nothing.
use borrow.Author.Rules.{rules}
use Rattle.edit_sets.proofs.set_body.Goals as goal

pub returns : goal.returns
returns c =
    let s = c in
    let f = c.kind_fields-fields.ensures in
    let i = c.body_for-seen.ensures s.args.room.now s.args.reals.now in
    rw (← f, ← i) c.edit.ensures
