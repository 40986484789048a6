-- `edit_inserts::insert_body` meets its contract. Assumes nothing.
use borrow.Author.Rules.{rules}
use Rattle.edit_inserts.proofs.insert_body.Goals as goal

pub returns : goal.returns
returns c =
    let f = c.body_fields-fields.ensures in
    rw (← f) c.insert.ensures
