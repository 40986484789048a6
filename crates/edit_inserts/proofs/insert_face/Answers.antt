-- `edit_inserts::insert_face` meets its contract. Assumes nothing.
use borrow.Author.Rules.{rules}
use Rattle.edit_inserts.proofs.insert_face.Goals as goal

pub returns : goal.returns
returns c =
    let f = c.face_fields-fields.ensures in
    rw (← f) c.insert_fields.ensures
