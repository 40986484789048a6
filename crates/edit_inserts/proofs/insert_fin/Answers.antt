-- `edit_inserts::insert_fin` meets its contract. Assumes nothing.
use borrow.Author.Rules.{rules}
use Rattle.edit_inserts.proofs.insert_fin.Goals as goal

pub returns : goal.returns
returns c =
    let f = c.fin_fields-fields.ensures in
    rw (← f) c.insert_fields.ensures
