-- `edit_sets::set_fin` meets its contract. Assumes nothing.
use borrow.Author.Rules.{rules}
use Rattle.edit_sets.proofs.set_fin.Goals as goal

pub returns : goal.returns
returns c =
    let f = c.fin_fields-fields.ensures in
    rw (← f) c.set_fields.ensures
