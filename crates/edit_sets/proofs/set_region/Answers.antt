-- `edit_sets::set_region` meets its contract. Assumes nothing.
use borrow.Author.Rules.{rules}
use Rattle.edit_sets.proofs.set_region.Goals as goal

pub returns : goal.returns
returns c =
    let f = c.region_fields-fields.ensures in
    rw (← f) c.set_fields.ensures
