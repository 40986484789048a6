-- `edit_sets::set_surface` meets its contract. Assumes nothing.
use borrow.Author.Rules.{rules}
use Rattle.edit_sets.proofs.set_surface.Goals as goal

pub returns : goal.returns
returns c =
    let f = c.carrier_fields-fields.ensures in
    let x = c.carrier_floats-floats.ensures in
    rw (← f, ← x) c.edit.ensures
