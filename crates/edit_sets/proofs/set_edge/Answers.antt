-- `edit_sets::set_edge` meets its contract. Assumes nothing.
use borrow.Author.Rules.{rules}
use Rattle.edit_sets.proofs.set_edge.Goals as goal

pub returns : goal.returns
returns c =
    let a = c.tolerance_ok.ensures in
    let f = c.edge_fields-fields.ensures in
    let x = c.edge_floats-floats.ensures in
    rw (← a, ← f, ← x) c.edit.ensures
