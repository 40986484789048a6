-- `edit_sets::set_shell` meets its contract. Assumes nothing.
use mathlib.Core.Path.{refl}
use borrow.Author.Rules.{rules}
use Rattle.edit_sets.proofs.Placed.{placed}
use Rattle.edit_sets.proofs.set_shell.Goals as goal

pub returns : goal.returns
returns c =
    let e = c.set_fields.ensures in
    record { answer = e.answer; tables = placed _ _ _ _ _ _ _ _ _ e.tables refl; floats = e.floats }
