-- `edit_inserts::insert_shell` meets its contract. Assumes nothing.
use borrow.Author.Rules.{rules}
use Rattle.edit_inserts.proofs.insert_shell.Goals as goal

pub returns : goal.returns
returns c = c.insert_fields.ensures
