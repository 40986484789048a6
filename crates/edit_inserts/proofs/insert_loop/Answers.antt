-- `edit_inserts::insert_loop` meets its contract. Assumes nothing.
use borrow.Author.Rules.{rules}
use Rattle.edit_inserts.proofs.insert_loop.Goals as goal

pub returns : goal.returns
returns c = c.insert_fields.ensures
