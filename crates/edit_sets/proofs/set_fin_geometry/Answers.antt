-- `edit_sets::set_fin_geometry` meets its contract. Assumes nothing.
use borrow.Author.Rules.{rules}
use Rattle.edit_sets.proofs.set_fin_geometry.Goals as goal

pub returns : goal.returns
returns c = record { answer = c.set_fields.ensures.answer; tables = c.set_fields.ensures.tables; floats = c.set_fields.ensures.floats }
