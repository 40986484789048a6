-- `stl_reader::tables_fit` meets its contract. Assumes nothing.
use Rattle.stl_reader.specs.Facts.{tables_fit}
use borrow.Author.Rules.{rules}
use Rattle.stl_reader.proofs.tables_fit.Goals as goal

pub returns : goal.returns
unfolding tables_fit
returns c =
    rw (← c.slots_for-8.ensures, ← c.slots_for-7.ensures, ← c.slots_for-6.ensures, ← c.slots_for-5.ensures, ← c.slots_for-4.ensures, ← c.slots_for-3.ensures, ← c.slots_for-2.ensures, ← c.slots_for.ensures)
