-- `c_sets::shell` meets its contract. Assumes nothing.
use borrow.Author.Rules.{rules}
use Rattle.c_sets.proofs.shell.Goals as goal

pub returns : goal.returns
returns c = record { answer = c.set_shell.ensures.answer; tables = c.set_shell.ensures.tables; floats = c.set_shell.ensures.floats }
