-- `c_sets::loop_` meets its contract. Assumes nothing.
use borrow.Author.Rules.{rules}
use Rattle.c_sets.proofs.loop_.Goals as goal

pub returns : goal.returns
returns c = record { answer = c.set_loop.ensures.answer; tables = c.set_loop.ensures.tables; floats = c.set_loop.ensures.floats }
