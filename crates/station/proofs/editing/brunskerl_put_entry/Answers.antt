-- `station::editing::brunskerl_put_entry` meets its contract. Assumes nothing.
use borrow.Author.Rules.{rules}
use Rattle.station.proofs.editing.brunskerl_put_entry.Goals as goal

pub returns : goal.returns
returns c = record { answer = c.put_entry.ensures.answer; tables = c.put_entry.ensures.tables }
