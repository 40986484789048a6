-- `station::editing::brunskerl_strike_entry` meets its contract. Assumes nothing.
use borrow.Author.Rules.{rules}
use Rattle.station.proofs.editing.brunskerl_strike_entry.Goals as goal

pub returns : goal.returns
returns c = record { answer = c.strike_entry.ensures.answer; tables = c.strike_entry.ensures.tables }
