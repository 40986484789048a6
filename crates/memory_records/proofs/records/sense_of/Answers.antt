-- `memory_records::records::sense_of` meets its contract. Assumes nothing.
use borrow.Author.Tests.{eq-eqb, ne_eqb}
use Rattle.memory_records.specs.Seen.{seen_sense}
use Rattle.memory_records.proofs.records.sense_of.Goals as goal

pub returns-then-tag-eq0 : goal.returns-then-tag-eq0
unfolding seen_sense
returns-then-tag-eq0 c = rw (eq-eqb _ _ c.if-tag-eq0.true)

pub returns : goal.returns
unfolding seen_sense
returns c = rw (ne_eqb _ _ c.if-tag-eq0.false)
