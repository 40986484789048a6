-- `memory_offices::office_of` meets its contract. Assumes nothing.
use borrow.Author.Tests.{eq-eqb, ne_eqb}
use Rattle.memory_offices.proofs.office_of.Goals as goal

pub returns-then-tag-eq0 : goal.returns-then-tag-eq0
returns-then-tag-eq0 c = rw (eq-eqb c.args.tag 0 c.if-tag-eq0.true)

pub returns : goal.returns
returns c = rw (ne_eqb c.args.tag 0 c.if-tag-eq0.false)
