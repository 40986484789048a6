-- `memory_reads::records::loop_of` meets its contract. Assumes nothing.
use Rattle.memory_records.specs.Seen.{seen_loop}
use Rattle.memory_layout.specs.Laws.{held-length}
use borrow.Author.Rules.{rules}
use Rattle.memory_reads.proofs.records.loop_of.Goals as goal

pub returns : goal.returns
unfolding seen_loop
returns c = rw (held-length c.args.w.now 1 c.requires)
