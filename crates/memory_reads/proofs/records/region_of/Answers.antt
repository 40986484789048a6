-- `memory_reads::records::region_of` meets its contract. Assumes nothing.
use Rattle.memory_records.specs.Seen.{seen_region}
use Rattle.memory_layout.specs.Laws.{held-length}
use borrow.Author.Rules.{rules}
use Rattle.memory_reads.proofs.records.region_of.Goals as goal

pub returns : goal.returns
unfolding seen_region
returns c = rw (held-length c.args.w.now 2 c.requires)
