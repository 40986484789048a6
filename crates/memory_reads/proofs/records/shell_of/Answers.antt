-- `memory_reads::records::shell_of` meets its contract. Assumes nothing.
use Rattle.memory_records.specs.Seen.{seen_shell}
use Rattle.memory_layout.specs.Laws.{held-length}
use borrow.Author.Rules.{rules}
use Rattle.memory_reads.proofs.records.shell_of.Goals as goal

pub returns : goal.returns
unfolding seen_shell
returns c =
    let s = c in
    rw (held-length s.args.w.now 1 s.requires.held, held-length s.args.w.now 514 s.requires.held_2, held-length s.args.w.now 771 s.requires.held_3)
