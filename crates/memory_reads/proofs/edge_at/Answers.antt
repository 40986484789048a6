-- `memory_reads::edge_at` meets its contract. Assumes nothing.
use borrow.Author.Rules.{rules}
use Rattle.memory_layout.specs.Decode.{decode}
use Rattle.memory_layout.specs.Laws.{used-inside, lists_of}
use Rattle.memory_records.specs.Laws.{list-stands, reals-whole}
use Rattle.memory_reads.proofs.edge_at.Goals as goal

pub words_of-requires : goal.words_of-requires
words_of-requires c =
    let s = c in
    record { small = s.requires.fit.sized.small; inside = (used-inside s.args.room.now s.args.words.now s.args.reals.now 6 s.args.i s.requires.fit.sized (search rules) s.requires.i_bound).0 }

pub reals_of-requires : goal.reals_of-requires
reals_of-requires c =
    let s = c in
    record { small = s.requires.fit.sized.small; inside = (used-inside s.args.room.now s.args.words.now s.args.reals.now 6 s.args.i s.requires.fit.sized (search rules) s.requires.i_bound).1 }

pub edge_of-requires : goal.edge_of-requires
edge_of-requires c =
    let s = c in
    record { held = list-stands s.args.room.now s.args.words.now c.words_of.result.now 7 s.args.i c.words_of.ensures (lists_of s.args.room.now s.args.words.now s.args.reals.now s.requires.fit) (search rules) s.requires.i_bound; x_len = reals-whole s.args.room.now s.args.reals.now c.reals_of.result.now 6 s.args.i c.reals_of.ensures (used-inside s.args.room.now s.args.words.now s.args.reals.now 6 s.args.i s.requires.fit.sized (search rules) s.requires.i_bound).1 }

pub returns : goal.returns
unfolding decode
returns c = rw (← c.reals_of.ensures, ← c.words_of.ensures) c.edge_of.ensures
