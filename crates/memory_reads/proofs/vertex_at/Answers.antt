-- `memory_reads::vertex_at` meets its contract. Assumes nothing.
use borrow.Author.Rules.{rules}
use Rattle.memory_layout.specs.Decode.{decode}
use Rattle.memory_layout.specs.Laws.{used-inside}
use Rattle.memory_records.specs.Laws.{words-whole, reals-whole}
use Rattle.memory_reads.proofs.vertex_at.Goals as goal

pub words_of-requires : goal.words_of-requires
words_of-requires c =
    let s = c in
    record { small = s.requires.sized.small; inside = (used-inside s.args.room.now s.args.words.now s.args.reals.now 7 s.args.i s.requires.sized (search rules) s.requires.i_bound).0 }

pub reals_of-requires : goal.reals_of-requires
reals_of-requires c =
    let s = c in
    record { small = s.requires.sized.small; inside = (used-inside s.args.room.now s.args.words.now s.args.reals.now 7 s.args.i s.requires.sized (search rules) s.requires.i_bound).1 }

pub vertex_of-requires : goal.vertex_of-requires
vertex_of-requires c =
    let s = c in
    (words-whole s.args.room.now s.args.words.now c.words_of.result.now 7 s.args.i c.words_of.ensures (used-inside s.args.room.now s.args.words.now s.args.reals.now 7 s.args.i s.requires.sized (search rules) s.requires.i_bound).0, reals-whole s.args.room.now s.args.reals.now c.reals_of.result.now 7 s.args.i c.reals_of.ensures (used-inside s.args.room.now s.args.words.now s.args.reals.now 7 s.args.i s.requires.sized (search rules) s.requires.i_bound).1)

pub returns : goal.returns
unfolding decode
returns c = rw (← c.reals_of.ensures, ← c.words_of.ensures) c.vertex_of.ensures
