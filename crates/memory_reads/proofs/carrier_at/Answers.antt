-- `memory_reads::carrier_at` meets its contract. Assumes nothing.
use mathlib.Core.Path.{◌∙◌}
use Rattle.memory_layout.specs.Laws.{used-inside}
use Rattle.memory_records.specs.Laws.{words-whole, reals-whole, carrier-strides}
use Rattle.memory_reads.proofs.carrier_at.Goals as goal

pub words_of-requires : goal.words_of-requires
words_of-requires c =
    let s = c in
    record { small = s.requires.sized.small; inside = (used-inside s.args.room.now s.args.words.now s.args.reals.now s.args.k s.args.i s.requires.sized s.requires.lt_k.1 s.requires.i_bound).0 }

pub reals_of-requires : goal.reals_of-requires
reals_of-requires c =
    let s = c in
    record { small = s.requires.sized.small; inside = (used-inside s.args.room.now s.args.words.now s.args.reals.now s.args.k s.args.i s.requires.sized s.requires.lt_k.1 s.requires.i_bound).1 }

pub carrier_of-requires : goal.carrier_of-requires
carrier_of-requires c =
    let s = c in
    let t = carrier-strides s.args.k s.requires.lt_k.0 s.requires.lt_k.1 in
    (words-whole s.args.room.now s.args.words.now c.words_of.result.now s.args.k s.args.i c.words_of.ensures (used-inside s.args.room.now s.args.words.now s.args.reals.now s.args.k s.args.i s.requires.sized s.requires.lt_k.1 s.requires.i_bound).0 ∙ t.0, reals-whole s.args.room.now s.args.reals.now c.reals_of.result.now s.args.k s.args.i c.reals_of.ensures (used-inside s.args.room.now s.args.words.now s.args.reals.now s.args.k s.args.i s.requires.sized s.requires.lt_k.1 s.requires.i_bound).1 ∙ t.1)

pub returns : goal.returns
returns c = rw (← c.reals_of.ensures, ← c.words_of.ensures) c.carrier_of.ensures
