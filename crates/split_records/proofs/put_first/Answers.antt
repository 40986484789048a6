use native.Mathlib.Nat.{le_of_lt, lt_of_lt_of_le}
use mathlib.Core.Path.{refl}
use lib.Dec.{lit<, lit≤}
use Rattle.split_pieces.specs.Laws.{edge-inside}
use Rattle.split_pieces.specs.Pieces.{first_put}
use borrow.Author.Rules.{rules}
use Rattle.split_records.proofs.put_first.Goals as goal

pub bounds-words-7 : goal.bounds-words-7
bounds-words-7 c = lt_of_lt_of_le (lit< tt) c.requires.slots.counts

pub slice_bounds-put_words-end : goal.slice_bounds-put_words-end
slice_bounds-put_words-end c = refl

pub put_words-requires : goal.put_words-requires
put_words-requires c =
    let s = c in
    record { small = s.requires.slots.small; inside = edge-inside s.args.room.now s.args.words.now 0 s.requires.slots s.args.edge (le_of_lt s.requires.edge_bound); a_bound = lit≤ tt }

pub returns : goal.returns
unfolding first_put
returns c = c.put_words.ensures
