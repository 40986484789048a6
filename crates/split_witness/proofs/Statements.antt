-- The statement of specs/Statements.antt that rests on `stone-is-split`. Assumes nothing.
use Rattle.memory_layout.specs.Decode.{decode}
use Rattle.split_edge.specs.After.{split_words, split_reals}
use Rattle.meaning_split_laws.specs.Terms.{OneMore}
use Rattle.split_sequences.specs.Statements.{accepted-call-adds-one}
use Rattle.split_witness.specs.Stone.{stone_room, stone_words, stone_reals}
use Rattle.split_witness.specs.Evaluated.{quarter}
use Rattle.split_witness.specs.Statements.{stone-sound, stone-is-split, one-body, has-it}

-- so that its body gains the edge and the vertex of that answer
pub stone-gains-one : OneMore (decode stone_room stone_words stone_reals)
    (decode stone_room (split_words stone_room stone_words stone_reals 0 quarter) (split_reals stone_room stone_words stone_reals 0 quarter)) 0 12 8
stone-gains-one = accepted-call-adds-one stone_room stone_words stone_reals 0 quarter stone-sound _ stone-is-split 0 one-body has-it
