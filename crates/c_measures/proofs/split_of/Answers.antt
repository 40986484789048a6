-- `c_measures::split_of` meets its contract. Assumes nothing.
use Rattle.memory_layout.specs.Layout.{word}
use Rattle.split_place.specs.SplitNumber.{office_split_number}
use Rattle.split_edge.specs.After.{office_split_answer}
use Rattle.c_lent.specs.Laws.{crossed}
use borrow.Author.Rules.{rules}
use Rattle.c_measures.proofs.split_of.Goals as goal

pub returns : goal.returns
unfolding office_split_answer
returns c =
    let s = c.args in
    let p = crossed c.put_split.ensures (office_split_number s.room.now s.words.now s.reals.now s.office s.edge s.fraction) (record { original_edge = s.edge; new_edge = word s.words.now 6; vertex = word s.words.now 7 }) c.split_line_edge-answer.ensures.answer in
    record { answer = p.0; slots = p.1; tables = c.split_line_edge-answer.ensures.tables; floats = c.split_line_edge-answer.ensures.floats }
