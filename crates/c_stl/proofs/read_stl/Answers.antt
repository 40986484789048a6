-- `c_stl::read_stl` meets its contract. Assumes nothing.
use borrow.Author.Rules.{rules}
use Rattle.memory_layout.specs.Layout.{word}
use Rattle.stl_reader.specs.Answers.{read_stl_number, read_stl_answer}
use Rattle.c_lent.specs.Laws.{crossed}
use Rattle.c_stl.proofs.read_stl.Goals as goal

pub returns : goal.returns
unfolding read_stl_answer
returns c =
    let s = c.args in
    let p = crossed c.put_id.ensures (read_stl_number s.room.now s.words.now s.reals.now s.office s.bytes.now) (word s.words.now 0) c.read_stl.ensures.answer in
    record { answer = p.0; slots = p.1; tables = c.read_stl.ensures.tables; floats = c.read_stl.ensures.floats }
