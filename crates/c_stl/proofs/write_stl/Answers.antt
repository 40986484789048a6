-- `c_stl::write_stl` meets its contract. Assumes nothing.
use lib.ListN.{length}
use borrow.Author.Rules.{rules}
use Rattle.office_stl.specs.Answers.{stl_asked, office_write_number, office_write}
use Rattle.c_lent.specs.Laws.{crossed}
use Rattle.c_stl.proofs.write_stl.Goals as goal

pub returns : goal.returns
unfolding office_write
returns c =
    let s = c.args in
    let p = crossed c.put_length.ensures (office_write_number s.room.now s.words.now s.reals.now s.office s.body s.faces.now s.bytes.now) (length (stl_asked s.room.now s.words.now s.reals.now s.office s.body)) c.body_stl.ensures.answer in
    record { answer = p.0; slots = p.1; bytes = c.body_stl.ensures.bytes; faces = c.body_stl.ensures.faces }
