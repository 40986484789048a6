-- `c_stl::stl_length` meets its contract. Assumes nothing.
use lib.ListN.{length}
use borrow.Author.Rules.{rules}
use Rattle.office_stl.specs.Answers.{stl_asked, office_length_number, office_length}
use Rattle.c_lent.specs.Laws.{crossed}
use Rattle.c_stl.proofs.stl_length.Goals as goal

pub returns : goal.returns
unfolding office_length
returns c =
    let s = c.args in
    let p = crossed c.put_length.ensures (office_length_number s.room.now s.words.now s.reals.now s.office s.body s.faces.now) (length (stl_asked s.room.now s.words.now s.reals.now s.office s.body)) c.body_stl_length.ensures.answer in
    record { answer = p.0; slots = p.1; faces = c.body_stl_length.ensures.faces }
