-- `c_measures::fit_of` meets its contract. Assumes nothing.
use Rattle.meaning.specs.Faults.{sawing, sawable}
use Rattle.memory_layout.specs.Decode.{decode}
use Rattle.meaning.specs.Offices.{body_for}
use Rattle.office_measures.specs.Answers.{office_check_number, office_fit}
use Rattle.c_lent.specs.Laws.{crossed}
use borrow.Author.Rules.{rules}
use Rattle.c_measures.proofs.fit_of.Goals as goal

pub returns : goal.returns
unfolding office_fit
returns c =
    let s = c.args in
    let p = crossed c.put_fit.ensures (office_check_number s.room.now s.words.now s.reals.now s.office s.body sawing s.faces.now s.edges.now) (sawable (decode s.room.now s.words.now s.reals.now) (body_for (decode s.room.now s.words.now s.reals.now) s.office s.body)) c.fit_to_saw-answer.ensures.answer in
    record { answer = p.0; slots = p.1; faces = c.fit_to_saw-answer.ensures.faces; edges = c.fit_to_saw-answer.ensures.edges }
