-- `c_first::first_of` meets its contract. Assumes nothing.
use Rattle.memory_layout.specs.Decode.{decode}
use Rattle.meaning.specs.Offices.{body_for}
use Rattle.check_report.specs.Calls.{asked, first_of, report_on}
use Rattle.office_measures.specs.Answers.{office_check_number, office_first}
use Rattle.c_lent.specs.Laws.{crossed}
use Rattle.c_answers.specs.Values.{wanted}
use borrow.Author.Rules.{rules}
use Rattle.c_first.proofs.first_of.Goals as goal

pub returns : goal.returns
unfolding office_first
returns c =
    let s = c.args in
    let o = asked (wanted s.geometry) s.samples in
    let p = crossed c.put_first.ensures (office_check_number s.room.now s.words.now s.reals.now s.office s.body o s.faces.now s.edges.now) (first_of (report_on s.room.now s.words.now s.reals.now (body_for (decode s.room.now s.words.now s.reals.now) s.office s.body) o).faults) c.first_fault-answer.ensures.answer in
    record { answer = p.0; slots = p.1; faces = c.first_fault-answer.ensures.faces; edges = c.first_fault-answer.ensures.edges }
