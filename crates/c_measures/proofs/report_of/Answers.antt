-- `c_measures::report_of` meets its contract. Assumes nothing.
use Prim.Native.Nat.{◌/◌}
use lib.ListN.{length}
use Rattle.meaning.specs.Faults.{counts}
use Rattle.meaning.specs.Offices.{body_for}
use Rattle.memory_layout.specs.Decode.{decode}
use Rattle.check_report.specs.Calls.{asked, seen_counts, report_on}
use Rattle.office_measures.specs.Answers.{office_check_number, office_report}
use Rattle.c_answers.specs.Values.{wanted}
use Rattle.c_lent.specs.Laws.{crossed}
use borrow.Author.Rules.{rules}
use Rattle.c_measures.proofs.report_of.Goals as goal

pub returns : goal.returns
unfolding office_report
returns c =
    let s = c.args in
    let p = crossed c.put_counts.ensures (office_check_number s.room.now s.words.now s.reals.now s.office s.body (asked (wanted s.geometry) s.samples) s.faces.now s.edges.now) (seen_counts (counts (length s.nums.now / 4) (report_on s.room.now s.words.now s.reals.now (body_for (decode s.room.now s.words.now s.reals.now) s.office s.body) (asked (wanted s.geometry) s.samples)))) c.check_body-answer.ensures.answer in
    record { answer = p.0; slots = p.1; list = c.check_body-answer.ensures.list; faces = c.check_body-answer.ensures.faces; edges = c.check_body-answer.ensures.edges }
