-- `c_measures::volume_of` meets its contract. Assumes nothing.
use Rattle.interval_arithmetic.specs.Ops.{zero_f}
use Rattle.meaning.specs.Inquire.{solid_sides, sum_volumes}
use Rattle.memory_layout.specs.Decode.{decode}
use Rattle.meaning.specs.Offices.{body_for}
use Rattle.office_measures.specs.Answers.{office_volume_number, office_volume}
use Rattle.c_lent.specs.Laws.{crossed}
use borrow.Author.Rules.{rules}
use Rattle.c_measures.proofs.volume_of.Goals as goal

pub returns : goal.returns
unfolding office_volume
returns c =
    let s = c.args in
    let p = crossed c.put_volume.ensures (office_volume_number s.room.now s.words.now s.reals.now s.office s.body s.faces.now) (sum_volumes (decode s.room.now s.words.now s.reals.now) zero_f (solid_sides (decode s.room.now s.words.now s.reals.now) (body_for (decode s.room.now s.words.now s.reals.now) s.office s.body))) c.body_volume-answer.ensures.answer in
    record { answer = p.0; slots = p.1; faces = c.body_volume-answer.ensures.faces }
