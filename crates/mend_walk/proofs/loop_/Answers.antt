-- `mend_walk::loop_` meets its contract: the loop, then its fins. Assumes nothing.
use native.Mathlib.Omega.{arith}
use mathlib.Core.Path.{refl, ◌∙◌}
use Rattle.meaning_mends.specs.Mends.{a_loop, met}
use Rattle.mend_meetings.specs.Laws.{fin_meeting}
use Rattle.mend_walk.specs.Laws.{loop-there, present, list-there, ready_on, loop-meetings, goes_down}
use Rattle.mend_walk.proofs.loop_.Goals as goal

pub meet-n-requires : goal.meet-n-requires
meet-n-requires c = let s = c in record { ready = s.requires.ready; present = present 6 (omega arith) (loop-there s.args.room.now s.args.words.now s.args.l s.requires.l_value) }

pub list-ids-requires : goal.list-ids-requires
list-ids-requires c = let s = c in record { lists = s.requires.ready.lists; j_bound = (omega arith, (loop-there s.args.room.now s.args.words.now s.args.l s.requires.l_value).slot) }

pub fins-requires : goal.fins-requires
fins-requires c =
    let s = c in
    record { ready = ready_on s.requires.ready (c.meet-n.ensures a_loop refl); ids_value = list-there (loop-there s.args.room.now s.args.words.now s.args.l s.requires.l_value) c.list-ids.ensures }

pub shape_of-nums : goal.shape_of-nums
shape_of-nums c = c.fins.ensures.long ∙ (c.meet-n.ensures a_loop refl).long

pub shape_of-marks : goal.shape_of-marks
shape_of-marks c = c.fins.ensures.marks ∙ (c.meet-n.ensures a_loop refl).marks

pub returns : goal.returns
returns c =
    let s = c in
    goes_down (met a_loop s.args.f s.args.l) (fin_meeting s.args.l) (loop-meetings s.args.room.now s.args.words.now s.args.f s.args.l) c.list-ids.ensures
    (c.meet-n.ensures a_loop refl) c.fins.ensures
