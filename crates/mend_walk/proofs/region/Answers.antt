-- `mend_walk::region` meets its contract: the region, then its shells. Assumes nothing.
use native.Mathlib.Omega.{arith}
use mathlib.Core.Path.{refl, ◌∙◌}
use Rattle.meaning_mends.specs.Mends.{a_region, met, shell_meetings}
use Rattle.mend_meetings.specs.Facts.{model_of}
use Rattle.mend_walk.specs.Laws.{region-there, present, list-there, ready_on, region-meetings, goes_down}
use Rattle.mend_walk.proofs.region.Goals as goal

pub meet-n-requires : goal.meet-n-requires
meet-n-requires c = let s = c in record { ready = s.requires.ready; present = present 1 (omega arith) (region-there s.args.room.now s.args.words.now s.args.r s.requires.r_value) }

pub list-ids-requires : goal.list-ids-requires
list-ids-requires c = let s = c in record { lists = s.requires.ready.lists; j_bound = (omega arith, (region-there s.args.room.now s.args.words.now s.args.r s.requires.r_value).slot) }

pub shells-requires : goal.shells-requires
shells-requires c =
    let s = c in
    record { ready = ready_on s.requires.ready (c.meet-n.ensures a_region refl); ids_value = list-there (region-there s.args.room.now s.args.words.now s.args.r s.requires.r_value) c.list-ids.ensures }

pub shape_of-nums : goal.shape_of-nums
shape_of-nums c = c.shells.ensures.long ∙ (c.meet-n.ensures a_region refl).long

pub shape_of-marks : goal.shape_of-marks
shape_of-marks c = c.shells.ensures.marks ∙ (c.meet-n.ensures a_region refl).marks

pub returns : goal.returns
returns c =
    let s = c in
    goes_down (met a_region s.args.b s.args.r) (shell_meetings (model_of s.args.room.now s.args.words.now) s.args.r) (region-meetings s.args.room.now s.args.words.now s.args.b s.args.r) c.list-ids.ensures
    (c.meet-n.ensures a_region refl) c.shells.ensures
