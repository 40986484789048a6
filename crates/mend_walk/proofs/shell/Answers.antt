-- `mend_walk::shell` meets its contract: the shell, then its faces. Assumes nothing.
use native.Mathlib.Omega.{arith}
use mathlib.Core.Path.{refl, ◌∙◌}
use Rattle.meaning_mends.specs.Mends.{a_shell, met, face_meetings}
use Rattle.mend_meetings.specs.Facts.{model_of}
use Rattle.mend_walk.specs.Laws.{shell-there, present, list-there, ready_on, shell-meetings, goes_down}
use Rattle.mend_walk.proofs.shell.Goals as goal

pub meet-n-requires : goal.meet-n-requires
meet-n-requires c = let s = c in record { ready = s.requires.ready; present = present 2 (omega arith) (shell-there s.args.room.now s.args.words.now s.args.s s.requires.s_value) }

pub list-ids-requires : goal.list-ids-requires
list-ids-requires c = let s = c in record { lists = s.requires.ready.lists; j_bound = (omega arith, (shell-there s.args.room.now s.args.words.now s.args.s s.requires.s_value).slot) }

pub faces-requires : goal.faces-requires
faces-requires c =
    let s = c in
    record { ready = ready_on s.requires.ready (c.meet-n.ensures a_shell refl); ids_value = list-there (shell-there s.args.room.now s.args.words.now s.args.s s.requires.s_value) c.list-ids.ensures }

pub shape_of-nums : goal.shape_of-nums
shape_of-nums c = c.faces.ensures.long ∙ (c.meet-n.ensures a_shell refl).long

pub shape_of-marks : goal.shape_of-marks
shape_of-marks c = c.faces.ensures.marks ∙ (c.meet-n.ensures a_shell refl).marks

pub returns : goal.returns
returns c =
    let s = c in
    goes_down (met a_shell s.args.r s.args.s) (face_meetings (model_of s.args.room.now s.args.words.now)) (shell-meetings s.args.room.now s.args.words.now s.args.r s.args.s) c.list-ids.ensures
    (c.meet-n.ensures a_shell refl) c.faces.ensures
