-- `walk_visits::met` meets its contract: by the marks, or by a search. Assumes nothing.
use lib.ListN.{take}
use Rattle.meaning_list_laws.specs.Lists.{member-append}
use Rattle.walk_visits.specs.Visits.{ids_of}
use Rattle.walk_marks.specs.Laws.{marked-read}
use Rattle.walk_visits.proofs.met.Goals as goal

pub returns-then-i-marks : goal.returns-then-i-marks
returns-then-i-marks c = marked-read _ _ _ c.requires.marked c.if-i-marks.true

pub returns : goal.returns
returns c =
    let s = c in
    cc (member-append s.args.x (ids_of s.args.room.now s.args.words.now (take s.args.p s.args.path.now)) s.args.new.now)
