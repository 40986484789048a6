-- `office_slabs::body_profile` meets its contract. Assumes nothing.
use mathlib.Core.Path.{◌∙◌}
use Rattle.office_slabs.specs.Laws.{profile-there, areas-there, profile-above, areas-above}
use borrow.Author.Rules.{rules}
use Rattle.office_slabs.proofs.body_profile.Goals as goal

pub returns-then-office-gt1 : goal.returns-then-office-gt1
returns-then-office-gt1 c = let s = c in let k = c.unknown_tag in record { answer = profile-above s.args.room.now s.args.words.now s.args.reals.now s.args.office s.args.body k.result c.if-office-gt1.true k.ensures s.args.faces.now s.args.edges.now s.args.areas.now; areas = areas-above s.args.room.now s.args.words.now s.args.reals.now s.args.office s.args.body k.result c.if-office-gt1.true k.ensures s.args.faces.now s.args.edges.now s.args.areas.now; faces = c.clear.ensures; edges = c.clear-then-office-gt1.ensures }

pub returns : goal.returns
returns c = let s = c in let r = c.body_profile.ensures in let e = c.body_for-seen.ensures s.args.room.now s.args.reals.now in record { answer = r.answer ∙ profile-there s.args.room.now s.args.words.now s.args.reals.now s.args.office s.args.body _ e c.if-office-gt1.false s.args.faces.now s.args.edges.now s.args.areas.now; areas = r.areas ∙ areas-there s.args.room.now s.args.words.now s.args.reals.now s.args.office s.args.body _ e c.if-office-gt1.false s.args.faces.now s.args.edges.now s.args.areas.now; faces = r.faces; edges = r.edges }
