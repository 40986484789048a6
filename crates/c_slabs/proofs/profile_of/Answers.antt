-- `c_slabs::profile_of` meets its contract. Assumes nothing.
use Rattle.office_slabs.specs.Answers.{profile_asked, office_profile_number, office_profile}
use Rattle.c_lent.specs.Laws.{crossed}
use borrow.Author.Rules.{rules}
use Rattle.c_slabs.proofs.profile_of.Goals as goal

pub returns : goal.returns
unfolding office_profile
returns c = let s = c.args in
    let r = c.body_profile-answer.ensures in
    let p = crossed c.put_profile.ensures (office_profile_number s.room.now s.words.now s.reals.now s.office s.body s.faces.now s.edges.now s.areas.now) (profile_asked s.room.now s.words.now s.reals.now s.office s.body) r.answer in
    record { answer = p.0; slots = p.1; areas = r.areas; faces = r.faces; edges = r.edges }
