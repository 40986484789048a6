-- `slab_profile::body_profile` meets its contract. Assumes nothing.
use mathlib.Core.Path.{sym, ◌∙◌}
use mathlib.Core.Bool.{◌&&◌}
use Rattle.memory_layout.specs.Decode.{decode}
use Rattle.walk_answers.specs.Calls.{reach}
use Rattle.walk_answers.specs.Laws.{zeros-on, zeros-same}
use Rattle.inquire_polyhedral.specs.Laws.{accepted-polyhedral, polyhedral-edged}
use Rattle.slab_profile.specs.Laws.{told-refused, told_same, profile-told, profile-refused, profile-passed}
use borrow.Author.Rules.{rules}
use Rattle.slab_profile.proofs.body_profile.Goals as goal

pub returns-then-n-ne0 : goal.returns-then-n-ne0
returns-then-n-ne0 c = let s = c in let t = profile-told s.args.room.now s.args.words.now s.args.reals.now s.args.body s.args.faces.now s.args.edges.now s.args.areas.now _ _ (told_same (decode s.args.room.now s.args.words.now s.args.reals.now) s.args.body _ _ _ _ _ (profile-refused s.args.room.now s.args.words.now s.args.reals.now s.args.body s.args.faces.now s.args.edges.now s.args.areas.now _ c.polyhedral_refusal-n.ensures c.if-n-ne0.true) (told-refused (decode s.args.room.now s.args.words.now s.args.reals.now) s.args.body _ s.args.areas.now c.if-n-ne0.true)) in record { answer = t.0; areas = t.1; faces = c.clear.ensures; edges = c.clear-2.ensures }

pub solid_profile-requires : goal.solid_profile-requires
solid_profile-requires c = let s = c in let a = accepted-polyhedral s.args.room.now s.args.words.now s.args.reals.now s.args.body (reach s.args.room.now 3 s.args.faces.now && reach s.args.room.now 6 s.args.edges.now) (sym c.polyhedral_refusal-n.ensures ∙ c.if-n-ne0.false) in record { fit = a.0; edged = polyhedral-edged s.args.room.now s.args.words.now s.args.reals.now s.args.body a.1; faces_value = zeros-same s.args.faces.now _ c.clear.ensures; edges_value = zeros-same s.args.edges.now _ c.clear-2.ensures }

pub returns : goal.returns
returns c = let s = c in let r = c.solid_profile.ensures in let t = profile-told s.args.room.now s.args.words.now s.args.reals.now s.args.body s.args.faces.now s.args.edges.now s.args.areas.now _ _ (told_same (decode s.args.room.now s.args.words.now s.args.reals.now) s.args.body _ _ _ _ _ (profile-passed s.args.room.now s.args.words.now s.args.reals.now s.args.body s.args.faces.now s.args.edges.now s.args.areas.now (sym c.polyhedral_refusal-n.ensures ∙ c.if-n-ne0.false)) r.told) in record { answer = t.0; areas = t.1; faces = zeros-on s.args.faces.now c.clear.new.marks _ c.clear.ensures r.faces_after; edges = zeros-on s.args.edges.now c.clear-2.new.marks _ c.clear-2.ensures r.edges_after }
