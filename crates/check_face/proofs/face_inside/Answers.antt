-- `check_face::face_inside` meets its contract: one step after the other. Assumes nothing.
use mathlib.Core.Path.{◌∙◌}
use Rattle.memory_layout.specs.Decode.{decode}
use Rattle.memory_layout.specs.Laws.{lists_of}
use Rattle.check_ends.specs.Steps.{enough-one, enough-two, noted-two}
use Rattle.check_loop.specs.Loop.{options}
use Rattle.check_face.specs.Laws.{face-list, inside-told}
use borrow.Author.Rules.{rules}
use Rattle.check_face.proofs.face_inside.Goals as goal

pub face_at-face-requires : goal.face_at-face-requires
face_at-face-requires c = record { lists = lists_of _ _ _ c.requires.fit; i_bound = c.requires.n_bound.1 }

pub note_if-a-requires : goal.note_if-a-requires
note_if-a-requires c = record { n_nonzero = search rules; enough = enough-one _ _ _ (inside-told (decode c.args.room.now c.args.words.now c.args.reals.now) (options c.args.geometry c.args.n) c.args.f _ (c.face_at-face.ensures c.args.reals.now) _ _ c.is_none-bare.ensures (face-list c.args.room.now c.args.words.now c.args.reals.now c.args.f)) c.requires.enough }

pub list-loops-requires : goal.list-loops-requires
list-loops-requires c = record { lists = lists_of _ _ _ c.requires.fit; j_bound = (search rules, c.requires.n_bound.1) }

pub all_loops-requires : goal.all_loops-requires
all_loops-requires c = record { fit = c.requires.fit; n_bound = c.requires.n_bound; enough = enough-two _ _ _ (inside-told (decode c.args.room.now c.args.words.now c.args.reals.now) (options c.args.geometry c.args.n) c.args.f _ (c.face_at-face.ensures c.args.reals.now) _ _ c.is_none-bare.ensures (c.list-loops.ensures ∙ face-list c.args.room.now c.args.words.now c.args.reals.now c.args.f)) c.requires.enough c.note_if-a.ensures }

pub returns : goal.returns
returns c = noted-two _ _ _ (inside-told (decode c.args.room.now c.args.words.now c.args.reals.now) (options c.args.geometry c.args.n) c.args.f _ (c.face_at-face.ensures c.args.reals.now) _ _ c.is_none-bare.ensures (c.list-loops.ensures ∙ face-list c.args.room.now c.args.words.now c.args.reals.now c.args.f)) c.note_if-a.ensures c.all_loops.ensures
