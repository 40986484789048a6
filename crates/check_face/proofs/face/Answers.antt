-- `check_face::face` meets its contract: by whether the face is there, and from which shell it is seen. Assumes nothing.
use native.Mathlib.Omega.{arith}
use mathlib.Core.Path.{sym, ◌∙◌}
use borrow.Author.Tests.{le-ltb, lt-ltb}
use Rattle.memory_records.specs.Laws.{counts-there}
use Rattle.memory_layout.specs.Decode.{decode}
use Rattle.memory_layout.specs.Laws.{lists_of}
use Rattle.check_reasons.specs.Laws.{enough-same, noted-same, noted-over}
use Rattle.check_ends.specs.Steps.{enough-one, enough-two, noted-two}
use Rattle.check_loop.specs.Loop.{options}
use Rattle.check_face.specs.Laws.{face-missing, face-sides, face-past, face-checked}
use mathlib.Core.Bool.{true}
use borrow.Author.Rules.{rules}
use Rattle.check_face.proofs.face.Goals as goal

pub returns-then-done : goal.returns-then-done
returns-then-done c = noted-over _ _ _ (sym c.done.ensures ∙ c.if-done.true)

pub bounds-words-3 : goal.bounds-words-3
bounds-words-3 c = omega (arith, counts-there _ _ _ c.requires.fit.sized)

pub note-requires : goal.note-requires
unfolding decode
note-requires c = record { n_nonzero = search rules; enough = enough-same (face-missing (decode c.args.room.now c.args.words.now c.args.reals.now) (options c.args.geometry c.args.n) c.args.s c.args.f (le-ltb _ _ c.if-words-f.true)) c.requires.enough }

pub returns-then-words-f : goal.returns-then-words-f
unfolding decode
returns-then-words-f c = noted-same (sym (face-missing (decode c.args.room.now c.args.words.now c.args.reals.now) (options c.args.geometry c.args.n) c.args.s c.args.f (le-ltb _ _ c.if-words-f.true))) c.note.ensures

pub face_at-face-requires : goal.face_at-face-requires
face_at-face-requires c = record { lists = lists_of _ _ _ c.requires.fit; i_bound = c.if-words-f.false }

pub note_if-a-requires : goal.note_if-a-requires
unfolding decode
note_if-a-requires c = record { n_nonzero = search rules; enough = enough-one _ _ _ (face-sides (decode c.args.room.now c.args.words.now c.args.reals.now) (options c.args.geometry c.args.n) c.args.f _ (c.face_at-face.ensures c.args.reals.now) c.args.s _ _ true (lt-ltb _ _ c.if-words-f.false) c.is_shell.ensures c.is_shell-2.ensures) c.requires.enough }

pub returns-then-not-checked_from : goal.returns-then-not-checked_from
unfolding decode
returns-then-not-checked_from c = noted-same (sym (face-past (decode c.args.room.now c.args.words.now c.args.reals.now) (options c.args.geometry c.args.n) c.args.f _ (c.face_at-face.ensures c.args.reals.now) c.args.s _ _ _ (lt-ltb _ _ c.if-words-f.false) c.is_shell.ensures c.is_shell-2.ensures c.checked_from.ensures (c.if-not-checked_from.true))) c.note_if-a.ensures

pub face_inside-requires : goal.face_inside-requires
unfolding decode
face_inside-requires c = record { fit = c.requires.fit; n_bound = (c.requires.n_bound, c.if-words-f.false); enough = enough-two _ _ _ (face-checked (decode c.args.room.now c.args.words.now c.args.reals.now) (options c.args.geometry c.args.n) c.args.f _ (c.face_at-face.ensures c.args.reals.now) c.args.s _ _ _ (lt-ltb _ _ c.if-words-f.false) c.is_shell.ensures c.is_shell-2.ensures c.checked_from.ensures (c.if-not-checked_from.false)) c.requires.enough c.note_if-a.ensures }

pub returns : goal.returns
unfolding decode
returns c = noted-two _ _ _ (face-checked (decode c.args.room.now c.args.words.now c.args.reals.now) (options c.args.geometry c.args.n) c.args.f _ (c.face_at-face.ensures c.args.reals.now) c.args.s _ _ _ (lt-ltb _ _ c.if-words-f.false) c.is_shell.ensures c.is_shell-2.ensures c.checked_from.ensures (c.if-not-checked_from.false)) c.note_if-a.ensures c.face_inside.ensures
