-- `check_loop::loop_` meets its contract: by whether the loop is there. Assumes nothing.
use native.Mathlib.Omega.{arith}
use mathlib.Core.Path.{sym, ◌∙◌}
use borrow.Author.Tests.{le-ltb, lt-ltb}
use Rattle.memory_records.specs.Laws.{counts-there}
use Rattle.memory_layout.specs.Decode.{decode}
use Rattle.memory_layout.specs.Laws.{lists_of}
use Rattle.check_reasons.specs.Laws.{enough-same, noted-same, noted-over}
use Rattle.check_ends.specs.Steps.{enough-one, enough-two, noted-two}
use Rattle.check_loop.specs.Loop.{options}
use Rattle.check_loop.specs.Laws.{loop-missing, loop-there, loop-list}
use borrow.Author.Rules.{rules}
use Rattle.check_loop.proofs.loop_.Goals as goal

pub returns-then-done : goal.returns-then-done
returns-then-done c = noted-over _ _ _ (sym c.done.ensures ∙ c.if-done.true)

pub bounds-words-4 : goal.bounds-words-4
bounds-words-4 c = omega (arith, counts-there _ _ _ c.requires.fit.sized)

pub note-requires : goal.note-requires
unfolding decode
note-requires c = record { n_nonzero = search rules; enough = enough-same (loop-missing (decode c.args.room.now c.args.words.now c.args.reals.now) (options c.args.geometry c.args.n) c.args.f c.args.l (le-ltb _ _ c.if-words-l.true)) c.requires.enough }

pub returns-then-words-l : goal.returns-then-words-l
unfolding decode
returns-then-words-l c = noted-same (sym (loop-missing (decode c.args.room.now c.args.words.now c.args.reals.now) (options c.args.geometry c.args.n) c.args.f c.args.l (le-ltb _ _ c.if-words-l.true))) c.note.ensures

pub loop_at-owner-requires : goal.loop_at-owner-requires
loop_at-owner-requires c = record { lists = lists_of _ _ _ c.requires.fit; i_bound = c.if-words-l.false }

pub note_if-a-requires : goal.note_if-a-requires
unfolding decode
note_if-a-requires c = record { n_nonzero = search rules; enough = enough-one _ _ _ (loop-there (decode c.args.room.now c.args.words.now c.args.reals.now) (options c.args.geometry c.args.n) c.args.f c.args.l _ _ (lt-ltb _ _ c.if-words-l.false) (c.loop_at-owner.ensures c.args.reals.now) (loop-list c.args.room.now c.args.words.now c.args.reals.now c.args.l)) c.requires.enough }

pub list-fins-requires : goal.list-fins-requires
list-fins-requires c = record { lists = lists_of _ _ _ c.requires.fit; j_bound = search rules }

pub loop_fins-requires : goal.loop_fins-requires
unfolding decode
loop_fins-requires c = record { fit = c.requires.fit; n_bound = c.requires.n_bound; enough = enough-two _ _ _ (loop-there (decode c.args.room.now c.args.words.now c.args.reals.now) (options c.args.geometry c.args.n) c.args.f c.args.l _ _ (lt-ltb _ _ c.if-words-l.false) (c.loop_at-owner.ensures c.args.reals.now) (c.list-fins.ensures ∙ loop-list c.args.room.now c.args.words.now c.args.reals.now c.args.l)) c.requires.enough c.note_if-a.ensures }

pub returns : goal.returns
unfolding decode
returns c = noted-two _ _ _ (loop-there (decode c.args.room.now c.args.words.now c.args.reals.now) (options c.args.geometry c.args.n) c.args.f c.args.l _ _ (lt-ltb _ _ c.if-words-l.false) (c.loop_at-owner.ensures c.args.reals.now) (c.list-fins.ensures ∙ loop-list c.args.room.now c.args.words.now c.args.reals.now c.args.l)) c.note_if-a.ensures c.loop_fins.ensures
