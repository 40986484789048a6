-- `check_fin::fin` meets its contract: by whether the fin is there. Assumes nothing.
use native.Mathlib.Omega.{arith}
use mathlib.Core.Path.{sym, ◌∙◌}
use borrow.Author.Tests.{le-ltb, lt-ltb}
use Rattle.memory_records.specs.Laws.{counts-there}
use Rattle.memory_layout.specs.Decode.{decode}
use Rattle.memory_layout.specs.Laws.{lists_of}
use Rattle.check_reasons.specs.Laws.{enough-same, noted-same, noted-over}
use Rattle.check_ends.specs.Steps.{enough-one, enough-two, noted-two}
use Rattle.check_fin.specs.Laws.{fin-missing, fin-there}
use borrow.Author.Rules.{rules}
use Rattle.check_fin.proofs.fin.Goals as goal

pub returns-then-done : goal.returns-then-done
returns-then-done c = noted-over _ _ _ (sym c.done.ensures ∙ c.if-done.true)

pub bounds-words-5 : goal.bounds-words-5
bounds-words-5 c = omega (arith, counts-there _ _ _ c.requires.fit.sized)

pub note-requires : goal.note-requires
unfolding decode
note-requires c = record { n_nonzero = search rules; enough = enough-same (fin-missing (decode c.args.room.now c.args.words.now c.args.reals.now) c.args.l c.args.i (le-ltb _ _ c.if-words-i.true)) c.requires.enough }

pub returns-then-words-i : goal.returns-then-words-i
unfolding decode
returns-then-words-i c = noted-same (sym (fin-missing (decode c.args.room.now c.args.words.now c.args.reals.now) c.args.l c.args.i (le-ltb _ _ c.if-words-i.true))) c.note.ensures

pub fin_at-fin-requires : goal.fin_at-fin-requires
fin_at-fin-requires c = record { lists = lists_of _ _ _ c.requires.fit; i_bound = c.if-words-i.false }

pub note_if-a-requires : goal.note_if-a-requires
unfolding decode
note_if-a-requires c = record { n_nonzero = search rules; enough = enough-one _ _ _ (fin-there (decode c.args.room.now c.args.words.now c.args.reals.now) c.args.l c.args.i _ (lt-ltb _ _ c.if-words-i.false) (c.fin_at-fin.ensures c.args.reals.now)) c.requires.enough }

pub fin_edge-requires : goal.fin_edge-requires
unfolding decode
fin_edge-requires c = record { fit = c.requires.fit; enough = enough-two _ _ _ (fin-there (decode c.args.room.now c.args.words.now c.args.reals.now) c.args.l c.args.i _ (lt-ltb _ _ c.if-words-i.false) (c.fin_at-fin.ensures c.args.reals.now)) c.requires.enough c.note_if-a.ensures }

pub returns : goal.returns
unfolding decode
returns c = noted-two _ _ _ (fin-there (decode c.args.room.now c.args.words.now c.args.reals.now) c.args.l c.args.i _ (lt-ltb _ _ c.if-words-i.false) (c.fin_at-fin.ensures c.args.reals.now)) c.note_if-a.ensures c.fin_edge.ensures
