-- `check_fin::fin_edge` meets its contract: by whether the edge is there. Assumes nothing.
use native.Mathlib.Omega.{arith}
use mathlib.Core.Path.{sym, ap, ◌∙◌}
use borrow.Author.Tests.{le-ltb, lt-ltb}
use Rattle.memory_records.specs.Laws.{counts-there}
use Rattle.meaning.specs.Lists.{member}
use Rattle.memory_layout.specs.Decode.{decode}
use Rattle.memory_layout.specs.Laws.{lists_of, edge-fins}
use Rattle.check_reasons.specs.Laws.{enough-same, noted-same, noted-over}
use Rattle.check_ends.specs.Steps.{enough-one, enough-two, noted-two}
use Rattle.check_fin.specs.Laws.{edge-missing, edge-there}
use borrow.Author.Rules.{rules}
use Rattle.check_fin.proofs.fin_edge.Goals as goal

pub returns-then-done : goal.returns-then-done
returns-then-done c = noted-over _ _ _ (sym c.done.ensures ∙ c.if-done.true)

pub bounds-words-6 : goal.bounds-words-6
bounds-words-6 c = omega (arith, counts-there _ _ _ c.requires.fit.sized)

pub note-requires : goal.note-requires
unfolding decode
note-requires c = record { n_nonzero = search rules; enough = enough-same (edge-missing (decode c.args.room.now c.args.words.now c.args.reals.now) c.args.i c.args.e (le-ltb _ _ c.if-words-e.true)) c.requires.enough }

pub returns-then-words-e : goal.returns-then-words-e
unfolding decode
returns-then-words-e c = noted-same (sym (edge-missing (decode c.args.room.now c.args.words.now c.args.reals.now) c.args.i c.args.e (le-ltb _ _ c.if-words-e.true))) c.note.ensures

pub list-requires : goal.list-requires
list-requires c = record { lists = lists_of _ _ _ c.requires.fit; j_bound = search rules }

pub note_if-a-requires : goal.note_if-a-requires
unfolding decode
note_if-a-requires c = record { n_nonzero = search rules; enough = enough-one _ _ _ (edge-there (decode c.args.room.now c.args.words.now c.args.reals.now) c.args.i c.args.e _ (lt-ltb _ _ c.if-words-e.false) (c.has-listed.ensures ∙ ap (member c.args.i) (c.list.ensures ∙ edge-fins c.args.room.now c.args.words.now c.args.reals.now c.args.e))) c.requires.enough }

pub ends_there-requires : goal.ends_there-requires
unfolding decode
ends_there-requires c = record { fit = c.requires.fit; e_bound = c.if-words-e.false; enough = enough-two _ _ _ (edge-there (decode c.args.room.now c.args.words.now c.args.reals.now) c.args.i c.args.e _ (lt-ltb _ _ c.if-words-e.false) (c.has-listed.ensures ∙ ap (member c.args.i) (c.list.ensures ∙ edge-fins c.args.room.now c.args.words.now c.args.reals.now c.args.e))) c.requires.enough c.note_if-a.ensures }

pub returns : goal.returns
unfolding decode
returns c = noted-two _ _ _ (edge-there (decode c.args.room.now c.args.words.now c.args.reals.now) c.args.i c.args.e _ (lt-ltb _ _ c.if-words-e.false) (c.has-listed.ensures ∙ ap (member c.args.i) (c.list.ensures ∙ edge-fins c.args.room.now c.args.words.now c.args.reals.now c.args.e))) c.note_if-a.ensures c.ends_there.ensures
