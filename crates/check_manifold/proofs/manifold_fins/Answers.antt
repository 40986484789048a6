-- `check_manifold::manifold_fins` meets its contract: by whether they are two. Assumes nothing.
use mathlib.Core.Path.{sym}
use Rattle.memory_layout.specs.Decode.{decode}
use Rattle.memory_layout.specs.Laws.{lists_of}
use Rattle.check_reasons.specs.Laws.{enough-same, noted-same}
use Rattle.check_manifold.specs.Laws.{fins-not-two, fins-two}
use borrow.Author.Rules.{rules}
use Rattle.check_manifold.proofs.manifold_fins.Goals as goal

pub note-requires : goal.note-requires
note-requires c = record { n_nonzero = search rules; enough = enough-same (fins-not-two (decode c.args.room.now c.args.words.now c.args.reals.now) c.args.e c.args.fins.now c.if-fins-ne2.true) c.requires.enough }

pub returns-then-fins-ne2 : goal.returns-then-fins-ne2
returns-then-fins-ne2 c = noted-same (sym (fins-not-two (decode c.args.room.now c.args.words.now c.args.reals.now) c.args.e c.args.fins.now c.if-fins-ne2.true)) c.note.ensures

pub same_senses-equal-requires : goal.same_senses-equal-requires
same_senses-equal-requires c = lists_of _ _ _ c.requires.fit

pub note_if-requires : goal.note_if-requires
note_if-requires c = record { n_nonzero = search rules; enough = enough-same (fins-two (decode c.args.room.now c.args.words.now c.args.reals.now) c.args.e c.args.fins.now _ c.if-fins-ne2.false (c.same_senses-equal.ensures c.args.reals.now)) c.requires.enough }

pub returns : goal.returns
returns c = noted-same (sym (fins-two (decode c.args.room.now c.args.words.now c.args.reals.now) c.args.e c.args.fins.now _ c.if-fins-ne2.false (c.same_senses-equal.ensures c.args.reals.now))) c.note_if.ensures
