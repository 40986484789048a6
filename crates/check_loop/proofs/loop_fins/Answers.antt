-- `check_loop::loop_fins` meets its contract: one step after the other. Assumes nothing.
use mathlib.Core.Path.{sym}
use borrow.Author.Tests.{ne_eqb, eq-eqb}
use Rattle.memory_layout.specs.Decode.{decode}
use Rattle.check_reasons.specs.Laws.{enough-same, enough-first, enough-then, noted-same, noted-then}
use Rattle.check_ends.specs.Steps.{enough-one, enough-two, noted-two}
use Rattle.check_loop.specs.Laws.{fins-none, fins-without, fins-with, fins-some}
use borrow.Author.Rules.{rules}
use Rattle.check_loop.proofs.loop_fins.Goals as goal

pub note-requires : goal.note-requires
note-requires c = record { n_nonzero = search rules; enough = enough-same (fins-none (decode c.args.room.now c.args.words.now c.args.reals.now) c.args.geometry c.args.n c.args.f c.args.l c.args.fins.now (eq-eqb _ _ c.if-fins-eq0.true)) c.requires.enough }

pub returns-then-fins-eq0 : goal.returns-then-fins-eq0
returns-then-fins-eq0 c = noted-same (sym (fins-none (decode c.args.room.now c.args.words.now c.args.reals.now) c.args.geometry c.args.n c.args.f c.args.l c.args.fins.now (eq-eqb _ _ c.if-fins-eq0.true))) c.note.ensures

pub all_fins-a-requires : goal.all_fins-a-requires
all_fins-a-requires c = record { fit = c.requires.fit; enough = enough-first _ _ _ (enough-one _ _ _ (fins-some (decode c.args.room.now c.args.words.now c.args.reals.now) c.args.geometry c.args.n c.args.f c.args.l c.args.fins.now (ne_eqb _ _ c.if-fins-eq0.false)) c.requires.enough) }

pub open_loop-b-requires : goal.open_loop-b-requires
open_loop-b-requires c = record { fit = c.requires.fit; enough = enough-then (enough-one _ _ _ (fins-some (decode c.args.room.now c.args.words.now c.args.reals.now) c.args.geometry c.args.n c.args.f c.args.l c.args.fins.now (ne_eqb _ _ c.if-fins-eq0.false)) c.requires.enough) c.all_fins-a.ensures }

pub returns-then-not-geometry : goal.returns-then-not-geometry
returns-then-not-geometry c = noted-same (sym (fins-without (decode c.args.room.now c.args.words.now c.args.reals.now) c.args.geometry c.args.n c.args.f c.args.l c.args.fins.now (ne_eqb _ _ c.if-fins-eq0.false) (c.if-not-geometry.true))) (noted-then c.all_fins-a.ensures c.open_loop-b.ensures)

pub loop_geometry-requires : goal.loop_geometry-requires
loop_geometry-requires c = record { fit = c.requires.fit; n_bound = c.requires.n_bound; enough = enough-two _ _ _ (fins-with (decode c.args.room.now c.args.words.now c.args.reals.now) c.args.geometry c.args.n c.args.f c.args.l c.args.fins.now (ne_eqb _ _ c.if-fins-eq0.false) (c.if-not-geometry.false)) c.requires.enough (noted-then c.all_fins-a.ensures c.open_loop-b.ensures) }

pub returns : goal.returns
returns c = noted-two _ _ _ (fins-with (decode c.args.room.now c.args.words.now c.args.reals.now) c.args.geometry c.args.n c.args.f c.args.l c.args.fins.now (ne_eqb _ _ c.if-fins-eq0.false) (c.if-not-geometry.false)) (noted-then c.all_fins-a.ensures c.open_loop-b.ensures) c.loop_geometry.ensures
