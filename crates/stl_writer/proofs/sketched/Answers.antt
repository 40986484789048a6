-- `stl_writer::sketched` meets its contract. Assumes nothing.
use native.Mathlib.Omega.{arith}
use mathlib.Core.Path.{sym, ◌∙◌}
use borrow.Author.Rules.{rules}
use borrow.Author.Tests.{not-true, not-false}
use Rattle.stl_writer.specs.Laws.{drawable, refused-sketch, wide-sketch, narrow-sketch}
use Rattle.stl_writer.proofs.sketched.Goals as goal

pub returns-then-n-ne0 : goal.returns-then-n-ne0
returns-then-n-ne0 c =
    let s = c in
    let e = c.volume_refusal-n.ensures in
    record { answer = refused-sketch s.args.room.now s.args.words.now s.args.reals.now s.args.body s.args.faces.now _ e.answer c.if-n-ne0.true; few = omega arith; faces = e.faces }

pub draw-pen-requires : goal.draw-pen-requires
draw-pen-requires c =
    let s = c in
    drawable s.args.room.now s.args.words.now s.args.reals.now s.args.body s.args.faces.now (sym c.volume_refusal-n.ensures.answer ∙ c.if-n-ne0.false)

pub returns-then-not-pen : goal.returns-then-not-pen
returns-then-not-pen c =
    let s = c in
    let e = c.volume_refusal-n.ensures in
    record { answer = wide-sketch s.args.room.now s.args.words.now s.args.reals.now s.args.body s.args.faces.now _ _ c.draw-pen.result (sym e.answer ∙ c.if-n-ne0.false) c.draw-pen.ensures.drawn (not-true _ c.if-not-pen.true); few = omega arith; faces = e.faces }

pub returns : goal.returns
returns c =
    let s = c in
    let e = c.volume_refusal-n.ensures in
    record { answer = narrow-sketch s.args.room.now s.args.words.now s.args.reals.now s.args.body s.args.faces.now _ _ c.draw-pen.result (sym e.answer ∙ c.if-n-ne0.false) c.draw-pen.ensures.drawn (not-false _ c.if-not-pen.false); few = c.draw-pen.ensures.few; faces = e.faces }
