-- `stl_writer::body_stl_length` meets its contract. Assumes nothing.
use borrow.Author.Rules.{rules}
use Rattle.stl_writer.specs.Laws.{length-refused, length-given}
use Rattle.stl_writer.proofs.body_stl_length.Goals as goal

pub returns-then-s-ne0 : goal.returns-then-s-ne0
returns-then-s-ne0 c =
    let s = c in
    let e = c.sketched-s.ensures in
    record { answer = length-refused s.args.room.now s.args.words.now s.args.reals.now s.args.body s.args.faces.now c.sketched-s.result e.answer c.if-s-ne0.true; faces = e.faces }

pub returns : goal.returns
returns c =
    let s = c in
    let e = c.sketched-s.ensures in
    record { answer = length-given s.args.room.now s.args.words.now s.args.reals.now s.args.body s.args.faces.now c.sketched-s.result e.answer c.if-s-ne0.false; faces = e.faces }
