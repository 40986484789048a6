-- `stl_triangles::put_triangle` meets its contract: twelve numbers, and the attribute behind them. Assumes nothing.
use Prim.Native.Nat.{◌+◌}
use native.Mathlib.Omega.{arith}
use mathlib.Core.Path.{ap, ◌∙◌}
use borrow.Author.Rules.{rules}
use Rattle.memory_writes.specs.Put.{over}
use Rattle.image_format.specs.Bytes.{little}
use Rattle.stl_triangles.specs.Laws.{too_short, enough}
use Rattle.stl_triangles.proofs.put_triangle.Goals as goal

pub returns-then-bytes-at : goal.returns-then-bytes-at
returns-then-bytes-at c =
    let s = c in
    too_short s.args.o s.args.p s.args.q s.args.at s.args.bytes.now c.if-bytes-at.true

pub returns : goal.returns
returns c =
    let s = c in
    c.put_mark.ensures
    ∙ ap (over (s.args.at + 48) (little 2 0)) c.put_words.ensures
    ∙ enough s.args.o s.args.p s.args.q s.args.at s.args.bytes.now c.if-bytes-at.false
