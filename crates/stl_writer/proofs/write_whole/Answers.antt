-- `stl_writer::write_whole` meets its contract: the head, and the triangles behind it. Assumes nothing.
use native.Mathlib.Omega.{arith}
use mathlib.Core.Path.{ap, ◌∙◌}
use mathlib.Core.List.{◌++◌}
use lib.ListN.{replicate}
use borrow.Author.Rules.{rules}
use Rattle.meaning.specs.Inquire.{solid_sides}
use Rattle.memory_layout.specs.Decode.{decode}
use Rattle.memory_writes.specs.Put.{over}
use Rattle.image_format.specs.Bytes.{little}
use Rattle.stl_format.specs.Stl.{triangles_of}
use Rattle.stl_writer.specs.Laws.{whole-bytes}
use Rattle.stl_writer.proofs.write_whole.Goals as goal

pub returns : goal.returns
returns c =
    let s = c in
    let m = decode s.args.room.now s.args.words.now s.args.reals.now in
    let n = s.requires.count_value.0 in
    let long = s.requires.count_in_bounds in
    whole-bytes (triangles_of m (solid_sides m s.args.body)) s.args.bytes.now _ _ (omega arith) (c.write_head.ensures ∙ ap (λ k. over 0 (replicate 80 0 ++ little 4 k) s.args.bytes.now) n) c.draw.ensures.drawn.bytes
