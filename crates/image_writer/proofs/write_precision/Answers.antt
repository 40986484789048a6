-- `image_writer::write_precision` meets its contract. Assumes nothing.
use Prim.Native.Nat.{◌+◌}
use native.Mathlib.Omega.{arith}
use mathlib.Core.Path.{sym, ap, ◌∙◌}
use lib.ListN.{take}
use lib.Seq.{length-take-le}
use Rattle.memory_writes.specs.Put.{over}
use Rattle.image_format.specs.Bytes.{words, floats}
use Rattle.image_writer.specs.Laws.{precision-written}
use Rattle.image_writer.proofs.write_precision.Goals as goal

pub slice_bounds-put_words-end : goal.slice_bounds-put_words-end
slice_bounds-put_words-end c =
    let s = c in
    sym (length-take-le 10 s.args.words.now s.requires.0)

pub put_words-requires : goal.put_words-requires
put_words-requires c =
    let s = c in
    let l = length-take-le 10 s.args.words.now s.requires.0 in
    omega (arith, s.requires.2)

pub slice_bounds-put_floats-end : goal.slice_bounds-put_floats-end
slice_bounds-put_floats-end c =
    let s = c in
    sym (length-take-le 1 s.args.reals.now s.requires.1)

pub put_floats-requires : goal.put_floats-requires
put_floats-requires c =
    let s = c in
    let l = length-take-le 1 s.args.reals.now s.requires.1 in
    omega (arith, s.requires.2)

pub returns : goal.returns
returns c =
    let s = c in
    let w = s.args.words.now in
    let x = s.args.reals.now in
    c.put_floats.ensures
    ∙ ap (over (s.args.at + 42) (floats (take 1 x))) (c.put_words.ensures ∙ ap (over (s.args.at + 2) (words (take 10 w))) c.put_mark.ensures)
    ∙ precision-written w x s.requires.0 s.requires.1 s.args.at s.args.bytes.now s.requires.2
