-- `image_writer::write_version` meets its contract. Assumes nothing.
use Prim.Native.Nat.{ℕ}
use native.Mathlib.Omega.{arith}
use mathlib.Core.Path.{sym, ap, ◌∙◌}
use mathlib.Core.List.{List, [], ◌∷◌}
use lib.ListN.{length}
use Rattle.memory_writes.specs.Put.{over}
use Rattle.memory_writes.specs.Over.{over_none}
use Rattle.image_format.specs.Bytes.{words}
use Rattle.image_writer.specs.Laws.{first-bytes, second-long, version-written}
use Rattle.image_writer.proofs.write_version.Goals as goal

pub returns-then-words-ne2 : goal.returns-then-words-ne2
returns-then-words-ne2 c =
    let s = c in
    let e = first-bytes s.args.words.now c.if-words-ne2.true in
    record { end = sym (ap length e); written = sym (ap (λ (a : List ℕ). over 0 a s.args.bytes.now) e ∙ over_none 0 s.args.bytes.now) }

pub put_mark-requires : goal.put_mark-requires
put_mark-requires c =
    let s = c in
    let l = second-long s.args.words.now c.if-words-ne2.false in
    omega (arith, s.requires.1)

pub put_words-requires : goal.put_words-requires
put_words-requires c =
    let s = c in
    let l = second-long s.args.words.now c.if-words-ne2.false in
    omega (arith, s.requires.1)

pub returns : goal.returns
returns c =
    let s = c in
    let e = c.if-words-ne2.false in
    let l = second-long s.args.words.now e in record {
      end = sym l;
      written = c.put_words.ensures ∙ ap (over 2 (words (2 ∷ []))) c.put_mark.ensures
          ∙ version-written s.args.words.now s.args.bytes.now e (omega (arith, s.requires.1));
    }
