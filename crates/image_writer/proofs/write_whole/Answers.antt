-- `image_writer::write_whole` meets its contract. Assumes nothing.
use Prim.Native.Nat.{ℕ, ◌+◌}
use native.Mathlib.Omega.{arith}
use mathlib.Core.Path.{sym, ap, ◌∙◌}
use lib.ListN.{length}
use Rattle.memory_layout.specs.Laws.{precision-there, version-there}
use Rattle.memory_writes.specs.Put.{over}
use Rattle.image_writer.specs.Rows.{version_bytes, precision_bytes, tables_of}
use Rattle.image_writer.specs.Laws.{ten-words, whole-written, whole_long}
use Rattle.image_writer.proofs.write_whole.Goals as goal

pub write_version-at-requires : goal.write_version-at-requires
write_version-at-requires c =
    let s = c in
    let l = whole_long s.args.room.now s.args.words.now s.args.reals.now s.requires.fit.sized in
    (version-there s.args.room.now s.args.words.now s.requires.fit.sized.words, omega (arith, s.requires.reals_in_bounds))

pub write_precision-requires : goal.write_precision-requires
write_precision-requires c =
    let s = c in
    let room = s.args.room.now in
    let w = s.args.words.now in
    let x = s.args.reals.now in
    let z = s.requires.fit.sized in
    let l = whole_long room w x z in
    let e = c.write_version-at.ensures.end in
    (ten-words room w x z, precision-there room w x z, omega (arith, s.requires.reals_in_bounds))

pub overflow_add-at : goal.overflow_add-at
overflow_add-at c =
    let s = c in
    let l = whole_long s.args.room.now s.args.words.now s.args.reals.now s.requires.fit.sized in
    let e = c.write_version-at.ensures.end in
    record { fits = omega (arith, s.requires.reals_in_bounds) }

pub write_tables-requires : goal.write_tables-requires
write_tables-requires c =
    let s = c in
    let l = whole_long s.args.room.now s.args.words.now s.args.reals.now s.requires.fit.sized in
    let e = c.write_version-at.ensures.end in
    record { fit = s.requires.fit; reals_in_bounds = omega (arith, s.requires.reals_in_bounds) }

pub returns : goal.returns
returns c =
    let s = c in
    let room = s.args.room.now in
    let w = s.args.words.now in
    let x = s.args.reals.now in
    let b = s.args.bytes.now in
    let z = s.requires.fit.sized in
    let l = whole_long room w x z in
    let v = c.write_version-at.ensures in
    let at = c.write_version-at.result in
    let t = c.write_tables.ensures in record {
      end = t.end ∙ ap (λ (n : ℕ). n + 50 + length (tables_of room w x 10)) v.end ∙ sym l;
      written = t.written
          ∙ ap (over (at + 50) (tables_of room w x 10)) (c.write_precision.ensures ∙ ap (over at (precision_bytes w x)) v.written)
          ∙ ap (λ (n : ℕ). over (n + 50) (tables_of room w x 10) (over n (precision_bytes w x) (over 0 (version_bytes w) b))) v.end
          ∙ whole-written room w x b z s.requires.reals_in_bounds;
    }
