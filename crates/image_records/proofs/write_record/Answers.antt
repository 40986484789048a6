-- `image_records::write_record` meets its contract. Assumes nothing.
use Prim.Native.Nat.{ℕ, ◌+◌}
use native.Mathlib.Omega.{arith}
use mathlib.Core.Path.{ap, ◌∙◌}
use Rattle.memory_layout.specs.Layout.{word}
use Rattle.memory_writes.specs.Put.{over}
use Rattle.image_format.specs.Bytes.{little, words, floats}
use Rattle.image_format.specs.Fields.{list_counts}
use Rattle.image_records.specs.Kept.{head_of, tail_of, lists_of}
use Rattle.image_laws.specs.Sizes.{all-floats}
use Rattle.image_records.specs.Laws.{listed_of, parts-long, record-written}
use Rattle.image_records.proofs.write_record.Goals as goal

pub mark_of-requires : goal.mark_of-requires
mark_of-requires c =
    let s = c in
    listed_of s.args.k s.args.w.now s.args.x.now s.requires.kept

pub put_mark-requires : goal.put_mark-requires
put_mark-requires c =
    let s = c in
    let k = s.args.k in
    let w = s.args.w.now in
    let x = s.args.x.now in
    let l = parts-long k w x s.requires.kept in
    omega (arith, s.requires.x_in_bounds)

pub overflow_add-at : goal.overflow_add-at
overflow_add-at c =
    let s = c in
    let k = s.args.k in
    let w = s.args.w.now in
    let x = s.args.x.now in
    let l = parts-long k w x s.requires.kept in
    omega (arith, s.requires.x_in_bounds)

pub put_head-tail-requires : goal.put_head-tail-requires
put_head-tail-requires c =
    let s = c in
    let k = s.args.k in
    let w = s.args.w.now in
    let x = s.args.x.now in
    let l = parts-long k w x s.requires.kept in
    record { listed = listed_of k w x s.requires.kept; w_in_bounds = omega (arith, s.requires.x_in_bounds) }

pub put_tail-lists-requires : goal.put_tail-lists-requires
put_tail-lists-requires c =
    let s = c in
    let k = s.args.k in
    let w = s.args.w.now in
    let x = s.args.x.now in
    let l = parts-long k w x s.requires.kept in
    let e = s.requires.kept.whole in
    let q = c.put_head-tail.ensures.end in
    record { listed = listed_of k w x s.requires.kept; x_len = e.reals ∙ all-floats k e.table; x_in_bounds = omega (arith, s.requires.x_in_bounds) }

pub put_lists-requires : goal.put_lists-requires
put_lists-requires c =
    let s = c in
    let k = s.args.k in
    let w = s.args.w.now in
    let x = s.args.x.now in
    let l = parts-long k w x s.requires.kept in
    let q = c.put_head-tail.ensures.end in
    let r = c.put_tail-lists.ensures.end in
    record { listed = listed_of k w x s.requires.kept; k_in_bounds = omega (arith, s.requires.x_in_bounds) }

pub returns : goal.returns
returns c =
    let s = c in
    let k = s.args.k in
    let w = s.args.w.now in
    let x = s.args.x.now in
    let l = parts-long k w x s.requires.kept in
    let at = s.args.at in
    let q = c.put_head-tail.ensures.end in
    let r = c.put_tail-lists.ensures.end in
    let e = c.put_lists.ensures.end in record {
      end = omega arith;
      written = c.put_lists.ensures.written
          ∙ ap (over c.put_tail-lists.result (lists_of k w (word list_counts k)))
          (c.put_tail-lists.ensures.written
          ∙ ap (over c.put_head-tail.result (floats (tail_of k w x)))
          (c.put_head-tail.ensures.written
          ∙ ap (over (at + 2) (words (head_of k w)))
          (c.put_mark.ensures ∙ ap (λ (m : ℕ). over at (little 2 m) s.args.bytes.now) c.mark_of.ensures)))
          ∙ record-written k w x s.requires.kept at c.put_head-tail.result c.put_tail-lists.result s.args.bytes.now q r s.requires.x_in_bounds;
    }
