-- `image_records::put_tail` meets its contract. Assumes nothing.
use Prim.Native.Nat.{ℕ, ◌+◌, ◌*◌, ◌-◌}
use native.Mathlib.Omega.{arith}
use mathlib.Core.Path.{sym, ap, ◌∙◌}
use mathlib.Core.List.{List}
use lib.Ieee.{Float, of_bits}
use lib.ListN.{length, take, replicate}
use Rattle.interval_arithmetic.specs.Ops.{zero_f}
use Rattle.memory_writes.specs.Put.{over}
use Rattle.image_format.specs.Bytes.{floats}
use Rattle.image_records.specs.Laws.{over-turn, tail-parts}
use Rattle.image_records.proofs.put_tail.Goals as goal

pub overflow_sub-said : goal.overflow_sub-said
overflow_sub-said c =
    let s = c in
    let k = s.args.k in
    let w = s.args.w.now in
    let x = s.args.x.now in
    let q = c.unsaid-quiet.result in
    let t = tail-parts k w x q s.requires.listed.table s.requires.x_len c.unsaid-quiet.ensures in
    t.few

pub slice_bounds-put_floats-end : goal.slice_bounds-put_floats-end
slice_bounds-put_floats-end c =
    let s = c in
    let k = s.args.k in
    let w = s.args.w.now in
    let x = s.args.x.now in
    let q = c.unsaid-quiet.result in
    let t = tail-parts k w x q s.requires.listed.table s.requires.x_len c.unsaid-quiet.ensures in
    sym t.said

pub put_floats-requires : goal.put_floats-requires
put_floats-requires c =
    let s = c in
    let k = s.args.k in
    let w = s.args.w.now in
    let x = s.args.x.now in
    let q = c.unsaid-quiet.result in
    let t = tail-parts k w x q s.requires.listed.table s.requires.x_len c.unsaid-quiet.ensures in
    let m = t.small in
    let f = t.few in
    let a = t.said in
    let b = t.quiet in
    let l = t.long in
    omega (arith, s.requires.x_in_bounds)

pub overflow_mul-said : goal.overflow_mul-said
overflow_mul-said c =
    let s = c in
    let k = s.args.k in
    let w = s.args.w.now in
    let x = s.args.x.now in
    let q = c.unsaid-quiet.result in
    let t = tail-parts k w x q s.requires.listed.table s.requires.x_len c.unsaid-quiet.ensures in
    let m = t.small in
    let f = t.few in
    let a = t.said in
    let b = t.quiet in
    let l = t.long in
    omega arith

pub overflow_add-at : goal.overflow_add-at
overflow_add-at c =
    let s = c in
    let k = s.args.k in
    let w = s.args.w.now in
    let x = s.args.x.now in
    let q = c.unsaid-quiet.result in
    let t = tail-parts k w x q s.requires.listed.table s.requires.x_len c.unsaid-quiet.ensures in
    let m = t.small in
    let f = t.few in
    let a = t.said in
    let b = t.quiet in
    let l = t.long in
    omega (arith, s.requires.x_in_bounds)

pub slice_bounds-zeros-end : goal.slice_bounds-zeros-end
slice_bounds-zeros-end c =
    let s = c in
    let k = s.args.k in
    let w = s.args.w.now in
    let x = s.args.x.now in
    let q = c.unsaid-quiet.result in
    let t = tail-parts k w x q s.requires.listed.table s.requires.x_len c.unsaid-quiet.ensures in
    let m = t.small in
    let f = t.few in
    let a = t.said in
    let b = t.quiet in
    let l = t.long in
    omega arith

pub slice_bounds-put_floats-end-2 : goal.slice_bounds-put_floats-end-2
unfolding of_bits
slice_bounds-put_floats-end-2 c =
    let s = c in
    let k = s.args.k in
    let w = s.args.w.now in
    let x = s.args.x.now in
    let q = c.unsaid-quiet.result in
    let t = tail-parts k w x q s.requires.listed.table s.requires.x_len c.unsaid-quiet.ensures in
    sym t.quiet

pub put_floats-requires-2 : goal.put_floats-requires-2
unfolding of_bits
put_floats-requires-2 c =
    let s = c in
    let k = s.args.k in
    let w = s.args.w.now in
    let x = s.args.x.now in
    let q = c.unsaid-quiet.result in
    let t = tail-parts k w x q s.requires.listed.table s.requires.x_len c.unsaid-quiet.ensures in
    let m = t.small in
    let f = t.few in
    let a = t.said in
    let b = t.quiet in
    let l = t.long in
    omega (arith, s.requires.x_in_bounds)

pub overflow_mul-result : goal.overflow_mul-result
overflow_mul-result c =
    let s = c in
    let k = s.args.k in
    let w = s.args.w.now in
    let x = s.args.x.now in
    let q = c.unsaid-quiet.result in
    let t = tail-parts k w x q s.requires.listed.table s.requires.x_len c.unsaid-quiet.ensures in
    let m = t.small in
    omega arith

pub overflow_add-result : goal.overflow_add-result
overflow_add-result c =
    let s = c in
    let k = s.args.k in
    let w = s.args.w.now in
    let x = s.args.x.now in
    let q = c.unsaid-quiet.result in
    let t = tail-parts k w x q s.requires.listed.table s.requires.x_len c.unsaid-quiet.ensures in
    let l = t.long in
    omega (arith, s.requires.x_in_bounds)

pub returns : goal.returns
unfolding of_bits
returns c =
    let s = c in
    let k = s.args.k in
    let w = s.args.w.now in
    let x = s.args.x.now in
    let q = c.unsaid-quiet.result in
    let t = tail-parts k w x q s.requires.listed.table s.requires.x_len c.unsaid-quiet.ensures in
    let z : List Float = replicate 6 zero_f in
    let n = length x - q in
    let a = t.said-bytes in
    let b = t.quiet-bytes in
    let l = t.long in
    let f = t.few in
    let r = s.requires.x_in_bounds in record {
      end = omega arith;
      written = c.put_floats-2.ensures
          ∙ over-turn s.args.at (s.args.at + 8 * n) (floats (take n x)) (floats (take q z)) c.put_floats.new.bytes s.args.bytes.now (omega arith) c.put_floats.ensures (omega arith)
          ∙ ap (λ (y : List ℕ). over s.args.at y s.args.bytes.now) (sym t.both);
    }
