-- `memory_writes::put::put_reals` meets its contract: the record lies within the memory. Assumes nothing.
use Prim.Native.Nat.{◌+◌, ◌-◌}
use native.Mathlib.Omega.{arith}
use mathlib.Core.Path.{◌≡◌}
use Rattle.memory_layout.specs.Layout.{real_strides, word, real_at}
use Rattle.memory_layout.specs.Laws.{capacity-le, record-inside}
use Rattle.memory_writes.specs.Put.{put_reals}
use Rattle.memory_writes.specs.Over.{taken_back}
use Rattle.memory_writes.proofs.put.put_reals.Goals as goal

pub real_at-at-requires : goal.real_at-at-requires
real_at-at-requires c = let g = capacity-le c.args.room.now c.requires.small c.args.k c.requires.inside.table in record { small = c.requires.small; k_bound = (c.requires.inside.table, omega (arith, c.requires.inside.slot)) }

pub overflow_add-end : goal.overflow_add-end
overflow_add-end c =
    let s = c in
    let n = record-inside 1 real_strides s.args.room.now s.args.k s.args.i s.requires.inside.table s.requires.inside.slot in
    let e = c.real_at-at.ensures in
    let f = c.real_stride.ensures in
    record { fits = omega (arith, s.requires.inside.enough) }

pub offset_bounds-reals-at : goal.offset_bounds-reals-at
offset_bounds-reals-at c =
    let s = c in
    let n = record-inside 1 real_strides s.args.room.now s.args.k s.args.i s.requires.inside.table s.requires.inside.slot in
    let e = c.real_at-at.ensures in
    let f = c.real_stride.ensures in
    record { fits = omega (arith, s.requires.inside.enough) }

pub slice_bounds-write_reals-end : goal.slice_bounds-write_reals-end
slice_bounds-write_reals-end c =
    let s = c in
    let n = record-inside 1 real_strides s.args.room.now s.args.k s.args.i s.requires.inside.table s.requires.inside.slot in
    let e = c.real_at-at.ensures in
    let f = c.real_stride.ensures in
    omega (arith, s.requires.inside.enough)

pub returns : goal.returns
unfolding put_reals
returns c =
    let s = c in
    let room = s.args.room.now in
    let x = s.args.reals.now in
    let k = s.args.k in
    let i = s.args.i in
    let at = c.real_at-at.result in
    let n = c.real_stride.result in
    let e : at + n - at ≡ n = omega arith in
    rw (c.write_reals.ensures, e, c.real_at-at.ensures, c.real_stride.ensures)
    (taken_back (real_at room k i) (word real_strides k) s.args.a.now x s.requires.a_len)
