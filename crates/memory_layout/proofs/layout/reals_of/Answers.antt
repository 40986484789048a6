-- `memory_layout::layout::reals_of` meets its contract: the part lies within the memory. Assumes nothing.
use Prim.Native.Nat.{◌+◌, ◌-◌}
use mathlib.Core.Path.{◌≡◌}
use native.Mathlib.Omega.{arith}
use Rattle.memory_layout.specs.Layout.{real_strides, reals_of}
use Rattle.memory_layout.specs.Laws.{capacity-le, record-inside}
use Rattle.memory_layout.proofs.layout.reals_of.Goals as goal

pub real_at-at-requires : goal.real_at-at-requires
real_at-at-requires c = let g = capacity-le c.args.room.now c.requires.small c.args.k c.requires.inside.table in record { small = c.requires.small; k_bound = (c.requires.inside.table, omega arith) }

pub overflow_add-end : goal.overflow_add-end
overflow_add-end c =
    let s = c in
    let r = s.args.room.now in
    let n = record-inside 1 real_strides r s.args.k s.args.i s.requires.inside.table s.requires.inside.slot in
    let e = c.real_at-at.ensures in
    let f = c.real_stride.ensures in
    record { fits = omega (arith, s.requires.inside.enough) }

pub offset_bounds-reals-at : goal.offset_bounds-reals-at
offset_bounds-reals-at c =
    let s = c in
    let r = s.args.room.now in
    let n = record-inside 1 real_strides r s.args.k s.args.i s.requires.inside.table s.requires.inside.slot in
    let e = c.real_at-at.ensures in
    let f = c.real_stride.ensures in
    record { fits = omega (arith, s.requires.inside.enough) }

pub slice_bounds-result-end : goal.slice_bounds-result-end
slice_bounds-result-end c =
    let s = c in
    let r = s.args.room.now in
    let n = record-inside 1 real_strides r s.args.k s.args.i s.requires.inside.table s.requires.inside.slot in
    let e = c.real_at-at.ensures in
    let f = c.real_stride.ensures in
    omega (arith, s.requires.inside.enough)

pub returns : goal.returns
unfolding reals_of
returns c =
    let a = c.real_at-at.result in
    let n = c.real_stride.result in
    let e : a + n - a ≡ n = omega arith in
    rw (e, c.real_at-at.ensures, c.real_stride.ensures)
