-- `image_loading::lay_floats` meets its contract: the record lies within the memory. Assumes nothing.
use Prim.Native.Nat.{ℕ, ◌+◌, ◌-◌}
use native.Mathlib.Omega.{arith}
use mathlib.Core.Path.{◌≡◌, sym, ap, ap₂, ◌∙◌}
use mathlib.Core.List.{List}
use lib.ListN.{length, take, drop}
use lib.Ieee.{Float}
use Rattle.memory_layout.specs.Layout.{real_strides, word, real_at, reals_of}
use Rattle.memory_layout.specs.Laws.{capacity-le, record-inside}
use Rattle.memory_layout.proofs.Laws.{reals-length}
use Rattle.memory_writes.specs.Put.{over, put_reals}
use Rattle.memory_writes.specs.Over.{taken_back}
use Rattle.image_loading.proofs.lay_floats.Goals as goal

pub real_at-from-requires : goal.real_at-from-requires
real_at-from-requires c =
    let s = c in
    let g = capacity-le s.args.room.now s.requires.small s.args.k s.requires.inside.table in
    record { small = s.requires.small; k_bound = (s.requires.inside.table, omega (arith, s.requires.inside.slot)) }

pub overflow_add-end : goal.overflow_add-end
overflow_add-end c =
    let s = c in
    let n = record-inside 1 real_strides s.args.room.now s.args.k s.args.i s.requires.inside.table s.requires.inside.slot in
    let e = c.real_at-from.ensures in
    let f = c.real_stride.ensures in
    record { fits = omega (arith, s.requires.inside.enough) }

pub offset_bounds-reals-from : goal.offset_bounds-reals-from
offset_bounds-reals-from c =
    let s = c in
    let n = record-inside 1 real_strides s.args.room.now s.args.k s.args.i s.requires.inside.table s.requires.inside.slot in
    let e = c.real_at-from.ensures in
    let f = c.real_stride.ensures in
    record { fits = omega (arith, s.requires.inside.enough) }

pub slice_bounds-load_floats-end : goal.slice_bounds-load_floats-end
slice_bounds-load_floats-end c =
    let s = c in
    let n = record-inside 1 real_strides s.args.room.now s.args.k s.args.i s.requires.inside.table s.requires.inside.slot in
    let e = c.real_at-from.ensures in
    let f = c.real_stride.ensures in
    omega (arith, s.requires.inside.enough)

pub load_floats-requires : goal.load_floats-requires
unfolding reals_of
load_floats-requires c =
    let s = c in
    let at = c.real_at-from.result in
    let n = c.real_stride.result in
    let e : at + n - at ≡ n = omega arith in
    record { lies = s.requires.lies; at_in_bounds = s.requires.at_in_bounds; x_len = rw (e, c.real_at-from.ensures, c.real_stride.ensures) (reals-length s.args.room.now s.args.reals.now s.args.k s.args.i s.requires.inside) }

pub returns : goal.returns
unfolding reals_of put_reals
returns c =
    let s = c in
    let room = s.args.room.now in
    let x : List Float = s.args.reals.now in
    let k = s.args.k in
    let i = s.args.i in
    let at = c.real_at-from.result in
    let n = c.real_stride.result in
    let from : at ≡ real_at room k i = c.real_at-from.ensures in
    let many : at + n - at ≡ word real_strides k = let e = c.real_stride.ensures in omega arith in
    let here : take (at + n - at) (drop at x) ≡ reals_of room x k i = ap₂ (λ (m q : ℕ). take m (drop q x)) many from in
    let loaded = c.load_floats in
    let long : length loaded.new.x ≡ at + n - at = loaded.auto.x ∙ ap length here ∙ reals-length room x k i s.requires.inside ∙ sym many in
    taken_back at (at + n - at) loaded.new.x x long ∙ ap₂ (λ (q : ℕ) (a : List Float). over q a x) from loaded.ensures
