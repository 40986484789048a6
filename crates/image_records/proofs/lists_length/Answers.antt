-- `image_records::lists_length` meets its contract: a turn of the loop is one more list. Assumes nothing.
use Rattle.std.specs.Prelude.{ℕ, ◌≡◌, length}
use Rattle.std.proofs.Common.{arith, ap, ◌∙◌}
use Rattle.memory_layout.specs.Layout.{word}
use Rattle.image_format.specs.Fields.{list_counts}
use Rattle.image_records.specs.Kept.{lists_of}
use Rattle.image_records.specs.Laws.{lists-none, turn}
use Rattle.image_records.proofs.lists_length.Goals as goal

pub loop-j-init : goal.loop-j-init
loop-j-init c = rw lists-none

pub offset_bounds-w-at : goal.offset_bounds-w-at
offset_bounds-w-at c =
    let s = c.args in
    let n = c.list_count-n.ensures in
    let t = turn s.k s.w.now c.loop-j.j c.place_of-at.result c.requires (omega arith) c.place_of-at.ensures in
    let h = t.held in
    record { fits = omega arith }

pub bounds-w-at : goal.bounds-w-at
bounds-w-at c =
    let s = c.args in
    let n = c.list_count-n.ensures in
    let t = turn s.k s.w.now c.loop-j.j c.place_of-at.result c.requires (omega arith) c.place_of-at.ensures in
    t.held.place

pub overflow_add-long-in-loop-j : goal.overflow_add-long-in-loop-j
overflow_add-long-in-loop-j c =
    let s = c.args in
    let n = c.list_count-n.ensures in
    let t = turn s.k s.w.now c.loop-j.j c.place_of-at.result c.requires (omega arith) c.place_of-at.ensures in
    let m = t.small in
    let q = t.longer in
    omega arith

pub loop-j-preserved : goal.loop-j-preserved
loop-j-preserved c =
    let s = c.args in
    let n = c.list_count-n.ensures in
    let t = turn s.k s.w.now c.loop-j.j c.place_of-at.result c.requires (omega arith) c.place_of-at.ensures in
    let q = t.longer in
    omega arith

pub returns : goal.returns
returns c =
    let n = c.list_count-n.ensures in
    let e : c.loop-j.j ≡ word list_counts c.args.k = omega arith in
    c.loop-j.invariant ∙ ap (λ (j : ℕ). length (lists_of c.args.k c.args.w.now j)) e
