-- `mend_writes::apply` meets its contract: a turn of the loop stores one entry. Assumes nothing.
use Rattle.std.proofs.Common.{◌+◌, ◌*◌, ◌-◌, ◌/◌, ◌≡◌, length, take, drop, div-add-mod', arith, ap, ◌∙◌}
use Rattle.mend_writes.specs.Facts.{entry_of}
use Rattle.mend_writes.specs.Laws.{entry_made, entries_made, entries_none, entries-turn, entries-made, changes-entries}
use Rattle.mend_writes.proofs.apply.Goals as goal

pub loop-i-init : goal.loop-i-init
loop-i-init c =
    let s = c in
    entries_none s.args.room.now s.args.words.now s.args.list.now

pub overflow_mul-at : goal.overflow_mul-at
overflow_mul-at c = let s = c in record { fits = omega (arith, div-add-mod' (length s.args.list.now) 6) }

pub overflow_add-end : goal.overflow_add-end
overflow_add-end c = let s = c in record { fits = omega (arith, div-add-mod' (length s.args.list.now) 6) }

pub offset_bounds-list-at : goal.offset_bounds-list-at
offset_bounds-list-at c =
    let s = c in
    record { fits = omega (arith, div-add-mod' (length s.args.list.now) 6) }

pub slice_bounds-apply_change-count : goal.slice_bounds-apply_change-count
slice_bounds-apply_change-count c = omega arith

pub slice_bounds-apply_change-start : goal.slice_bounds-apply_change-start
slice_bounds-apply_change-start c = omega arith

pub slice_bounds-apply_change-end : goal.slice_bounds-apply_change-end
slice_bounds-apply_change-end c =
    let s = c in
    omega (arith, div-add-mod' (length s.args.list.now) 6)

pub apply_change-requires : goal.apply_change-requires
apply_change-requires c =
    let s = c in
    let i = c.loop-i.i in
    let six : 6 * i + 6 - 6 * i ≡ 6 = omega arith in
    let p = s.requires in
    record { small = p.small; room_in_bounds = omega (arith, p.words); stored = rw six (p.each i (omega (arith, div-add-mod' (length s.args.list.now) 6))) }

pub loop-i-preserved : goal.loop-i-preserved
loop-i-preserved c =
    let s = c in
    let room = s.args.room.now in
    let list = s.args.list.now in
    let i = c.loop-i.i in
    let w = c.loop-i.words in
    let inv = c.loop-i.invariant in
    let six : 6 * i + 6 - 6 * i ≡ 6 = omega arith in
    let now = c.apply_change.ensures ∙ ap (λ n. entry_made room w (take n (drop (6 * i) list))) six in
    now ∙ ap (λ v. entry_made room v (entry_of list i)) inv ∙ entries-turn room s.args.words.now list i

pub returns : goal.returns
returns c l held =
    let s = c in
    let room = s.args.room.now in
    let w = s.args.words.now in
    let all : c.loop-i.i ≡ length s.args.list.now / 6 = omega arith in
    let entries : length s.args.list.now / 6 ≡ length l = ap (λ r. length r / 6) held ∙ changes-entries l in
    c.loop-i.invariant
    ∙ ap (entries_made room w s.args.list.now) (all ∙ entries)
    ∙ ap (λ r. entries_made room w r (length l)) held
    ∙ entries-made room w l
