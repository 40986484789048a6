-- `split_lists::beside::double_with` meets its contract. Assumes nothing.
use Prim.Native.Nat.{◌≤◌, ◌+◌, ◌-◌}
use native.Mathlib.Omega.{arith}
use mathlib.Core.Path.{◌≡◌, ap, ◌∙◌}
use lib.ListN.{length, set}
use Rattle.meaning.specs.Lists.{joined}
use Rattle.memory_layout.specs.Layout.{word}
use Rattle.memory_layout.specs.Decode.{list_at}
use Rattle.memory_writes.specs.Put.{over}
use Rattle.split_lists.specs.Beside.{entries_for, doubled}
use Rattle.split_lists.specs.BesideLaws.{head-store, copy-length, copy-fits, copied, copied-length}
use Rattle.split_lists.proofs.beside.double_with.Goals as goal

pub slice_bounds-write_words-end-2 : goal.slice_bounds-write_words-end-2
slice_bounds-write_words-end-2 c =
    let s = c in
    let whole = s.requires.longer.whole in
    let short = s.requires.longer.short in
    let lent = s.requires.in_bounds in
    let enough : word s.args.w.now s.args.at ≤ length s.args.copy.now = omega arith in
    copy-length s.args.w.now s.args.copy.now s.args.at whole enough

pub write_words-requires : goal.write_words-requires
write_words-requires c =
    let s = c in
    let whole = s.requires.longer.whole in
    let short = s.requires.longer.short in
    let lent = s.requires.in_bounds in
    let enough : word s.args.w.now s.args.at ≤ length s.args.copy.now = omega arith in
    copy-fits s.args.w.now s.args.copy.now s.args.at whole enough

pub slice_bounds-put_each-end-2 : goal.slice_bounds-put_each-end-2
slice_bounds-put_each-end-2 c =
    let s = c in
    let whole = s.requires.longer.whole in
    let short = s.requires.longer.short in
    let lent = s.requires.in_bounds in
    let enough : word s.args.w.now s.args.at ≤ length s.args.copy.now = omega arith in
    copied-length s.args.w.now s.args.copy.now s.args.at whole enough _ c.write_words.ensures

pub put_each-behind-requires : goal.put_each-behind-requires
put_each-behind-requires c =
    let s = c in
    let whole = s.requires.longer.whole in
    let short = s.requires.longer.short in
    let lent = s.requires.in_bounds in
    let enough : word s.args.w.now s.args.at ≤ length s.args.copy.now = omega arith in
    let same = copied s.args.w.now s.args.copy.now s.args.at whole enough _ c.write_words.ensures in
    let g = s.requires.longer.room in
    record { olds = s.requires.olds; l_in_bounds = rw same (omega arith) }

pub overflow_cast-w : goal.overflow_cast-w
overflow_cast-w c =
    let s = c in
    let whole = s.requires.longer.whole in
    let short = s.requires.longer.short in
    let lent = s.requires.in_bounds in
    let enough : word s.args.w.now s.args.at ≤ length s.args.copy.now = omega arith in
    let same = copied s.args.w.now s.args.copy.now s.args.at whole enough _ c.write_words.ensures in
    let d = ap (λ l. length (joined (entries_for s.args.olds.now s.args.owners.now s.args.senses.now s.args.owner s.args.first) l)) same in
    let e = c.put_each-behind.ensures.behind in
    let n = s.requires.longer.long in
    omega arith

pub returns : goal.returns
unfolding doubled
returns c =
    let s = c in
    let whole = s.requires.longer.whole in
    let short = s.requires.longer.short in
    let lent = s.requires.in_bounds in
    let enough : word s.args.w.now s.args.at ≤ length s.args.copy.now = omega arith in
    let same = copied s.args.w.now s.args.copy.now s.args.at whole enough _ c.write_words.ensures in
    let j = joined (entries_for s.args.olds.now s.args.owners.now s.args.senses.now s.args.owner s.args.first) (list_at s.args.w.now s.args.at) in
    let d = ap (λ l. length (joined (entries_for s.args.olds.now s.args.owners.now s.args.senses.now s.args.owner s.args.first) l)) same in
    let e = c.put_each-behind.ensures.behind in
    let g = s.requires.longer.room in
    let n : c.put_each-behind.result - (s.args.at + 1) ≡ length j = omega arith in
    ap (λ v. set c.put_each-behind.new.w s.args.at v) n
    ∙ ap (λ l. set l s.args.at (length j)) (c.put_each-behind.ensures.list ∙ ap (λ l. over (s.args.at + 1) (joined (entries_for s.args.olds.now s.args.owners.now s.args.senses.now s.args.owner s.args.first) l) s.args.w.now) same)
    ∙ head-store s.args.w.now j s.args.at (length j) (omega arith)
