-- `split_lists::passes::double_list` meets its contract. Assumes nothing.
use Prim.Native.Nat.{◌+◌, ◌-◌}
use native.Mathlib.Omega.{arith}
use mathlib.Core.Path.{◌≡◌, ◌∙◌}
use Rattle.memory_layout.specs.Layout.{word_strides, word, word_at, words_of}
use Rattle.memory_layout.specs.Laws.{capacity-le, record-inside}
use Rattle.memory_layout.proofs.Laws.{words-length}
use Rattle.memory_writes.specs.Put.{put_words}
use Rattle.memory_writes.specs.Over.{taken_back}
use Rattle.split_lists.specs.Beside.{entries_for, doubled}
use Rattle.split_lists.specs.Laws.{length-doubled}
use Rattle.split_lists.proofs.passes.double_list.Goals as goal

pub word_at-at-requires : goal.word_at-at-requires
word_at-at-requires c =
    let s = c in
    let g = capacity-le s.args.room.now s.requires.small s.args.k s.requires.inside.table in
    record { small = s.requires.small; k_bound = (s.requires.inside.table, omega (arith, s.requires.inside.slot)) }

pub overflow_add-end : goal.overflow_add-end
overflow_add-end c =
    let s = c in
    let n = record-inside 11 word_strides s.args.room.now s.args.k s.args.i s.requires.inside.table s.requires.inside.slot in
    let e = c.word_at-at.ensures in
    let f = c.word_stride.ensures in
    record { fits = omega (arith, s.requires.inside.enough) }

pub offset_bounds-words-at : goal.offset_bounds-words-at
offset_bounds-words-at c =
    let s = c in
    let n = record-inside 11 word_strides s.args.room.now s.args.k s.args.i s.requires.inside.table s.requires.inside.slot in
    let e = c.word_at-at.ensures in
    let f = c.word_stride.ensures in
    record { fits = omega (arith, s.requires.inside.enough) }

pub slice_bounds-double-end : goal.slice_bounds-double-end
slice_bounds-double-end c =
    let s = c in
    let n = record-inside 11 word_strides s.args.room.now s.args.k s.args.i s.requires.inside.table s.requires.inside.slot in
    let e = c.word_at-at.ensures in
    let f = c.word_stride.ensures in
    omega (arith, s.requires.inside.enough)

pub double-requires : goal.double-requires
unfolding words_of
double-requires c =
    let s = c in
    let at = c.word_at-at.result in
    let n = c.word_stride.result in
    let e : at + n - at ≡ n = omega arith in
    record { olds = s.requires.olds; longer = rw (e, c.word_at-at.ensures, c.word_stride.ensures) s.requires.longer }

pub returns : goal.returns
unfolding put_words words_of
returns c =
    let s = c in
    let at = c.word_at-at.result in
    let n = c.word_stride.result in
    let e : at + n - at ≡ n = omega arith in
    let room = s.args.room.now in
    let w = s.args.words.now in
    let k = s.args.k in
    let i = s.args.i in
    rw (c.double.ensures, e, c.word_at-at.ensures, c.word_stride.ensures)
    (taken_back (word_at room k i) (word word_strides k) (doubled (entries_for s.args.olds.now s.args.owners.now s.args.senses.now s.args.owner s.args.first) s.args.place (words_of room w k i)) w
    (length-doubled (entries_for s.args.olds.now s.args.owners.now s.args.senses.now s.args.owner s.args.first) s.args.place (words_of room w k i) s.requires.longer ∙ words-length room w k i s.requires.inside))
