-- `memory_writes::put::put_new` meets its contract: the record lies within the memory. Assumes nothing.
use Prim.Native.Nat.{◌+◌, ◌-◌}
use native.Mathlib.Omega.{arith}
use mathlib.Core.Path.{◌≡◌}
use lib.ListN.{length}
use Rattle.memory_layout.specs.Layout.{word_strides, word, word_at, words_of}
use Rattle.memory_layout.specs.Laws.{capacity-le, record-inside}
use Rattle.memory_layout.proofs.Laws.{words-length}
use Rattle.memory_writes.specs.Put.{put_words, new_words}
use Rattle.memory_writes.specs.Over.{taken_back}
use Rattle.memory_writes.specs.Frame.{new-length}
use Rattle.memory_writes.proofs.put.put_new.Goals as goal

pub word_at-at-requires : goal.word_at-at-requires
word_at-at-requires c = let g = capacity-le c.args.room.now c.requires.small c.args.k c.requires.inside.table in record { small = c.requires.small; k_bound = (c.requires.inside.table, omega (arith, c.requires.inside.slot)) }

pub overflow_add-end : goal.overflow_add-end
overflow_add-end c =
    let s = c in
    let n = record-inside 11 word_strides s.args.room.now s.args.k s.args.i s.requires.inside.table s.requires.inside.slot in
    let e = c.word_at-at.ensures in
    let f = c.word_stride.ensures in
    record { fits = omega (arith, s.requires.inside.enough) }

pub offset_bounds-words-at : goal.offset_bounds-words-at
offset_bounds-words-at c =
    let s = c in
    let n = record-inside 11 word_strides s.args.room.now s.args.k s.args.i s.requires.inside.table s.requires.inside.slot in
    let e = c.word_at-at.ensures in
    let f = c.word_stride.ensures in
    record { fits = omega (arith, s.requires.inside.enough) }

pub slice_bounds-write_new-end : goal.slice_bounds-write_new-end
slice_bounds-write_new-end c =
    let s = c in
    let n = record-inside 11 word_strides s.args.room.now s.args.k s.args.i s.requires.inside.table s.requires.inside.slot in
    let e = c.word_at-at.ensures in
    let f = c.word_stride.ensures in
    omega (arith, s.requires.inside.enough)

pub returns : goal.returns
unfolding put_words new_words words_of
returns c =
    let s = c in
    let room = s.args.room.now in
    let w = s.args.words.now in
    let k = s.args.k in
    let i = s.args.i in
    let at = c.word_at-at.result in
    let n = c.word_stride.result in
    let e : at + n - at ≡ n = omega arith in
    let l : length (words_of room w k i) ≡ word word_strides k = words-length room w k i s.requires.inside in
    rw (c.write_new.ensures, e, c.word_at-at.ensures, c.word_stride.ensures, l)
    (taken_back (word_at room k i) (word word_strides k) (new_words k s.args.a.now) w (new-length k s.args.a.now s.requires.a_len_bound))
