-- `memory_writes::put::put_words` meets its contract: the record lies within the memory. Assumes nothing.
use Prim.Native.Nat.{◌+◌, ◌-◌}
use native.Mathlib.Omega.{arith}
use mathlib.Core.Path.{◌≡◌, ◌∙◌}
use lib.ListN.{length}
use Rattle.memory_layout.specs.Layout.{word_strides, word, word_at, words_of}
use Rattle.memory_layout.specs.Laws.{capacity-le, record-inside}
use Rattle.memory_layout.proofs.Laws.{words-length}
use Rattle.memory_writes.specs.Put.{over, put_words}
use Rattle.memory_writes.specs.Over.{length_over, taken_back}
use Rattle.memory_writes.proofs.put.put_words.Goals as goal

pub word_at-at-requires : goal.word_at-at-requires
word_at-at-requires c = let g = capacity-le c.args.room.now c.requires.small c.args.k c.requires.inside.table in record { small = c.requires.small; k_bound = (c.requires.inside.table, omega (arith, c.requires.inside.slot)) }

pub overflow_add-end : goal.overflow_add-end
overflow_add-end c =
    let s = c in
    let n = record-inside 11 word_strides s.args.room.now s.args.k s.args.i s.requires.inside.table s.requires.inside.slot in
    let e = c.word_at-at.ensures in
    let f = c.word_stride.ensures in
    record { fits = omega (arith, s.requires.inside.enough) }

pub offset_bounds-words-at : goal.offset_bounds-words-at
offset_bounds-words-at c =
    let s = c in
    let n = record-inside 11 word_strides s.args.room.now s.args.k s.args.i s.requires.inside.table s.requires.inside.slot in
    let e = c.word_at-at.ensures in
    let f = c.word_stride.ensures in
    record { fits = omega (arith, s.requires.inside.enough) }

pub slice_bounds-write_words-end : goal.slice_bounds-write_words-end
slice_bounds-write_words-end c =
    let s = c in
    let n = record-inside 11 word_strides s.args.room.now s.args.k s.args.i s.requires.inside.table s.requires.inside.slot in
    let e = c.word_at-at.ensures in
    let f = c.word_stride.ensures in
    omega (arith, s.requires.inside.enough)

pub returns : goal.returns
unfolding put_words words_of
returns c =
    let s = c in
    let room = s.args.room.now in
    let w = s.args.words.now in
    let k = s.args.k in
    let i = s.args.i in
    let at = c.word_at-at.result in
    let n = c.word_stride.result in
    let e : at + n - at ≡ n = omega arith in
    let l : length (words_of room w k i) ≡ word word_strides k = words-length room w k i s.requires.inside in
    rw (c.write_words.ensures, e, c.word_at-at.ensures, c.word_stride.ensures)
    (taken_back (word_at room k i) (word word_strides k) (over s.args.p s.args.a.now (words_of room w k i)) w
    (length_over s.args.p s.args.a.now (words_of room w k i) (omega (arith, s.requires.a_bound)) ∙ l))
