-- `edit_lists::start` meets its contract. Assumes nothing.
use native.Mathlib.Omega.{arith}
use Rattle.memory_layout.specs.Layout.{word_strides, word}
use Rattle.memory_layout.specs.Entries.{list_tables}
use Rattle.memory_layout.specs.Laws.{words-strides, stride-le, base-le, list-table, list-room}
use Rattle.edit_lists.specs.Answers.{list_start}
use Rattle.edit_lists.proofs.start.Goals as goal

pub word_at-requires : goal.word_at-requires
word_at-requires c =
    let s = c in
    let t = list-table s.args.j s.requires.j_bound.0 in
    let e = c.list_table.ensures in
    record { small = s.requires.small; k_bound = (omega arith, s.requires.j_bound.1) }

pub overflow_add-result : goal.overflow_add-result
overflow_add-result c =
    let s = c in
    let room = s.args.room.now in
    let j = s.args.j in
    let t = list-table j s.requires.j_bound.0 in
    let e = c.list_table.ensures in
    let k = c.list_table.result in
    let m = stride-le word_strides words-strides k s.args.i (omega arith) s.requires.j_bound.1 in
    let a = base-le 11 word_strides room words-strides s.requires.small k (omega arith) in
    let p = list-room j s.requires.j_bound.0 in
    let q = words-strides.small (word list_tables j) t in
    let g = c.word_at.ensures in
    let d = c.list_place.ensures in
    record { fits = omega arith }

pub returns : goal.returns
unfolding list_start
returns c = rw (c.list_place.ensures, c.word_at.ensures, c.list_table.ensures)
