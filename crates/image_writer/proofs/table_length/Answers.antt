-- `image_writer::table_length` meets its contract: the table's own words hold its used records. Assumes nothing.
use native.Mathlib.Omega.{arith}
use mathlib.Core.Path.{◌∙◌}
use Rattle.memory_layout.specs.Layout.{word_strides}
use Rattle.memory_layout.specs.Laws.{before-tables}
use Rattle.memory_layout.specs.TableRows.{rest}
use Rattle.image_writer.specs.Laws.{word_rows, table-length}
use Rattle.image_writer.proofs.table_length.Goals as goal

pub bounds-words-k : goal.bounds-words-k
bounds-words-k c =
    let s = c in
    let b = before-tables 11 word_strides s.args.room.now 10 in
    omega (arith, s.requires.used.words)

pub offset_bounds-words-at : goal.offset_bounds-words-at
offset_bounds-words-at c =
    let s = c in
    let p = (word_rows s.args.room.now s.args.words.now s.requires.used s.args.k s.requires.k_bound).0 in
    let e = c.word_at-at.ensures in
    record { fits = omega arith }

pub slice_bounds-rows_length-count : goal.slice_bounds-rows_length-count
slice_bounds-rows_length-count c =
    let s = c in
    let p = (word_rows s.args.room.now s.args.words.now s.requires.used s.args.k s.requires.k_bound).0 in
    let e = c.word_at-at.ensures in
    omega arith

pub slice_bounds-rows_length-start : goal.slice_bounds-rows_length-start
slice_bounds-rows_length-start c =
    let s = c in
    let p = (word_rows s.args.room.now s.args.words.now s.requires.used s.args.k s.requires.k_bound).0 in
    let e = c.word_at-at.ensures in
    omega arith

pub rows_length-requires : goal.rows_length-requires
rows_length-requires c =
    let s = c in
    rw (rest, c.word_at-at.ensures) (word_rows s.args.room.now s.args.words.now s.requires.used s.args.k s.requires.k_bound).1

pub returns : goal.returns
returns c =
    let s = c in
    c.rows_length.ensures ∙ rw (rest, c.word_at-at.ensures) (table-length s.args.room.now s.args.words.now s.args.k)
