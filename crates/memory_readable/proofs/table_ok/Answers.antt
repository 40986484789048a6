-- `memory_readable::table_ok` meets its contract: the table's own words and floats hold its used records. Assumes nothing.
use mathlib.Core.Path.{◌∙◌}
use native.Mathlib.Omega.{arith}
use Rattle.memory_layout.specs.Layout.{word_strides}
use Rattle.memory_layout.specs.Laws.{before-tables}
use Rattle.memory_layout.specs.TableRows.{rest, rows-table}
use Rattle.memory_layout.proofs.TableRows.{table-rows, table-begins}
use Rattle.memory_readable.proofs.table_ok.Goals as goal

pub bounds-words-k : goal.bounds-words-k
bounds-words-k c =
    let s = c in
    let b = before-tables 11 word_strides s.args.room.now 10 in
    omega (arith, s.requires.sized.words)

pub overflow_cast-n : goal.overflow_cast-n
overflow_cast-n c = omega (arith, c.type_inv.words c.args.k)

pub offset_bounds-words-at : goal.offset_bounds-words-at
offset_bounds-words-at c =
    let s = c in
    let b = table-begins s.args.room.now s.args.words.now s.args.reals.now s.args.k s.requires.sized s.requires.k_bound in
    let e = c.word_at-at.ensures in
    let f = c.real_at-from.ensures in
    record { fits = omega arith }

pub slice_bounds-rows_ok-count : goal.slice_bounds-rows_ok-count
slice_bounds-rows_ok-count c =
    let s = c in
    let b = table-begins s.args.room.now s.args.words.now s.args.reals.now s.args.k s.requires.sized s.requires.k_bound in
    let e = c.word_at-at.ensures in
    let f = c.real_at-from.ensures in
    omega arith

pub slice_bounds-rows_ok-start : goal.slice_bounds-rows_ok-start
slice_bounds-rows_ok-start c =
    let s = c in
    let b = table-begins s.args.room.now s.args.words.now s.args.reals.now s.args.k s.requires.sized s.requires.k_bound in
    let e = c.word_at-at.ensures in
    let f = c.real_at-from.ensures in
    omega arith

pub offset_bounds-reals-from : goal.offset_bounds-reals-from
offset_bounds-reals-from c =
    let s = c in
    let b = table-begins s.args.room.now s.args.words.now s.args.reals.now s.args.k s.requires.sized s.requires.k_bound in
    let e = c.word_at-at.ensures in
    let f = c.real_at-from.ensures in
    record { fits = omega arith }

pub slice_bounds-rows_ok-count-2 : goal.slice_bounds-rows_ok-count-2
slice_bounds-rows_ok-count-2 c =
    let s = c in
    let b = table-begins s.args.room.now s.args.words.now s.args.reals.now s.args.k s.requires.sized s.requires.k_bound in
    let e = c.word_at-at.ensures in
    let f = c.real_at-from.ensures in
    omega arith

pub slice_bounds-rows_ok-start-2 : goal.slice_bounds-rows_ok-start-2
slice_bounds-rows_ok-start-2 c =
    let s = c in
    let b = table-begins s.args.room.now s.args.words.now s.args.reals.now s.args.k s.requires.sized s.requires.k_bound in
    let e = c.word_at-at.ensures in
    let f = c.real_at-from.ensures in
    omega arith

pub rows_ok-requires : goal.rows_ok-requires
rows_ok-requires c =
    let s = c in
    rw (rest, rest, c.word_at-at.ensures, c.real_at-from.ensures) (table-rows s.args.room.now s.args.words.now s.args.reals.now s.args.k s.requires.sized s.requires.k_bound)

pub returns : goal.returns
returns c =
    let s = c in
    c.rows_ok.ensures ∙ rw (rest, rest, c.word_at-at.ensures, c.real_at-from.ensures) (rows-table s.args.room.now s.args.words.now s.args.reals.now s.args.k)
