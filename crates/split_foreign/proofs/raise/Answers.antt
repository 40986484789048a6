-- `split_foreign::raise` meets its contract. Assumes nothing.
use Rattle.std.specs.Prelude.{◌≡◌}
use Rattle.std.proofs.Common.{ap, arith}
use Rattle.memory_layout.specs.Layout.{word}
use Rattle.memory_layout.specs.Entries.{list_tables}
use Rattle.memory_layout.specs.Laws.{version-there, list-table}
use Rattle.split_foreign.specs.Status.{standing, record_status}
use Rattle.split_foreign.specs.Laws.{rows_none, rows_more}
use Rattle.split_foreign.proofs.raise.Goals as goal

pub offset_bounds-words-list_table : goal.offset_bounds-words-list_table
offset_bounds-words-list_table c = let t = list-table c.args.j c.requires.j_bound in let e = c.list_table.ensures in omega arith

pub bounds-words-list_table : goal.bounds-words-list_table
bounds-words-list_table c =
    let t = list-table c.args.j c.requires.j_bound in
    let e = c.list_table.ensures in
    let n = version-there c.args.room.now c.args.words.now c.requires.lists.words in
    omega arith

pub loop-i-init : goal.loop-i-init
loop-i-init c = rows_none _ _ _ c.requires.fresh

pub record_status-requires : goal.record_status-requires
record_status-requires c =
    let e = ap (word c.args.words.now) c.list_table.ensures in
    record { lists = c.requires.lists; j_bound = (c.requires.j_bound, omega arith) }

pub bounds-own-i : goal.bounds-own-i
bounds-own-i c =
    let e = ap (word c.args.words.now) c.list_table.ensures in
    let h = c.requires.fresh.enough in
    omega arith

pub loop-i-preserved : goal.loop-i-preserved
loop-i-preserved c =
    let e = ap (word c.args.words.now) c.list_table.ensures in
    let h = c.requires.fresh.enough in
    rows_more c.loop-i.i (record_status c.args.room.now c.args.words.now c.args.edge c.args.j (standing c.args.below.now)) c.loop-i.own c.record_status.result (omega arith) c.record_status.ensures c.loop-i.invariant

pub returns : goal.returns
returns c =
    let e = ap (word c.args.words.now) c.list_table.ensures in
    let done : c.loop-i.i ≡ word c.args.words.now (word list_tables c.args.j) = omega arith in
    rw (← done) c.loop-i.invariant
