-- `image_writer::tables_length` meets its contract: a turn of the loop is one more table. Assumes nothing.
use Rattle.std.specs.Prelude.{◌+◌, ◌≡◌}
use Rattle.std.proofs.Common.{arith, sym, ap, ◌∙◌}
use Rattle.image_writer.specs.Rows.{tables_length}
use Rattle.image_writer.specs.Laws.{tables-length-none, tables-length-turn, tables-length-small}
use Rattle.image_writer.proofs.tables_length.Goals as goal

pub loop-k-init : goal.loop-k-init
loop-k-init c = sym (tables-length-none c.args.room.now c.args.words.now)

pub overflow_add-long : goal.overflow_add-long
overflow_add-long c =
    let s = c in
    let t = tables-length-turn s.args.room.now s.args.words.now c.loop-k.k _ _ c.loop-k.invariant c.table_length-long.ensures in
    let m = tables-length-small s.args.room.now s.args.words.now s.requires (c.loop-k.k + 1) (omega arith) in
    omega arith

pub loop-k-preserved : goal.loop-k-preserved
loop-k-preserved c =
    let s = c in
    tables-length-turn s.args.room.now s.args.words.now c.loop-k.k _ _ c.loop-k.invariant c.table_length-long.ensures

pub returns : goal.returns
returns c =
    let s = c in
    let e : c.loop-k.k ≡ 10 = omega arith in
    c.loop-k.invariant ∙ ap (tables_length s.args.room.now s.args.words.now) e
