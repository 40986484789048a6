-- `image_writer::write_tables` meets its contract: a turn of the loop is one more table. Assumes nothing.
use Rattle.std.specs.Prelude.{ℕ, ◌+◌, ◌≡◌, List, length}
use Rattle.std.proofs.Common.{arith, sym, ap, ◌∙◌, length-append}
use Rattle.memory_writes.specs.Put.{over}
use Rattle.memory_writes.specs.Over.{over_none}
use Rattle.image_records.specs.Laws.{over-turn}
use Rattle.image_writer.specs.Rows.{table_of, tables_of}
use Rattle.image_writer.specs.Laws.{tables-none, tables-turn, tables-within}
use Rattle.image_writer.proofs.write_tables.Goals as goal

pub loop-k-init : goal.loop-k-init
loop-k-init c =
    let s = c in
    let e = tables-none s.args.room.now s.args.words.now s.args.reals.now in
    (rw e (omega arith), sym (ap (λ (a : List ℕ). over s.args.at a s.args.bytes.now) e ∙ over_none s.args.at s.args.bytes.now))

pub write_table-to-requires : goal.write_table-to-requires
write_table-to-requires c =
    let s = c in
    let room = s.args.room.now in
    let w = s.args.words.now in
    let x = s.args.reals.now in
    let at = s.args.at in
    let k = c.loop-k.k in
    let v = tables-within room w x k 10 (omega arith) in
    let z = c.loop-k.invariant in
    record { fit = s.requires.fit; k_bound = omega arith; k_in_bounds = omega (arith, s.requires.reals_in_bounds) }

pub loop-k-preserved : goal.loop-k-preserved
loop-k-preserved c =
    let s = c in
    let room = s.args.room.now in
    let w = s.args.words.now in
    let x = s.args.reals.now in
    let at = s.args.at in
    let k = c.loop-k.k in
    let v = tables-within room w x k 10 (omega arith) in
    let z = c.loop-k.invariant in
    let r = s.requires.reals_in_bounds in
    let a : List ℕ = tables_of room w x k in
    let b : List ℕ = table_of room w x k in
    let t = tables-turn room w x k in
    let g = ap length t in
    let h = length-append a b in
    let q = c.write_table-to.ensures.end in
    let u : c.write_table-to.new.bytes ≡ over at (tables_of room w x (k + 1)) s.args.bytes.now =
    c.write_table-to.ensures.written
    ∙ over-turn at c.loop-k.to a b c.loop-k.bytes s.args.bytes.now z.0 z.1 (omega arith)
    ∙ ap (λ (y : List ℕ). over at y s.args.bytes.now) (sym t) in
    (omega arith, u)

pub returns : goal.returns
returns c =
    let s = c in
    let e : c.loop-k.k ≡ 10 = omega arith in
    let z = c.loop-k.invariant in record { end = z.0 ∙ ap (λ (k : ℕ). s.args.at + length (tables_of s.args.room.now s.args.words.now s.args.reals.now k)) e; written = z.1 ∙ ap (λ (k : ℕ). over s.args.at (tables_of s.args.room.now s.args.words.now s.args.reals.now k) s.args.bytes.now) e }
