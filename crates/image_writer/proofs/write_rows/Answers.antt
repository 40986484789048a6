-- `image_writer::write_rows` meets its contract: a turn of the loop is one more record. Assumes nothing.
use Rattle.std.specs.Prelude.{ℕ, ◌+◌, ◌≡◌, List, length, Float}
use Rattle.std.proofs.Common.{arith, sym, ap, ap₂, ◌∙◌, length-append}
use Rattle.memory_layout.specs.TableRows.{row, row_inside}
use Rattle.memory_writes.specs.Put.{over}
use Rattle.memory_writes.specs.Over.{over_none}
use Rattle.image_format.specs.Fields.{record_image}
use Rattle.image_records.specs.Kept.{fields_of}
use Rattle.image_records.specs.Laws.{over-turn}
use Rattle.image_writer.specs.Rows.{row_words, row_reals, rows_image}
use Rattle.image_writer.specs.Laws.{rows_none, rows-turn, rows-within}
use Rattle.image_writer.proofs.write_rows.Goals as goal

pub loop-i-init : goal.loop-i-init
loop-i-init c =
    let s = c in
    let e = rows_none s.args.k s.args.w.now s.args.x.now in
    (rw e (omega arith), sym (ap (λ (a : List ℕ). over s.args.at a s.args.bytes.now) e ∙ over_none s.args.at s.args.bytes.now))

pub words_row-requires : goal.words_row-requires
words_row-requires c =
    let s = c in
    let e = c.word_stride-words.ensures in
    row_inside _ _ s.args.n _ (omega arith) (rw e s.requires.rows.rows.words)

pub reals_row-requires : goal.reals_row-requires
reals_row-requires c =
    let s = c in
    let e = c.real_stride-reals.ensures in
    row_inside _ _ s.args.n _ (omega arith) (rw e s.requires.rows.rows.reals)

pub write_record-to-requires : goal.write_record-to-requires
write_record-to-requires c =
    let s = c in
    let k = s.args.k in
    let w = s.args.w.now in
    let x = s.args.x.now in
    let at = s.args.at in
    let i = c.loop-i.i in
    let e : c.words_row.result.now ≡ row_words k w i = c.words_row.ensures ∙ ap (λ (n : ℕ). row w n i) c.word_stride-words.ensures in
    let f : c.reals_row.result.now ≡ row_reals k x i = c.reals_row.ensures ∙ ap (λ (n : ℕ). row x n i) c.real_stride-reals.ensures in
    let m = ap₂ (λ (v : List ℕ) (y : List Float). record_image k (fields_of k v y)) e f in
    let l = ap length m in
    let v = rows-within k w x i s.args.n (omega arith) in
    let z = c.loop-i.invariant in
    record { kept = rw (e, f) (s.requires.rows.kept i (omega arith)); x_in_bounds = omega (arith, s.requires.n_in_bounds) }

pub loop-i-preserved : goal.loop-i-preserved
loop-i-preserved c =
    let s = c in
    let k = s.args.k in
    let w = s.args.w.now in
    let x = s.args.x.now in
    let at = s.args.at in
    let i = c.loop-i.i in
    let e : c.words_row.result.now ≡ row_words k w i = c.words_row.ensures ∙ ap (λ (n : ℕ). row w n i) c.word_stride-words.ensures in
    let f : c.reals_row.result.now ≡ row_reals k x i = c.reals_row.ensures ∙ ap (λ (n : ℕ). row x n i) c.real_stride-reals.ensures in
    let m = ap₂ (λ (v : List ℕ) (y : List Float). record_image k (fields_of k v y)) e f in
    let l = ap length m in
    let v = rows-within k w x i s.args.n (omega arith) in
    let z = c.loop-i.invariant in
    let r = s.requires.n_in_bounds in
    let a : List ℕ = rows_image k w x i in
    let b : List ℕ = record_image k (fields_of k (row_words k w i) (row_reals k x i)) in
    let t = rows-turn k w x i in
    let g = ap length t in
    let h = length-append a b in
    let q = c.write_record-to.ensures.end in
    let u : c.write_record-to.new.bytes ≡ over at (rows_image k w x (i + 1)) s.args.bytes.now =
    c.write_record-to.ensures.written
    ∙ ap (λ (y : List ℕ). over c.loop-i.to y c.loop-i.bytes) m
    ∙ over-turn at c.loop-i.to a b c.loop-i.bytes s.args.bytes.now z.0 z.1 (omega arith)
    ∙ ap (λ (y : List ℕ). over at y s.args.bytes.now) (sym t) in
    (omega arith, u)

pub returns : goal.returns
returns c =
    let s = c in
    let e : c.loop-i.i ≡ s.args.n = omega arith in
    let z = c.loop-i.invariant in record { end = z.0 ∙ ap (λ (i : ℕ). s.args.at + length (rows_image s.args.k s.args.w.now s.args.x.now i)) e; written = z.1 ∙ ap (λ (i : ℕ). over s.args.at (rows_image s.args.k s.args.w.now s.args.x.now i) s.args.bytes.now) e }
