-- `image_writer::rows_length` meets its contract: a turn of the loop is one more record. Assumes nothing.
use Rattle.std.specs.Prelude.{ℕ, ◌+◌, ◌≡◌}
use Rattle.std.proofs.Common.{arith, sym, ap, ◌∙◌, subst}
use Rattle.memory_layout.specs.TableRows.{row, row_inside}
use Rattle.image_records.specs.Kept.{record_length, Listed}
use Rattle.image_writer.specs.Rows.{row_words, rows_length}
use Rattle.image_writer.specs.Laws.{rows-small, rows-length-none, rows-length-turn}
use Rattle.image_writer.proofs.rows_length.Goals as goal

pub loop-i-init : goal.loop-i-init
loop-i-init c = sym (rows-length-none c.args.k c.args.w.now)

pub words_row-requires : goal.words_row-requires
words_row-requires c =
    let s = c in
    let e = c.word_stride-words.ensures in
    row_inside _ _ s.args.n _ (omega arith) (rw e s.requires.words)

pub record_length-long-requires : goal.record_length-long-requires
record_length-long-requires c =
    let s = c in
    let k = s.args.k in
    let w = s.args.w.now in
    let i = c.loop-i.i in
    let e = c.word_stride-words.ensures in
    let r : c.words_row.result.now ≡ row_words k w i = c.words_row.ensures ∙ ap (λ (n : ℕ). row w n i) e in
    subst (Listed k) (sym r) (s.requires.listed i (omega arith))

pub overflow_add-long : goal.overflow_add-long
overflow_add-long c =
    let s = c in
    let k = s.args.k in
    let w = s.args.w.now in
    let i = c.loop-i.i in
    let e = c.word_stride-words.ensures in
    let r : c.words_row.result.now ≡ row_words k w i = c.words_row.ensures ∙ ap (λ (n : ℕ). row w n i) e in
    let t = rows-length-turn k w i _ _ c.loop-i.invariant (c.record_length-long.ensures ∙ ap (record_length k) r) in
    let m = rows-small k w s.args.n (i + 1) s.requires (omega arith) in
    omega (arith, s.requires.few)

pub loop-i-preserved : goal.loop-i-preserved
loop-i-preserved c =
    let s = c in
    let k = s.args.k in
    let w = s.args.w.now in
    let i = c.loop-i.i in
    let e = c.word_stride-words.ensures in
    let r : c.words_row.result.now ≡ row_words k w i = c.words_row.ensures ∙ ap (λ (n : ℕ). row w n i) e in
    rows-length-turn k w i _ _ c.loop-i.invariant (c.record_length-long.ensures ∙ ap (record_length k) r)

pub returns : goal.returns
returns c =
    let s = c in
    let e : c.loop-i.i ≡ s.args.n = omega arith in
    c.loop-i.invariant ∙ ap (rows_length s.args.k s.args.w.now) e
