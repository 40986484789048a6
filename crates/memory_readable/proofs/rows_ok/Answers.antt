-- `memory_readable::rows_ok` meets its contract: a turn of the loop is one more record. Assumes nothing.
use Rattle.std.specs.Prelude.{◌≡◌, length}
use Rattle.std.proofs.Common.{ap, ◌∙◌, arith}
use Rattle.meaning_list_laws.specs.Tests.{all_below-none, all_below-turn}
use Rattle.memory_layout.specs.Readable.{record_ok}
use Rattle.memory_layout.specs.TableRows.{row, rows_ok, row_inside, row-length}
use Rattle.memory_readable.proofs.rows_ok.Goals as goal

pub loop-i-init : goal.loop-i-init
loop-i-init c = rw all_below-none

pub words_row-requires : goal.words_row-requires
words_row-requires c =
    let s = c in
    let e = c.word_stride-words.ensures in
    row_inside _ _ s.args.n _ (omega arith) (rw e s.requires.words)

pub reals_row-requires : goal.reals_row-requires
reals_row-requires c =
    let s = c in
    let e = c.real_stride-reals.ensures in
    row_inside _ _ s.args.n _ (omega arith) (rw e s.requires.reals)

pub record_ok-ok-requires : goal.record_ok-ok-requires
record_ok-ok-requires c =
    let s = c in
    let e = c.word_stride-words.ensures in
    let f = c.real_stride-reals.ensures in
    record {
      table = s.requires.table;
      words = ap length c.words_row.ensures ∙ (row-length _ _ _ (row_inside _ _ s.args.n _ (omega arith) (rw e s.requires.words)) ∙ e);
      reals = ap length c.reals_row.ensures ∙ (row-length _ _ _ (row_inside _ _ s.args.n _ (omega arith) (rw f s.requires.reals)) ∙ f);
    }

pub loop-i-preserved : goal.loop-i-preserved
loop-i-preserved c =
    let s = c in
    let i = c.loop-i.i in
    let e : c.record_ok-ok.result ≡ record_ok s.args.k (row s.args.w.now c.word_stride-words.result i) (row s.args.x.now c.real_stride-reals.result i) = rw (← c.words_row.ensures, ← c.reals_row.ensures) c.record_ok-ok.ensures in
    all_below-turn _ _ _ _ c.loop-i.invariant e

pub returns : goal.returns
unfolding rows_ok
returns c =
    let s = c in
    let done : c.loop-i.i ≡ s.args.n = omega arith in
    rw (← c.word_stride-words.ensures, ← c.real_stride-reals.ensures, ← done) c.loop-i.invariant
