-- `image_loading::load_tables` meets its contract: a turn of the loop is one table more. Assumes nothing.
use Rattle.std.specs.Prelude.{◌≡◌}
use Rattle.std.proofs.Common.{arith, refl, ap, ◌∙◌}
use Rattle.image_loading.specs.Steps.{tables_laid, table_floats_laid}
use Rattle.image_loading.specs.Laws.{first-table, next-table, still-loadable}
use Rattle.image_loading.proofs.load_tables.Goals as goal

pub loop-k-init : goal.loop-k-init
unfolding tables_laid table_floats_laid
loop-k-init c =
    let s = c in
    record { place = first-table s.args.bytes.now s.requires.head; words = refl; floats = refl; words_long = refl; floats-long = refl }

pub load_table-at-requires : goal.load_table-at-requires
load_table-at-requires c =
    let s = c in
    let loop = c.loop-k in
    let so_far = loop.invariant in record { loadable = still-loadable s.args.room.now s.args.words.now loop.words s.args.reals.now loop.reals s.args.bytes.now s.requires so_far.words_long so_far.floats-long; k_bound = c.loop-k-test.true; stands = so_far.place }

pub loop-k-preserved : goal.loop-k-preserved
loop-k-preserved c =
    let s = c in
    let loop = c.loop-k in
    let table = c.load_table-at in
    next-table s.args.room.now s.args.bytes.now loop.k loop.at loop.words s.args.words.now loop.reals s.args.reals.now loop.invariant
    table.result table.ensures.stands_2 table.new.words table.ensures.words_after table.auto.words table.new.reals table.ensures.reals_after table.auto.reals

pub returns : goal.returns
returns c =
    let s = c in
    let so_far = c.loop-k.invariant in
    let all : c.loop-k.k ≡ 10 = omega arith in record { words_after = so_far.words ∙ ap (λ n. tables_laid s.args.room.now s.args.bytes.now n s.args.words.now) all; reals_after = so_far.floats ∙ ap (λ n. table_floats_laid s.args.room.now s.args.bytes.now n s.args.reals.now) all }
