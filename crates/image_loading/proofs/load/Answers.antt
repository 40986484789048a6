-- `image_loading::load` meets its contract: the counts and the precision at the front, then the tables. Assumes nothing.
use Prim.Native.Nat.{ℕ}
use native.Mathlib.Omega.{arith}
use mathlib.Core.Path.{◌≡◌, sym, ap, ◌∙◌}
use mathlib.Core.List.{List, ◌++◌}
use lib.ListN.{length, take, drop}
use lib.Seq.{length-take-le}
use lib.Ieee.{Float}
use Rattle.memory_layout.specs.Layout.{word_strides, real_strides}
use Rattle.memory_layout.specs.Laws.{before-tables}
use Rattle.memory_writes.specs.Put.{over}
use Rattle.memory_writes.specs.Over.{taken_back}
use Rattle.image_format.specs.Bytes.{words_in, floats_in}
use Rattle.image_format.specs.Fields.{fields_in}
use Rattle.image_loading.specs.Steps.{tables_laid, table_floats_laid}
use Rattle.image_loading.specs.Laws.{front_long, still-loadable, words-laid, reals-laid}
use Rattle.image_loading.proofs.load.Goals as goal

pub slice_bounds-get_words-end : goal.slice_bounds-get_words-end
slice_bounds-get_words-end c =
    let s = c in
    let needed = before-tables 11 word_strides s.args.room.now 10 in
    omega (arith, s.requires.lent.words)

pub slice_bounds-get_words-end-2 : goal.slice_bounds-get_words-end-2
slice_bounds-get_words-end-2 c =
    let s = c in
    let needed = before-tables 11 word_strides s.args.room.now 10 in
    sym (length-take-le 10 s.args.words.now (omega (arith, s.requires.lent.words)))

pub get_words-requires : goal.get_words-requires
get_words-requires c =
    let s = c in
    let needed = before-tables 11 word_strides s.args.room.now 10 in
    let long = length-take-le 10 s.args.words.now (omega (arith, s.requires.lent.words)) in
    omega (arith, s.requires.head)

pub slice_bounds-get_floats-end : goal.slice_bounds-get_floats-end
slice_bounds-get_floats-end c =
    let s = c in
    let needed = before-tables 1 real_strides s.args.room.now 10 in
    omega (arith, s.requires.lent.reals)

pub slice_bounds-get_floats-end-2 : goal.slice_bounds-get_floats-end-2
slice_bounds-get_floats-end-2 c =
    let s = c in
    let needed = before-tables 1 real_strides s.args.room.now 10 in
    sym (length-take-le 1 s.args.reals.now (omega (arith, s.requires.lent.reals)))

pub get_floats-requires : goal.get_floats-requires
get_floats-requires c =
    let s = c in
    let needed = before-tables 1 real_strides s.args.room.now 10 in
    let long = length-take-le 1 s.args.reals.now (omega (arith, s.requires.lent.reals)) in
    omega (arith, s.requires.head)

pub load_tables-requires : goal.load_tables-requires
load_tables-requires c =
    let s = c in
    let room = s.args.room.now in
    let w = s.args.words.now in
    let x = s.args.reals.now in
    let b = s.args.bytes.now in
    let ten = before-tables 11 word_strides room 10 in
    let one = before-tables 1 real_strides room 10 in
    let ten-long : length (take 10 w) ≡ 10 = length-take-le 10 w (omega (arith, s.requires.lent.words)) in
    let one-long : length (take 1 x) ≡ 1 = length-take-le 1 x (omega (arith, s.requires.lent.reals)) in
    let words = c.get_words in
    let floats = c.get_floats in
    let v = words.new.w in
    let y = floats.new.x in
    still-loadable room w (v ++ drop 10 w) x (y ++ drop 1 x) b s.requires
    (front_long 10 v w (words.auto.w ∙ ten-long) (omega (arith, s.requires.lent.words)))
    (front_long 1 y x (floats.auto.x ∙ one-long) (omega (arith, s.requires.lent.reals)))

pub returns : goal.returns
unfolding fields_in
returns c =
    let s = c in
    let room = s.args.room.now in
    let w = s.args.words.now in
    let x = s.args.reals.now in
    let b = s.args.bytes.now in
    let ten = before-tables 11 word_strides room 10 in
    let one = before-tables 1 real_strides room 10 in
    let ten-long : length (take 10 w) ≡ 10 = length-take-le 10 w (omega (arith, s.requires.lent.words)) in
    let one-long : length (take 1 x) ≡ 1 = length-take-le 1 x (omega (arith, s.requires.lent.reals)) in
    let words = c.get_words in
    let floats = c.get_floats in
    let v = words.new.w in
    let y = floats.new.x in
    let counts = taken_back 0 10 v w (words.auto.w ∙ ten-long) ∙ ap (λ (a : List ℕ). over 0 a w) (words.ensures ∙ ap (λ (n : ℕ). words_in n (drop 2 b)) ten-long) in
    let precision = taken_back 0 1 y x (floats.auto.x ∙ one-long) ∙ ap (λ (a : List Float). over 0 a x) (floats.ensures ∙ ap (λ (n : ℕ). floats_in n (drop 42 b)) one-long) in
    let tables = c.load_tables.ensures in record { words_after = tables.words_after ∙ ap (tables_laid room b 10) counts ∙ words-laid room b 10 w; reals_after = tables.reals_after ∙ ap (table_floats_laid room b 10) precision ∙ reals-laid room b 10 x }
