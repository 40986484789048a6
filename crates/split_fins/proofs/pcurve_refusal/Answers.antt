-- `split_fins::pcurve_refusal` meets its contract. Assumes nothing.
use native.Mathlib.Omega.{arith}
use mathlib.Core.Path.{◌≡◌, ◌∙◌}
use mathlib.Core.Bool.{true, false}
use borrow.Author.Rules.{rules}
use lib.Dec.{eqb, ltb}
use lib.ListN.{length}
use borrow.Author.Tests.{lt-ltb, le-ltb}
use Rattle.memory_layout.specs.Layout.{word}
use Rattle.memory_records.specs.Laws.{words-whole}
use Rattle.split_fins.specs.Fins.{pcurve_test}
use Rattle.split_fins.specs.Laws.{counts-listed, unless-is}
use Rattle.memory_layout.specs.Laws.{words_inside}
use Rattle.split_fins.proofs.pcurve_refusal.Goals as goal

pub bounds-words-5 : goal.bounds-words-5
bounds-words-5 c = let s = c in let n = counts-listed s.args.room.now s.args.words.now s.requires in omega arith

pub overflow_cast-words : goal.overflow_cast-words
overflow_cast-words c = omega (arith, c.type_inv.words 5)

pub returns-then-words-fin : goal.returns-then-words-fin
unfolding pcurve_test
returns-then-words-fin c =
    let s = c in
    let e : ltb s.args.fin (word s.args.words.now 5) ≡ false = le-ltb _ _ c.if-words-fin.true in
    rw e

pub words_of-w-requires : goal.words_of-w-requires
words_of-w-requires c =
    let s = c in
    record { small = s.requires.small; inside = words_inside s.args.room.now s.args.words.now 5 s.args.fin s.requires (search rules) c.if-words-fin.false }

pub bounds-w-3 : goal.bounds-w-3
bounds-w-3 c =
    let s = c in
    let n : length c.words_of-w.result.now ≡ 4 = words-whole s.args.room.now s.args.words.now c.words_of-w.result.now 5 s.args.fin c.words_of-w.ensures (words_inside s.args.room.now s.args.words.now 5 s.args.fin s.requires (search rules) c.if-words-fin.false) in
    omega arith

pub returns : goal.returns
unfolding pcurve_test
returns c =
    let s = c in
    let e : ltb s.args.fin (word s.args.words.now 5) ≡ true = lt-ltb _ _ c.if-words-fin.false in
    rw (e, ← c.words_of-w.ensures) (c.unless.ensures ∙ unless-is 7 (eqb (word c.words_of-w.result.now 3) 0))
