-- `inquire_polyhedral::rims::fin_refusal` meets its contract. Assumes nothing.
use native.Mathlib.Omega.{arith}
use mathlib.Core.Path.{◌≡◌, ap, ◌∙◌}
use mathlib.Core.Bool.{true, false}
use lib.Dec.{ltb}
use borrow.Author.Tests.{lt-ltb, le-ltb}
use Rattle.memory_layout.specs.Layout.{word}
use lib.ListN.{length}
use Rattle.memory_layout.specs.Laws.{used-inside}
use Rattle.memory_records.specs.Laws.{words-whole, counts-there}
use Rattle.meaning.specs.Inquire.{straight_edge}
use Rattle.memory_layout.specs.Decode.{decode}
use Rattle.inquire_polyhedral.specs.Tested.{fin_straight}
use borrow.Author.Rules.{rules}
use Rattle.inquire_polyhedral.proofs.rims.fin_refusal.Goals as goal

pub bounds-words-5 : goal.bounds-words-5
bounds-words-5 c = let s = c in let n = counts-there s.args.room.now s.args.words.now s.args.reals.now s.requires.sized in omega arith

pub returns-then-words-i : goal.returns-then-words-i
unfolding fin_straight
returns-then-words-i c =
    let s = c in
    let e : ltb s.args.i (word s.args.words.now 5) ≡ false = le-ltb _ _ c.if-words-i.true in
    rw e

pub words_of-w-requires : goal.words_of-w-requires
words_of-w-requires c =
    let s = c in
    record { small = s.requires.sized.small; inside = (used-inside s.args.room.now s.args.words.now s.args.reals.now 5 s.args.i s.requires.sized (search rules) c.if-words-i.false).0 }

pub bounds-w-1 : goal.bounds-w-1
bounds-w-1 c =
    let s = c in
    let n : length c.words_of-w.result.now ≡ 4 = words-whole s.args.room.now s.args.words.now c.words_of-w.result.now 5 s.args.i c.words_of-w.ensures (used-inside s.args.room.now s.args.words.now s.args.reals.now 5 s.args.i s.requires.sized (search rules) c.if-words-i.false).0 in
    omega arith

pub returns : goal.returns
unfolding fin_straight
returns c =
    let s = c in
    let e : ltb s.args.i (word s.args.words.now 5) ≡ true = lt-ltb _ _ c.if-words-i.false in
    rw e (c.straight_edge.ensures ∙ ap (λ l. straight_edge (decode s.args.room.now s.args.words.now s.args.reals.now) (word l 1)) c.words_of-w.ensures)
