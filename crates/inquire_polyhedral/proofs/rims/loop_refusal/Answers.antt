-- `inquire_polyhedral::rims::loop_refusal` meets its contract. Assumes nothing.
use native.Mathlib.Omega.{arith}
use mathlib.Core.Path.{◌≡◌, ap, ◌∙◌}
use mathlib.Core.Bool.{true, false}
use lib.Dec.{ltb}
use borrow.Author.Tests.{lt-ltb, le-ltb}
use Rattle.memory_layout.specs.Layout.{word}
use Rattle.memory_layout.specs.Laws.{lists_of}
use Rattle.memory_records.specs.Laws.{counts-there}
use Rattle.meaning.specs.Refuse.{first_of}
use Rattle.inquire_polyhedral.specs.Tested.{fin_straight, loop_straight}
use Rattle.inquire_polyhedral.proofs.rims.loop_refusal.Goals as goal

pub bounds-words-4 : goal.bounds-words-4
bounds-words-4 c = let s = c in let n = counts-there s.args.room.now s.args.words.now s.args.reals.now s.requires.sized in omega arith

pub returns-then-words-i : goal.returns-then-words-i
unfolding loop_straight
returns-then-words-i c =
    let s = c in
    let e : ltb s.args.i (word s.args.words.now 4) ≡ false = le-ltb _ _ c.if-words-i.true in
    rw e

pub list-requires : goal.list-requires
list-requires c =
    let s = c in
    record { lists = lists_of s.args.room.now s.args.words.now s.args.reals.now s.requires; j_bound = (omega arith, c.if-words-i.false) }

pub returns : goal.returns
unfolding loop_straight
returns c =
    let s = c in
    let e : ltb s.args.i (word s.args.words.now 4) ≡ true = lt-ltb _ _ c.if-words-i.false in
    rw e (c.fins_refusal.ensures ∙ ap (first_of (fin_straight s.args.room.now s.args.words.now s.args.reals.now)) c.list.ensures)
