-- `inquire_polyhedral::carriers::flat_face` meets its contract. Assumes nothing.
use native.Mathlib.Omega.{arith}
use mathlib.Core.Path.{◌≡◌}
use mathlib.Core.Bool.{true, false}
use lib.Dec.{ltb}
use lib.ListN.{length}
use borrow.Author.Tests.{lt-ltb, le-ltb}
use Rattle.memory_layout.specs.Layout.{word}
use Rattle.memory_layout.specs.Laws.{used-inside}
use Rattle.memory_records.specs.Laws.{words-whole, counts-there}
use Rattle.inquire_polyhedral.specs.Laws.{face-words}
use borrow.Author.Rules.{rules}
use Rattle.inquire_polyhedral.proofs.carriers.flat_face.Goals as goal

pub bounds-words-3 : goal.bounds-words-3
bounds-words-3 c = let s = c in let n = counts-there s.args.room.now s.args.words.now s.args.reals.now s.requires.sized in omega arith

pub returns-then-words-i : goal.returns-then-words-i
returns-then-words-i c =
    let s = c in
    let e : ltb s.args.i (word s.args.words.now 3) ≡ false = le-ltb _ _ c.if-words-i.true in
    rw (← face-words s.args.room.now s.args.words.now s.args.reals.now s.args.i, e)

pub words_of-w-requires : goal.words_of-w-requires
words_of-w-requires c =
    let s = c in
    record { small = s.requires.sized.small; inside = (used-inside s.args.room.now s.args.words.now s.args.reals.now 3 s.args.i s.requires.sized (search rules) c.if-words-i.false).0 }

pub bounds-w-5 : goal.bounds-w-5
bounds-w-5 c =
    let s = c in
    let n : length c.words_of-w.result.now ≡ 24 = words-whole s.args.room.now s.args.words.now c.words_of-w.result.now 3 s.args.i c.words_of-w.ensures (used-inside s.args.room.now s.args.words.now s.args.reals.now 3 s.args.i s.requires.sized (search rules) c.if-words-i.false).0 in
    omega arith

pub bounds-w-4 : goal.bounds-w-4
bounds-w-4 c =
    let s = c in
    let n : length c.words_of-w.result.now ≡ 24 = words-whole s.args.room.now s.args.words.now c.words_of-w.result.now 3 s.args.i c.words_of-w.ensures (used-inside s.args.room.now s.args.words.now s.args.reals.now 3 s.args.i s.requires.sized (search rules) c.if-words-i.false).0 in
    omega arith

pub returns : goal.returns
returns c =
    let s = c in
    let e : ltb s.args.i (word s.args.words.now 3) ≡ true = lt-ltb _ _ c.if-words-i.false in
    rw (← face-words s.args.room.now s.args.words.now s.args.reals.now s.args.i, e, ← c.words_of-w.ensures, c.then.ensures, c.unless.ensures, c.plane_refusal-plane.ensures, c.surface_found.ensures)
