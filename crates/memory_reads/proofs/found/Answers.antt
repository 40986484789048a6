-- `memory_reads::found` meets its contract. Assumes nothing.
use mathlib.Core.Path.{◌≡◌}
use mathlib.Core.Bool.{true, false}
use native.Mathlib.Omega.{arith}
use borrow.Author.Tests.{lt-ltb, le-ltb}
use lib.Dec.{ltb}
use Rattle.meaning.specs.Model.{carrier_at}
use Rattle.memory_layout.specs.Layout.{word}
use Rattle.memory_records.specs.Laws.{counts-there}
use borrow.Author.Rules.{rules}
use Rattle.memory_reads.proofs.found.Goals as goal

pub bounds-words-k : goal.bounds-words-k
bounds-words-k c =
    let s = c in
    let n = counts-there s.args.room.now s.args.words.now s.args.reals.now s.requires.sized in
    omega arith

pub overflow_cast-words : goal.overflow_cast-words
overflow_cast-words c = omega (arith, c.type_inv.words c.args.k)

pub returns-then-words-k : goal.returns-then-words-k
unfolding carrier_at
returns-then-words-k c =
    let s = c in
    let f : ltb s.args.id (word s.args.words.now s.args.k) ≡ false = le-ltb _ _ c.if-words-k.true in
    rw f

pub returns : goal.returns
unfolding carrier_at
returns c =
    let s = c in
    let f : ltb s.args.id (word s.args.words.now s.args.k) ≡ true = lt-ltb _ _ c.if-words-k.false in
    rw (f, c.carrier_at.ensures)
