-- `check_manifold::same_senses` meets its contract: by whether both fins are there. Assumes nothing.
use native.Mathlib.Omega.{arith}
use native.Mathlib.Nat.{le_trans}
use borrow.Author.Tests.{le-ltb, lt-ltb}
use Rattle.memory_layout.specs.Layout.{word_strides}
use Rattle.memory_layout.specs.Decode.{decode}
use Rattle.memory_layout.specs.Laws.{before-tables}
use Rattle.check_manifold.specs.Laws.{alike-first-not, alike-second-not, alike-told}
use Rattle.check_manifold.proofs.same_senses.Goals as goal

pub bounds-words-5 : goal.bounds-words-5
bounds-words-5 c = omega (arith, (le_trans (before-tables 11 word_strides c.args.room.now 10) c.requires.words))

pub returns-then-words-i : goal.returns-then-words-i
unfolding decode
returns-then-words-i c = λ x. alike-first-not (decode c.args.room.now c.args.words.now x) c.args.i c.args.j (le-ltb _ _ c.if-words-i.true)

pub bounds-words-5-2 : goal.bounds-words-5-2
bounds-words-5-2 c = omega (arith, (le_trans (before-tables 11 word_strides c.args.room.now 10) c.requires.words))

pub returns-then-words-j : goal.returns-then-words-j
unfolding decode
returns-then-words-j c = λ x. alike-second-not (decode c.args.room.now c.args.words.now x) c.args.i c.args.j (lt-ltb _ _ c.if-words-i.false) (le-ltb _ _ c.if-words-j.true)

pub fin_at-one-requires : goal.fin_at-one-requires
fin_at-one-requires c = record { lists = c.requires; i_bound = c.if-words-i.false }

pub fin_at-two-requires : goal.fin_at-two-requires
fin_at-two-requires c = record { lists = c.requires; i_bound = c.if-words-j.false }

pub returns : goal.returns
unfolding decode
returns c = λ x. alike-told (decode c.args.room.now c.args.words.now x) c.args.i c.args.j _ _ _ (lt-ltb _ _ c.if-words-i.false) (lt-ltb _ _ c.if-words-j.false) (c.fin_at-one.ensures x) (c.fin_at-two.ensures x) c.same_sense.ensures
