-- `check_open_loop::readable_fin` meets its contract: by whether the fin is there. Assumes nothing.
use native.Mathlib.Omega.{arith}
use native.Mathlib.Nat.{le_trans}
use borrow.Author.Tests.{le-ltb, lt-ltb}
use Rattle.memory_layout.specs.Layout.{word_strides}
use Rattle.memory_layout.specs.Decode.{decode}
use Rattle.memory_layout.specs.Laws.{before-tables}
use Rattle.check_open_loop.specs.Laws.{fin-lacks, fin-has}
use Rattle.check_open_loop.proofs.readable_fin.Goals as goal

pub bounds-words-5 : goal.bounds-words-5
bounds-words-5 c = omega (arith, (le_trans (before-tables 11 word_strides c.args.room.now 10) c.requires.words))

pub returns-then-words-i : goal.returns-then-words-i
unfolding decode
returns-then-words-i c = λ x. fin-lacks (decode c.args.room.now c.args.words.now x) c.args.i (le-ltb _ _ c.if-words-i.true)

pub fin_at-requires : goal.fin_at-requires
fin_at-requires c = record { lists = c.requires; i_bound = c.if-words-i.false }

pub bounds-words-6 : goal.bounds-words-6
bounds-words-6 c = omega (arith, (le_trans (before-tables 11 word_strides c.args.room.now 10) c.requires.words))

pub returns : goal.returns
unfolding decode
returns c = λ x. fin-has (decode c.args.room.now c.args.words.now x) c.args.i _ (lt-ltb _ _ c.if-words-i.false) (c.fin_at.ensures x)
