-- `split_bounds::ends::ends_refusal` meets its contract. Assumes nothing.
use native.Mathlib.Omega.{arith}
use mathlib.Core.Path.{◌≡◌, ap, ◌∙◌}
use mathlib.Core.Bool.{true, false}
use borrow.Author.Rules.{rules}
use lib.Dec.{ltb}
use lib.ListN.{length}
use borrow.Author.Tests.{lt-ltb, le-ltb}
use Rattle.memory_layout.specs.Layout.{word}
use Rattle.memory_layout.specs.Decode.{decode}
use Rattle.memory_layout.specs.Laws.{used-inside}
use Rattle.memory_layout.proofs.Laws.{words-length}
use Rattle.memory_records.specs.Laws.{counts-there}
use Rattle.split_bounds.specs.EndsLaws.{ends-tests}
use Rattle.split_bounds.proofs.ends.ends_refusal.Goals as goal

pub bounds-words-6 : goal.bounds-words-6
bounds-words-6 c = let s = c in let n = counts-there s.args.room.now s.args.words.now s.args.reals.now s.requires.sized in omega arith

pub returns-then-words-edge : goal.returns-then-words-edge
unfolding decode
returns-then-words-edge c =
    let s = c in
    let e : ltb s.args.edge (word s.args.words.now 6) ≡ false = le-ltb _ _ c.if-words-edge.true in
    rw (← ends-tests s.args.room.now s.args.words.now s.args.reals.now s.args.edge, e)

pub words_of-requires : goal.words_of-requires
words_of-requires c =
    let s = c in
    record { small = s.requires.sized.small; inside = (used-inside s.args.room.now s.args.words.now s.args.reals.now 6 s.args.edge s.requires.sized (search rules) c.if-words-edge.false).0 }

pub carrier_refusal-requires : goal.carrier_refusal-requires
carrier_refusal-requires c =
    let s = c in
    record { sized = s.requires.sized; w_len = ap length c.words_of.ensures ∙ words-length s.args.room.now s.args.words.now 6 s.args.edge (used-inside s.args.room.now s.args.words.now s.args.reals.now 6 s.args.edge s.requires.sized (search rules) c.if-words-edge.false).0 }

pub returns : goal.returns
unfolding decode
returns c =
    let s = c in
    let e : ltb s.args.edge (word s.args.words.now 6) ≡ true = lt-ltb _ _ c.if-words-edge.false in
    rw (← ends-tests s.args.room.now s.args.words.now s.args.reals.now s.args.edge, e, ← c.words_of.ensures) c.carrier_refusal.ensures
