-- `mend_tests::raise` meets its contract. Assumes nothing.
use Rattle.std.proofs.Common.{◌≡◌, arith, ap₂, ◌∙◌}
use Rattle.memory_layout.specs.Layout.{word}
use Rattle.memory_layout.specs.Laws.{version-there}
use Rattle.split_foreign.specs.Status.{greater, standing}
use Rattle.split_foreign.specs.Laws.{rows_none, rows_more}
use Rattle.mend_tests.specs.Status.{again, status}
use Rattle.mend_tests.proofs.raise.Goals as goal

pub bounds-words-k : goal.bounds-words-k
bounds-words-k c = let s = c in let n = version-there s.args.room.now s.args.words.now s.requires.lists.words in omega arith

pub loop-i-init : goal.loop-i-init
loop-i-init c = rows_none _ _ _ c.requires.fresh

pub follows-requires : goal.follows-requires
follows-requires c = let s = c in record { lists = s.requires.lists; k_bound = (s.requires.k_bound, omega arith) }

pub bounds-own-i : goal.bounds-own-i
bounds-own-i c = let h = c.requires.fresh.enough in omega arith

pub loop-i-preserved : goal.loop-i-preserved
unfolding status
loop-i-preserved c =
    let s = c in
    let h = s.requires.fresh.enough in
    let l = c.loop-i in
    rows_more l.i (status s.args.room.now s.args.words.now s.args.k (again s.args.counts.now) (standing s.args.below.now)) l.own c.greater.result (omega arith)
    (c.greater.ensures ∙ ap₂ greater c.again.ensures c.follows.ensures) l.invariant

pub returns : goal.returns
returns c =
    let s = c in
    let done : c.loop-i.i ≡ word s.args.words.now s.args.k = omega arith in
    rw (← done) c.loop-i.invariant
