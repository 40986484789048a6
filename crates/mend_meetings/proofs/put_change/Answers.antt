-- `mend_meetings::put_change` meets its contract: six words, where the list has them. Assumes nothing.
use native.Mathlib.Omega.{arith}
use native.Mathlib.Nat.{div-add-mod'}
use mathlib.Core.Path.{refl, sym, ◌∙◌}
use lib.ListN.{length}
use borrow.Author.Tests.{le-ltb, lt-ltb}
use Rattle.mend_meetings.specs.Machine.{entry_put}
use Rattle.mend_meetings.specs.Laws.{sets-six}
use borrow.Author.Rules.{rules}
use Rattle.mend_meetings.proofs.put_change.Goals as goal

pub returns-then-nums-k : goal.returns-then-nums-k
unfolding entry_put
returns-then-nums-k c = sym (rw (le-ltb _ _ c.if-nums-k.true))

pub overflow_mul-at : goal.overflow_mul-at
overflow_mul-at c = omega (arith, c.if-nums-k.false, div-add-mod' (length c.args.nums.now) 6)

pub overflow_add-at : goal.overflow_add-at
overflow_add-at c = omega (arith, c.if-nums-k.false, div-add-mod' (length c.args.nums.now) 6)

pub overflow_add-at-2 : goal.overflow_add-at-2
overflow_add-at-2 c = omega (arith, c.if-nums-k.false, div-add-mod' (length c.args.nums.now) 6)

pub overflow_add-at-3 : goal.overflow_add-at-3
overflow_add-at-3 c = omega (arith, c.if-nums-k.false, div-add-mod' (length c.args.nums.now) 6)

pub overflow_add-at-4 : goal.overflow_add-at-4
overflow_add-at-4 c = omega (arith, c.if-nums-k.false, div-add-mod' (length c.args.nums.now) 6)

pub overflow_add-at-5 : goal.overflow_add-at-5
overflow_add-at-5 c = omega (arith, c.if-nums-k.false, div-add-mod' (length c.args.nums.now) 6)

pub returns : goal.returns
unfolding entry_put
returns c =
    let s = c in
    sets-six s.args.nums.now _ _ _ _ _ _ _ s.args.k _ _ _ _ _ _ refl c.put.ensures c.put-2.ensures c.put-3.ensures c.put-4.ensures c.put-5.ensures c.put-6.ensures
    ∙ sym (rw (lt-ltb _ _ c.if-nums-k.false))
