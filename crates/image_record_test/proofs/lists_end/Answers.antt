-- `image_record_test::lists_end` meets its contract. Assumes nothing.
use mathlib.Core.Path.{refl}
use native.Mathlib.Omega.{arith}
use Rattle.image_record_test.specs.Parts.{lists_end}
use Rattle.image_record_test.specs.Facts.{no-lists}
use borrow.Author.Rules.{rules}
use Rattle.image_record_test.proofs.lists_end.Goals as goal

pub returns-in-0 : goal.returns-in-0
unfolding lists_end
returns-in-0 c = rw c.in-0.is c.list_end.ensures.value

pub returns-in-1 : goal.returns-in-1
unfolding lists_end
returns-in-1 c = rw c.in-1.is c.list_end-in-1.ensures.value

pub returns-in-2 : goal.returns-in-2
unfolding lists_end
returns-in-2 c = rw (c.in-2.is, ← c.list_end-in-2.ensures.value, ← c.list_end-in-2-2.ensures.value) c.list_end-in-2-3.ensures.value

pub returns-in-3 : goal.returns-in-3
unfolding lists_end
returns-in-3 c = rw c.in-3.is c.list_end-in-3.ensures.value

pub returns-in-4 : goal.returns-in-4
unfolding lists_end
returns-in-4 c = rw c.in-4.is c.list_end-in-4.ensures.value

pub returns-in-6 : goal.returns-in-6
unfolding lists_end
returns-in-6 c = rw c.in-6.is c.list_end-in-6.ensures.value

pub returns-in_default : goal.returns-in_default
returns-in_default c = rw (no-lists c.args.k (λ e. omega arith) (λ e. omega arith) (λ e. omega arith) (λ e. omega arith) (λ e. omega arith) (λ e. omega arith)) (unfold lists_end in refl)
