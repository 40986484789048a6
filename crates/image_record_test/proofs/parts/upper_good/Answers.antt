-- `image_record_test::parts::upper_good` meets its contract. Assumes nothing.
use native.Mathlib.Omega.{arith}
use Rattle.image_record_test.specs.Facts.{nothing-tested}
use Rattle.image_record_test.specs.Parts.{fields_good}
use Rattle.image_record_test.proofs.parts.upper_good.Goals as goal

pub word_in-requires : goal.word_in-requires
word_in-requires c = let l = c.requires.k_in_bounds in let e = c.in-0.is in omega (arith, rw e at l)

pub word_in-requires-in-1 : goal.word_in-requires-in-1
word_in-requires-in-1 c = let l = c.requires.k_in_bounds in let e = c.in-1.is in omega (arith, rw e at l)

pub marked_good-requires : goal.marked_good-requires
marked_good-requires c = let l = c.requires.k_in_bounds in let e = c.in-3.is in rw e at l

pub returns-in-0 : goal.returns-in-0
unfolding fields_good
returns-in-0 c = rw (c.in-0.is, c.word_in.ensures)

pub returns-in-1 : goal.returns-in-1
unfolding fields_good
returns-in-1 c = rw (c.in-1.is, c.word_in-in-1.ensures)

pub returns-in-3 : goal.returns-in-3
unfolding fields_good
returns-in-3 c = rw c.in-3.is c.marked_good.ensures

pub returns-in_default : goal.returns-in_default
returns-in_default c = nothing-tested _ _ c.requires.k_bound (λ e. omega arith) (λ e. omega arith) (λ e. omega arith)
