-- `float_order::extremes::square_low` meets its contract: each arm returns what `square_low` picks where its test is as the arm found it. Assumes nothing.
use mathlib.Core.Path.{ap, ◌∙◌}
use borrow.Author.Rules.{rules}
use lib.Ieee.{Float, of_bits}
use Rattle.float_order.specs.Extremes.{zero_f, greatest_f}
use Rattle.float_order.proofs.extremes.square_low.Goals as goal

pub returns-then-spans : goal.returns-then-spans
unfolding of_bits
returns-then-spans c = rw c.if-spans.true

pub returns : goal.returns
unfolding of_bits
returns c = rw c.if-spans.false (c.greatest.ensures ∙ ap (λ (x : Float). greatest_f x zero_f) c.next_down.ensures)
