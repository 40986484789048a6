-- `stl_numbers::edges_fit` meets its contract: a turn of the loop is one more test. Assumes nothing.
use Rattle.std.specs.Prelude.{◌≡◌, take}
use Rattle.meaning.specs.Lists.{all_below}
use Rattle.stl_numbers.specs.Numbered.{few}
use Rattle.stl_numbers.proofs.edges_fit.Given as goal

abbrev pub invariant-loop-e : goal.invariant-loop-e
invariant-loop-e l = l.ok ≡ all_below (few (take l.fins l.edges)) l.e
