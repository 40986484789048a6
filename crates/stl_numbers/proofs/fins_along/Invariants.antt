-- `stl_numbers::fins_along` meets its contract: a turn of the loop counts one more or none. Assumes nothing.
use Rattle.std.specs.Prelude.{◌≡◌, ◌≤◌, take}
use Rattle.meaning.specs.Lists.{count}
use Rattle.stl_numbers.proofs.fins_along.Given as goal

abbrev pub invariant-loop-edge : goal.invariant-loop-edge
invariant-loop-edge l = (l.times ≤ l.edge-index) × (l.times ≡ count l.e (take l.edge-index (take l.fins l.edges)))
