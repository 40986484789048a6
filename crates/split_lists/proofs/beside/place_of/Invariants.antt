-- `split_lists::beside::place_of` meets its contract. Assumes nothing.
use Rattle.std.specs.Prelude.{◌≡◌, ◌+◌}
use Rattle.std.proofs.Common.{drop}
use Rattle.meaning.specs.Lists.{place}
use Rattle.split_lists.proofs.beside.place_of.Given as goal

abbrev pub invariant-loop-j : goal.invariant-loop-j
invariant-loop-j l = place l.x l.s ≡ l.j + place l.x (drop l.j l.s)
