-- `walk_visits::fresh` meets its contract: a turn of the loop is one more id. Assumes nothing.
use Rattle.std.specs.Prelude.{◌≤◌, take}
use Rattle.walk_visits.specs.Visits.{ids_of, Freshing}
use Rattle.walk_visits.proofs.fresh.Given as goal

abbrev pub invariant-loop-k : goal.invariant-loop-k
invariant-loop-k l = (l.m ≤ l.k) × (Freshing (ids_of l.room l.words (take l.p l.path)) l.initial.buf l.buf l.marks l.k l.m)
