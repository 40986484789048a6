-- `walk_visits::visit` meets its contract: a turn of the loop is one more source. Assumes nothing.
use Rattle.std.specs.Prelude.{◌≡◌, ◌*◌, ◌≤◌, length, take}
use Rattle.walk_marks.specs.Marks.{Marked}
use Rattle.walk_visits.specs.Visits.{ids_of, Visited}
use Rattle.walk_visits.proofs.visit.Given as goal

abbrev pub invariant-loop-p : goal.invariant-loop-p
invariant-loop-p l = (length l.buf ≡ 1024) × (l.n ≤ 1024 * l.p) × (Visited (ids_of l.room l.words (take l.p l.path)) l.initial.out l.out l.n) × (Marked l.marks (ids_of l.room l.words (take l.p l.path)))
