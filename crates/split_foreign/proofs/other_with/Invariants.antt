-- `split_foreign::other_with` meets its contract. Assumes nothing.
use Rattle.std.specs.Prelude.{◌≡◌, ◌&&◌, eqb}
use Rattle.meaning.specs.Lists.{any, run}
use Rattle.split_foreign.specs.Status.{standing, others}
use Rattle.split_foreign.proofs.other_with.Given as goal

abbrev pub invariant-loop-i : goal.invariant-loop-i
invariant-loop-i l = l.found ≡ any (λ b. others l.room l.words l.office b && eqb (standing l.statuses b) 1) (run 0 l.i)
