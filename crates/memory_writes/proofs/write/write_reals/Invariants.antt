-- `memory_writes::write::write_reals` meets its contract: a turn of the loop is a step of a copy. Assumes nothing.
use Rattle.std.specs.Prelude.{◌≡◌}
use Rattle.std.proofs.Math.Seq.{paste}
use Rattle.memory_writes.proofs.write.write_reals.Given as goal

abbrev pub invariant-loop-j : goal.invariant-loop-j
invariant-loop-j l = l.x ≡ paste l.initial.x 0 l.a l.j
