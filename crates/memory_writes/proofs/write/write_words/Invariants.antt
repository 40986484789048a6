-- `memory_writes::write::write_words` meets its contract: a turn of the loop is a step of a copy. Assumes nothing.
use Rattle.std.specs.Prelude.{◌≡◌}
use Rattle.std.proofs.Math.Seq.{paste}
use Rattle.memory_writes.proofs.write.write_words.Given as goal

abbrev pub invariant-loop-j : goal.invariant-loop-j
invariant-loop-j l = l.w ≡ paste l.initial.w l.at l.a l.j
