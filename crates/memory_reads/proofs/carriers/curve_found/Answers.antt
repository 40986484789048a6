-- `memory_reads::carriers::curve_found` meets its contract. Assumes nothing.
use native.Mathlib.Omega.{arith}
use Rattle.memory_layout.specs.Decode.{decode}
use Rattle.memory_reads.proofs.carriers.curve_found.Goals as goal

pub found-requires : goal.found-requires
found-requires c = record { sized = c.requires; lt_k = (omega arith, omega arith) }

pub returns : goal.returns
unfolding decode
returns c = c.found.ensures
