-- `slab_fins::broken_fin` meets its contract. Assumes nothing.
use Rattle.std.specs.Prelude.{suc, ◌≡◌, List, Float}
use Rattle.std.proofs.Common.{take}
use Rattle.meaning.specs.Refuse.{first_refusal}
use Rattle.meaning_slabs.specs.Slabs.{steps, closed}
use Rattle.memory_layout.specs.Decode.{decode}
use Rattle.slab_fins.specs.Ends.{open_fin}
use Rattle.slab_fins.proofs.broken_fin.Given as goal

abbrev pub invariant-loop-k : goal.invariant-loop-k
invariant-loop-k l = (x : List Float) → l.n ≡ first_refusal (steps (open_fin (decode l.room l.words x)) (take (suc l.k) (closed l.fins)))
