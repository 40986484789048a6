-- `split_fins::pcurves_refusal` meets its contract. Assumes nothing.
use Rattle.std.specs.Prelude.{◌≡◌}
use Rattle.std.proofs.Common.{take}
use Rattle.meaning.specs.Refuse.{first_of}
use Rattle.split_fins.specs.Fins.{pcurve_test}
use Rattle.split_fins.proofs.pcurves_refusal.Given as goal

abbrev pub invariant-loop-fin : goal.invariant-loop-fin
invariant-loop-fin l = l.n ≡ first_of (pcurve_test l.room l.words) (take l.fin-index l.fins)
