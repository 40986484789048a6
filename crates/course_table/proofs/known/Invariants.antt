-- `course_table::known` meets its contract: a turn of the loop is one more entry. Assumes nothing.
use Rattle.std.specs.Prelude.{◌≡◌, ltb}
use Rattle.std.proofs.Common.{take}
use Rattle.meaning.specs.Lists.{all}
use Rattle.course_table.proofs.known.Given as goal

abbrev pub invariant-loop-e : goal.invariant-loop-e
invariant-loop-e l = l.ok ≡ all (λ e. ltb e 131072) (take l.e-index l.l)
