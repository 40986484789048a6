-- `split_fin_tests::fins::fins_refusal` meets its contract: the first refusal goes to the label. Assumes nothing.
use Rattle.std.specs.Prelude.{◌≡◌, ◌≤◌, get_or}
use Rattle.std.proofs.Common.{take}
use Rattle.meaning.specs.Lists.{count}
use Rattle.split_fin_tests.specs.Laws.{from}
use Rattle.split_fin_tests.proofs.fins.fins_refusal.Given as goal

abbrev pub invariant-loop-entry : goal.invariant-loop-entry
invariant-loop-entry l = (l.times ≤ 1) × (l.times ≡ count (get_or l.fins l.k 0) (take l.entry-index l.entries))

abbrev pub invariant-fins : goal.invariant-fins
invariant-fins l = (l.n ≡ 0) × (from l.room l.words l.reals l.edge l.cut l.fins 0 ≡ from l.room l.words l.reals l.edge l.cut l.fins l.k)
