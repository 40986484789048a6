-- `mend_tests::raise_once` meets its contract. Assumes nothing.
use Prim.Native.Nat.{◌-◌}
use native.Mathlib.Omega.{arith}
use mathlib.Core.Path.{refl, ap}
use Rattle.memory_layout.specs.Laws.{capacity-le}
use Rattle.split_foreign.specs.Status.{greater, standing}
use Rattle.mend_tests.specs.Status.{follows, status}
use Rattle.mend_tests.specs.Laws.{again-twice, rows_same}
use Rattle.mend_tests.proofs.raise_once.Goals as goal

pub overflow_sub-k : goal.overflow_sub-k
overflow_sub-k c = let h = c.requires.le_k.0 in omega arith

pub slice_bounds-count_listed-end : goal.slice_bounds-count_listed-end
slice_bounds-count_listed-end c = refl

pub count_listed-requires : goal.count_listed-requires
count_listed-requires c = let s = c in let h = s.requires.le_k.1 in record { lists = s.requires.lists; k_bound = omega arith }

pub raise-requires : goal.raise-requires
raise-requires c = let s = c in record { lists = s.requires.lists; k_bound = s.requires.le_k.1; fresh = s.requires.fresh }

pub returns : goal.returns
unfolding status
returns c =
    let s = c in
    let k = s.args.k in
    let small = s.requires.le_k.1 in
    let n = s.requires.lists.counts k (omega arith) in
    let t = capacity-le s.args.room.now s.requires.lists.small k (omega arith) in
    rows_same _ _ _ _
    (λ i h. ap (λ a. greater a (follows s.args.room.now s.args.words.now k (standing s.args.below.now) i))
    (again-twice s.args.room.now s.args.words.now (k - 1) 4096 i _ c.count_listed.ensures (omega arith)))
    c.raise.ensures
