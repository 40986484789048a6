-- `c_mends::mend_changes` meets its contract. Assumes nothing.
use native.Mathlib.Omega.{arith}
use mathlib.Core.Path.{ap, ◌∙◌}
use Rattle.memory_writes.specs.Put.{unless_refused}
use Rattle.c_lent.specs.Lent.{alone}
use Rattle.office_mends.specs.Laws.{list-as-long}
use borrow.Author.Rules.{rules}
use Rattle.c_mends.proofs.mend_changes.Goals as goal

pub shape_of-nums : goal.shape_of-nums
shape_of-nums c = let s = c in omega (arith, list-as-long s.args.room.now s.args.words.now s.args.reals.now s.args.office s.args.body s.args.marks.now s.args.nums.now _ c.mend_changes.ensures.list)

pub returns : goal.returns
returns c =
    let s = c in
    let r = c.mend_changes.ensures in
    let p = c.put_count.ensures in
    record { answer = p.value ∙ r.refused; slots = p.value_after ∙ ap (λ k. unless_refused c.put_count.result (alone k) s.args.value.now) r.changes; list = r.list; marks = r.marks }
