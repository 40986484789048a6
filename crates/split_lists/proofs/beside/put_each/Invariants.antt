-- `split_lists::beside::put_each` meets its contract. Assumes nothing.
use Rattle.split_lists.specs.Beside.{entries_for}
use Rattle.split_lists.specs.BesideFacts.{Written}
use Rattle.split_lists.proofs.beside.put_each.Given as goal

abbrev pub invariant-loop-entry : goal.invariant-loop-entry
invariant-loop-entry l = Written (entries_for l.olds l.owners l.senses l.owner l.first) l.l l.initial.w l.q l.entry-index l.w l.p
