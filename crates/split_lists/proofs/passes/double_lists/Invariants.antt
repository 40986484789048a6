-- `split_lists::passes::double_lists` meets its contract. Assumes nothing.
use Rattle.std.specs.Prelude.{◌≡◌}
use Rattle.split_lists.specs.Pass.{put_all, doubled_at}
use Rattle.split_lists.proofs.passes.double_lists.Given as goal

abbrev pub invariant-loop-i : goal.invariant-loop-i
invariant-loop-i l = l.words ≡ put_all l.room l.k 0 (doubled_at l.room l.initial.words l.k l.place l.olds l.owners l.senses l.own l.first) l.i l.initial.words
