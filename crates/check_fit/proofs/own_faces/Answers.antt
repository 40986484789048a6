-- `check_fit::own_faces` meets its contract: a turn of the loop is one face more. Assumes nothing.
use Rattle.std.specs.Prelude.{ltb}
use Rattle.std.proofs.Common.{arith}
use borrow.Author.Tests.{ltb-true}
use Rattle.meaning_list_laws.specs.Lists.{all_none}
use Rattle.memory_layout.specs.Layout.{word}
use Rattle.walk_marks.specs.Laws.{all-turn, all-nth}
use Rattle.check_fit.proofs.own_faces.Goals as goal

pub loop-id-init : goal.loop-id-init
loop-id-init c = rw all_none

pub own_sides-ok-requires : goal.own_sides-ok-requires
own_sides-ok-requires c =
    let s = c in
    record { lists = s.requires.lists; f_bound = ltb-true _ _ (all-nth (λ f. ltb f (word s.args.words.now 3)) s.args.ids.now c.loop-id.id-index s.requires.ids_value (omega arith)) }

pub loop-id-preserved : goal.loop-id-preserved
loop-id-preserved c = all-turn _ c.args.ids.now c.loop-id.id-index _ _ (omega arith) c.loop-id.invariant c.own_sides-ok.ensures
