-- `check_fit::any_face` meets its contract: a turn of the loop is one shell more. Assumes nothing.
use Rattle.std.specs.Prelude.{not, eqb, ltb, length}
use Rattle.std.proofs.Common.{arith, ap}
use borrow.Author.Tests.{ltb-true}
use Rattle.memory_layout.specs.Layout.{word}
use Rattle.walk_marks.specs.Laws.{all-nth}
use Rattle.check_fit.specs.Whole.{faced_in}
use Rattle.check_fit.specs.Laws.{any_none, any-turn}
use Rattle.check_fit.proofs.any_face.Goals as goal

pub loop-shell-init : goal.loop-shell-init
loop-shell-init c = rw any_none

pub list-faces-requires : goal.list-faces-requires
list-faces-requires c =
    let s = c in
    record { lists = s.requires.lists; j_bound = (omega arith, ltb-true _ _ (all-nth (λ i. ltb i (word s.args.words.now 2)) s.args.shells.now c.loop-shell.shell-index s.requires.shells_value (omega arith))) }

pub loop-shell-preserved : goal.loop-shell-preserved
unfolding faced_in
loop-shell-preserved c = any-turn _ c.args.shells.now c.loop-shell.shell-index _ _ (omega arith) c.loop-shell.invariant (ap (λ l. not (eqb (length l) 0)) c.list-faces.ensures)
