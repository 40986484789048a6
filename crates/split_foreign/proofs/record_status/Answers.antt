-- `split_foreign::record_status` meets its contract. Assumes nothing.
use native.Mathlib.Omega.{arith}
use mathlib.Core.Path.{ap, ap₂, ◌∙◌}
use borrow.Author.Tests.{ne_eqb, eq-eqb}
use Rattle.meaning.specs.Lists.{member}
use Rattle.meaning.specs.Formed.{bit}
use Rattle.split_foreign.specs.Status.{greater, greatest, standing, record_status}
use Rattle.split_foreign.proofs.record_status.Goals as goal

pub list-requires : goal.list-requires
list-requires c = c.requires

pub returns-then-j-ne-SHELL_FACES : goal.returns-then-j-ne-SHELL_FACES
unfolding record_status
returns-then-j-ne-SHELL_FACES c =
    let s = c in
    rw (ne_eqb s.args.j 2 c.if-j-ne-SHELL_FACES.true, ← c.list.ensures) c.list_status-s.ensures

pub list-wires-requires : goal.list-wires-requires
list-wires-requires c = let s = c in record { lists = s.requires.lists; j_bound = (omega arith, rw c.if-j-ne-SHELL_FACES.false at s.requires.j_bound.1) }

pub returns : goal.returns
unfolding record_status
returns c =
    let s = c in
    rw (eq-eqb s.args.j 2 c.if-j-ne-SHELL_FACES.false) (c.greater.ensures ∙ ap₂ greater
    (c.list_status-s.ensures ∙ ap (greatest (standing s.args.below.now)) c.list.ensures)
    (c.bit.ensures ∙ ap bit (c.names.ensures ∙ ap (member s.args.edge) c.list-wires.ensures)))
