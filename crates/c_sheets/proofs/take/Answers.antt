-- `c_sheets::take` meets its contract. Assumes nothing.
use borrow.Author.Rules.{rules}
use Rattle.c_sheets.specs.Slots.{sheet_in, sheet_out}
use Rattle.c_sheets.proofs.take.Goals as goal

pub returns : goal.returns
unfolding sheet_in sheet_out
returns c =
    let e = c.taken-t.ensures in
    record { answer = e.refused; slots = λ i. sheet_out (e.sheet i); faces = e.faces }
