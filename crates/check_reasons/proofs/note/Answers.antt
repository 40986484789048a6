-- `check_reasons::note` meets its contract. Assumes nothing.
use Rattle.check_reasons.specs.Laws.{note-one, noted-over}
use lib.Dec.{eqb}
use mathlib.Core.Bool.{cond}
use mathlib.Core.Path.{sym, ap, ◌∙◌}
use borrow.Author.Rules.{rules}
use Rattle.check_reasons.proofs.note.Goals as goal

pub returns-then-stops : goal.returns-then-stops
returns-then-stops c = noted-over _ _ _ (sym c.stops.ensures ∙ c.if-stops.true)

pub returns : goal.returns
returns c =
    let row = c.row-reason.ensures in
    note-one _ _ _ _ _ _ _ _ (search rules) (ap (λ r. r.kind) row) (c.class_or.ensures ∙ ap (λ r. cond (eqb r.class 8) c.args.asked r.class) row) c.put_fault.ensures
    (sym c.stops.ensures ∙ c.if-stops.false)
