-- `float_narrow::narrow` meets its contract: the float's own pattern tells. Assumes nothing.
use mathlib.Core.Path.{sym, ◌∙◌, subst}
use borrow.Author.Rules.{rules}
use lib.Dec.{T}
use lib.Ieee.{binary64, fits}
use Rattle.float_order.proofs.Bits.{ne-self, is-num}
use Rattle.float_narrow.specs.Laws.{told, no_number}
use Rattle.float_narrow.proofs.narrow.Goals as goal
use Rattle.float_narrow.proofs.narrow.Goals.{Start}

-- what owning an `f64` tells: the format holds it
held : (c : Start) → T (fits binary64 c.args.x)
held c = subst T (sym c.well_formed.0.1) tt

pub returns-then-x : goal.returns-then-x
returns-then-x c = no_number c.args.x (sym (ne-self c.args.x) ∙ c.if-x.true)

pub float_to_bits-x : goal.float_to_bits-x
float_to_bits-x c = is-num c.args.x c.if-x.false

pub returns : goal.returns
returns c =
    let s = c.before.before in
    c.held.ensures ∙ told s.args.x (held s) (sym (ne-self s.args.x) ∙ c.if-x.false)
