-- `float_order::next_up` meets its contract. `specs/Bits.antt` has each fact that the code asks of the bit patterns. Assumes nothing.
use mathlib.Core.Path.{sym, ap, ◌∙◌, subst}
use mathlib.Core.Bool.{not}
use Prim.Native.Nat.{ℕ}
use borrow.Author.Rules.{rules}
use lib.Dec.{T}
use lib.Ieee.{binary64, fits, nan_bits, of_bits}
use Rattle.float_order.proofs.Bits.{is-num, up-nan, up-num, up-good}
use Rattle.float_order.proofs.next_up.Goals as goal
use Rattle.float_order.proofs.next_up.Goals.{Start}

-- what owning an `f64` tells: the format holds it
held : (c : Start) → T (fits binary64 c.args.x)
held c = subst T (sym c.well_formed.0.1) tt

pub returns-then-x : goal.returns-then-x
returns-then-x c = up-nan c.args.x c.if-x.true

pub float_to_bits-x : goal.float_to_bits-x
float_to_bits-x c = is-num c.args.x c.if-x.false

pub float_from_bits-result : goal.float_from_bits-result
float_from_bits-result c =
    subst (λ (n : ℕ). T (not (nan_bits binary64 n))) (sym c.up_bits.ensures) (up-good c.args.x (held c.before.before) c.if-x.false)

pub returns : goal.returns
returns c = ap (of_bits binary64) c.up_bits.ensures ∙ up-num c.args.x c.if-x.false
