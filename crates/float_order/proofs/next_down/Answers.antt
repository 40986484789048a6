-- `float_order::next_down` meets its contract. `specs/Bits.antt` has each fact that the code asks of the bit patterns. Assumes nothing.
use mathlib.Core.Path.{sym, ap, ◌∙◌, subst}
use mathlib.Core.Bool.{not}
use Prim.Native.Nat.{ℕ}
use lib.Dec.{T}
use lib.Ieee.{binary64, fits, nan_bits, of_bits}
use Rattle.float_order.proofs.Bits.{is-num, down-nan, down-num, down-good, bits-le}
use Rattle.float_order.proofs.next_down.Goals as goal
use Rattle.float_order.proofs.next_down.Goals.{Start}

-- what owning an `f64` tells: the format holds it
held : (c : Start) → T (fits binary64 c.args.x)
held c = subst T (sym c.well_formed.0.1) tt

pub returns-then-x : goal.returns-then-x
returns-then-x c = down-nan c.args.x c.if-x.true

pub float_to_bits-x : goal.float_to_bits-x
float_to_bits-x c = is-num c.args.x c.if-x.false

pub down_bits-requires : goal.down_bits-requires
down_bits-requires c = bits-le c.args.x (held c.before) c.if-x.false

pub float_from_bits-result : goal.float_from_bits-result
float_from_bits-result c =
    subst (λ (n : ℕ). T (not (nan_bits binary64 n))) (sym c.down_bits.ensures) (down-good c.args.x (held c.before.before) c.if-x.false)

pub returns : goal.returns
returns c = ap (of_bits binary64) c.down_bits.ensures ∙ down-num c.args.x c.if-x.false
