-- `float_exact::exact_sum` meets its contract: `exact-test` of `specs/Laws.antt`, of two floats that an `f64` holds. Assumes nothing.
use mathlib.Core.Path.{sym, subst}
use lib.Dec.{T}
use Rattle.float_exact.proofs.Laws.{exact-test}
use Rattle.float_exact.proofs.exact_sum.Goals as goal

pub returns : goal.returns
returns c = exact-test c.args.a c.args.b (subst T (sym c.well_formed.0.1) tt) (subst T (sym c.well_formed.1.0.1) tt)
