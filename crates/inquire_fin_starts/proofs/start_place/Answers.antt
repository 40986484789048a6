-- `inquire_fin_starts::start_place` meets its contract. Assumes nothing.
use native.Mathlib.Omega.{arith}
use mathlib.Core.Path.{◌≡◌}
use mathlib.Core.Bool.{true, false}
use lib.Dec.{eqb}
use borrow.Author.Tests.{eq-eqb, ne_eqb}
use Rattle.inquire_fin_starts.specs.Starts.{start_place}
use Rattle.inquire_fin_starts.proofs.start_place.Goals as goal

pub returns-then-sense-eq0 : goal.returns-then-sense-eq0
unfolding start_place
returns-then-sense-eq0 c = let e : eqb c.args.sense 0 ≡ true = eq-eqb _ _ c.if-sense-eq0.true in (rw e, omega arith)

pub returns : goal.returns
unfolding start_place
returns c = let e : eqb c.args.sense 0 ≡ false = ne_eqb _ _ c.if-sense-eq0.false in (rw e, omega arith)
