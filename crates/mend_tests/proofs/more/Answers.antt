-- `mend_tests::more` meets its contract. Assumes nothing.
use mathlib.Core.Path.{sym, ap}
use mathlib.Core.Bool.{Bool, cond}
use borrow.Author.Tests.{eq-eqb, ne_eqb}
use Rattle.mend_tests.proofs.more.Goals as goal

pub returns-then-n-eq0 : goal.returns-then-n-eq0
returns-then-n-eq0 c = sym (ap (λ (t : Bool). cond t 1 2) (eq-eqb _ _ c.if-n-eq0.true))

pub returns : goal.returns
returns c = sym (ap (λ (t : Bool). cond t 1 2) (ne_eqb _ _ c.if-n-eq0.false))
