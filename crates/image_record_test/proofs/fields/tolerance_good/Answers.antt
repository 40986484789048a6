-- `image_record_test::fields::tolerance_good` meets its contract. Assumes nothing.
use Rattle.image_record_test.specs.Parts.{tolerance_good}
use mathlib.Core.Path.{◌≡◌}
use mathlib.Core.Bool.{false}
use lib.Dec.{eqb}
use borrow.Author.Tests.{ne_eqb}
use borrow.Author.Rules.{rules}
use Rattle.image_record_test.proofs.fields.tolerance_good.Goals as goal

pub returns-then-tag-eq0 : goal.returns-then-tag-eq0
unfolding tolerance_good
returns-then-tag-eq0 c = rw c.if-tag-eq0.true

pub returns : goal.returns
unfolding tolerance_good
returns c = let e : eqb c.args.tag 0 ≡ false = ne_eqb _ _ c.if-tag-eq0.false in rw (c.tolerance_ok.ensures, c.float_of.ensures, e)
