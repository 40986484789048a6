-- `image_record_test::fields::carrier_bits` meets its contract. Assumes nothing.
use Rattle.image_record_test.specs.Parts.{carrier_bits}
use mathlib.Core.Path.{◌≡◌}
use mathlib.Core.Bool.{false}
use lib.Dec.{eqb}
use borrow.Author.Tests.{ne_eqb}
use borrow.Author.Rules.{rules}
use Rattle.image_record_test.proofs.fields.carrier_bits.Goals as goal

pub returns-then-tag-eq2 : goal.returns-then-tag-eq2
unfolding carrier_bits
returns-then-tag-eq2 c = rw c.if-tag-eq2.true

pub returns : goal.returns
unfolding carrier_bits
returns c = let e : eqb c.args.tag 2 ≡ false = ne_eqb _ _ c.if-tag-eq2.false in rw (c.bits_good.ensures, e)
