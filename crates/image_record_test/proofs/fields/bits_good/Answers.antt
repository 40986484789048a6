-- `image_record_test::fields::bits_good` meets its contract. Assumes nothing.
use Rattle.image_record_test.specs.Parts.{bits_good}
use borrow.Author.Rules.{rules}
use Rattle.image_record_test.proofs.fields.bits_good.Goals as goal

pub returns : goal.returns
unfolding bits_good
returns c = rw (c.bits_of.ensures, c.float_of.ensures)
