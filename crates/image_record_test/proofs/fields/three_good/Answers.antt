-- `image_record_test::fields::three_good` meets its contract. Assumes nothing.
use borrow.Author.Rules.{rules}
use Rattle.image_record_test.proofs.fields.three_good.Goals as goal

pub returns : goal.returns
returns c = rw (c.carrier_bits.ensures, c.carrier_bits-2.ensures, c.carrier_bits-3.ensures, c.bits_in.ensures, c.bits_in-2.ensures, c.bits_in-3.ensures)
