-- `image_record_test::fields::carrier_good` meets its contract. Assumes nothing.
use Rattle.image_record_test.specs.Parts.{carrier_good}
use borrow.Author.Rules.{rules}
use Rattle.image_record_test.proofs.fields.carrier_good.Goals as goal

pub returns : goal.returns
unfolding carrier_good
returns c = rw (c.three_good.ensures, c.three_good-2.ensures, c.word_in-tag.ensures)
