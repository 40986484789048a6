-- `image_record_test::fields::optional_good` meets its contract. Assumes nothing.
use Rattle.image_record_test.specs.Parts.{optional_good}
use borrow.Author.Rules.{rules}
use Rattle.image_record_test.proofs.fields.optional_good.Goals as goal

pub returns : goal.returns
unfolding optional_good
returns c = rw (c.word_in-tag.ensures, c.word_in.ensures)
