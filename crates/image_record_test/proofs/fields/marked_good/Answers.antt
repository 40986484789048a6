-- `image_record_test::fields::marked_good` meets its contract. Assumes nothing.
use Rattle.image_record_test.specs.Parts.{marked_good}
use borrow.Author.Rules.{rules}
use Rattle.image_record_test.proofs.fields.marked_good.Goals as goal

pub returns : goal.returns
unfolding marked_good
returns c = rw (c.optional_good.ensures, c.optional_good-2.ensures, c.optional_good-3.ensures, c.word_in.ensures)
