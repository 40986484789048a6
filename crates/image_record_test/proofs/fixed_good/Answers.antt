-- `image_record_test::fixed_good` meets its contract. Assumes nothing.
use Rattle.image_record_test.specs.Parts.{fixed_good}
use borrow.Author.Rules.{rules}
use Rattle.image_record_test.proofs.fixed_good.Goals as goal

pub returns : goal.returns
unfolding fixed_good
returns c = rw (c.mark_good.ensures, c.mark_in.ensures, c.fields_good.ensures)
