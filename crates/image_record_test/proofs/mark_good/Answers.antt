-- `image_record_test::mark_good` meets its contract. Assumes nothing.
use Rattle.image_record_test.specs.Parts.{mark_good}
use Rattle.image_record_test.specs.Facts.{its-mark}
use borrow.Author.Rules.{rules}
use Rattle.image_record_test.proofs.mark_good.Goals as goal

pub returns : goal.returns
unfolding mark_good
returns c = rw (its-mark c.args.k c.requires)
