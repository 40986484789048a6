-- `image_record_test::fields::vertex_good` meets its contract. Assumes nothing.
use Rattle.image_record_test.specs.Parts.{vertex_good}
use borrow.Author.Rules.{rules}
use Rattle.image_record_test.proofs.fields.vertex_good.Goals as goal

pub returns : goal.returns
unfolding vertex_good
returns c = rw (c.bits_good.ensures, c.bits_good-2.ensures, c.bits_good-3.ensures, c.tolerance_good.ensures, c.word_in-tag.ensures, c.bits_in.ensures, c.bits_in-2.ensures, c.bits_in-3.ensures, c.bits_in-4.ensures)
