-- `image_record_test::fields::edge_good` meets its contract. Assumes nothing.
use borrow.Author.Rules.{rules}
use Rattle.image_record_test.proofs.fields.edge_good.Goals as goal

pub returns : goal.returns
returns c = rw (c.marked_good.ensures, c.tolerance_good.ensures, c.word_in.ensures, c.bits_in.ensures)
