-- `image_record_test::fields::fin_good` meets its contract. Assumes nothing.
use borrow.Author.Rules.{rules}
use Rattle.image_record_test.proofs.fields.fin_good.Goals as goal

pub returns : goal.returns
returns c = rw (c.word_in.ensures, c.word_in-2.ensures)
