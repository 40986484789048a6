-- `image_loading::parts::office_in` meets its contract. Assumes nothing.
use borrow.Author.Tests.{eq-eqb, ne_eqb}
use Rattle.image_format.specs.Fields.{SECOND_BODY_MARK}
use Rattle.image_loading.proofs.parts.office_in.Goals as goal

pub returns-then-mark_in-eq-SECOND_BODY_MARK : goal.returns-then-mark_in-eq-SECOND_BODY_MARK
returns-then-mark_in-eq-SECOND_BODY_MARK c = rw (← c.mark_in.ensures, eq-eqb c.mark_in.result SECOND_BODY_MARK c.if-mark_in-eq-SECOND_BODY_MARK.true)

pub returns : goal.returns
returns c = rw (← c.mark_in.ensures, ne_eqb c.mark_in.result SECOND_BODY_MARK c.if-mark_in-eq-SECOND_BODY_MARK.false)
