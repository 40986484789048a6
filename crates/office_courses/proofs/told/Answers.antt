-- `office_courses::told` meets its contract. Assumes nothing.
use Rattle.office_courses.specs.Laws.{told-refused, told-given}
use Rattle.office_courses.proofs.told.Goals as goal

pub returns-then-s-ne0 : goal.returns-then-s-ne0
returns-then-s-ne0 c = told-refused _ c.if-s-ne0.true

pub returns : goal.returns
returns c = told-given _ c.if-s-ne0.false
