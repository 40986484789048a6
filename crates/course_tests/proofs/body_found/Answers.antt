-- `course_tests::body_found` meets its contract. Assumes nothing.
use Rattle.course_tests.specs.Laws.{body-there, body-missing}
use Rattle.course_tests.proofs.body_found.Goals as goal

pub returns-then-body_for-words : goal.returns-then-body_for-words
returns-then-body_for-words c room x = body-there room _ x _ _ _ (c.body_for.ensures room x) c.if-body_for-words.true

pub returns : goal.returns
returns c room x = body-missing room _ x _ _ _ (c.body_for.ensures room x) c.if-body_for-words.false
