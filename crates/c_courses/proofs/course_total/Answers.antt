-- `c_courses::course_total` meets its contract. Assumes nothing.
use mathlib.Core.Path.{◌∙◌}
use Rattle.c_courses.specs.Laws.{number-crosses, value-crosses}
use borrow.Author.Rules.{rules}
use Rattle.c_courses.proofs.course_total.Goals as goal

pub returns : goal.returns
returns c =
    let s = c.args in
    let t = c.course_total.ensures in
    let e = c.put_sum.ensures.answer ∙ number-crosses s.room.now s.words.now s.reals.now s.office s.courses.now s.course s.faces.now _ t.answer in
    record { answer = e; slots = rw e (c.put_sum.ensures.slots ∙ value-crosses s.room.now s.words.now s.reals.now s.office s.courses.now s.course s.faces.now _ t.answer s.value.now); faces = t.faces }
