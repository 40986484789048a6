-- `office_courses::course_total` meets its contract. Assumes nothing.
use mathlib.Core.Path.{sym, ap, ◌∙◌}
use Rattle.course_table.specs.Laws.{laid_of}
use Rattle.office_courses.specs.Told.{told_sum}
use Rattle.office_courses.specs.Laws.{bodies-few, refused-so, passed, told-so}
use borrow.Author.Rules.{rules}
use Rattle.office_courses.proofs.course_total.Goals as goal

pub returns-then-n-ne0 : goal.returns-then-n-ne0
returns-then-n-ne0 c = record { answer = refused-so c.args.room.now c.args.words.now c.args.reals.now c.args.office c.args.courses.now c.args.course c.args.faces.now _ c.course_refusal-n.ensures c.if-n-ne0.true; faces = c.clear.ensures }

pub course_stones-requires : goal.course_stones-requires
course_stones-requires c =
    let p = passed c.args.room.now c.args.words.now c.args.reals.now c.args.office c.args.courses.now c.args.course c.args.faces.now (sym c.course_refusal-n.ensures ∙ c.if-n-ne0.false) in
    record { in_bounds = bodies-few _ _ _ p.tables; laid = laid_of _ p.courses }

pub returns : goal.returns
returns c =
    let p = passed c.args.room.now c.args.words.now c.args.reals.now c.args.office c.args.courses.now c.args.course c.args.faces.now (sym c.course_refusal-n.ensures ∙ c.if-n-ne0.false) in
    let s = c.course_stones.ensures in
    record { answer = c.told.ensures ∙ ap told_sum s.answer ∙ told-so c.args.room.now c.args.words.now c.args.reals.now c.args.office c.args.courses.now c.args.course c.args.faces.now p; faces = s.faces }
