-- `office_courses::course_refusal` meets its contract. Assumes nothing.
use mathlib.Core.Path.{sym, ◌∙◌}
use borrow.Author.Tests.{not-true, not-false}
use Rattle.course_table.specs.Laws.{laid_of}
use Rattle.office_courses.specs.Laws.{unread-courses, unread-tables, no-office, short-marks, found-so, bodies-few}
use borrow.Author.Rules.{rules}
use Rattle.office_courses.proofs.course_refusal.Goals as goal

pub returns-then-not-readable : goal.returns-then-not-readable
returns-then-not-readable c = unread-courses c.args.room.now c.args.words.now c.args.reals.now c.args.office c.args.courses.now c.args.course c.args.faces.now (sym c.readable.ensures ∙ c.if-not-readable.true)

pub returns-then-not-readable-2 : goal.returns-then-not-readable-2
returns-then-not-readable-2 c = unread-tables c.args.room.now c.args.words.now c.args.reals.now c.args.office c.args.courses.now c.args.course c.args.faces.now (sym c.readable.ensures ∙ c.if-not-readable.false) (sym c.readable-2.ensures ∙ c.if-not-readable-2.true)

pub returns-then-office-gt1 : goal.returns-then-office-gt1
returns-then-office-gt1 c = no-office c.args.room.now c.args.words.now c.args.reals.now c.args.office c.args.courses.now c.args.course c.args.faces.now (sym c.readable.ensures ∙ c.if-not-readable.false) (sym c.readable-2.ensures ∙ c.if-not-readable-2.false) c.if-office-gt1.true

pub returns-then-faces-room : goal.returns-then-faces-room
returns-then-faces-room c = short-marks c.args.room.now c.args.words.now c.args.reals.now c.args.office c.args.courses.now c.args.course c.args.faces.now (sym c.readable.ensures ∙ c.if-not-readable.false) (sym c.readable-2.ensures ∙ c.if-not-readable-2.false) c.if-office-gt1.false c.if-faces-room.true

pub course_found-requires : goal.course_found-requires
course_found-requires c = record { in_bounds = (bodies-few _ _ _ (sym c.readable-2.ensures ∙ c.if-not-readable-2.false)).0; laid = laid_of _ (sym c.readable.ensures ∙ c.if-not-readable.false) }

pub returns : goal.returns
returns c = found-so c.args.room.now c.args.words.now c.args.reals.now c.args.office c.args.courses.now c.args.course c.args.faces.now (sym c.readable.ensures ∙ c.if-not-readable.false) (sym c.readable-2.ensures ∙ c.if-not-readable-2.false) c.if-office-gt1.false c.if-faces-room.false _ (c.course_found.ensures c.args.room.now c.args.reals.now)
