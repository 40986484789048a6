-- `course_table::readable` meets its contract. Assumes nothing.
use Rattle.course_table.specs.Laws.{no_words, too_many, too-few-words, by_rows}
use native.Mathlib.Omega.{arith}
use Rattle.course_table.proofs.readable.Goals as goal

pub returns-then-courses-eq0 : goal.returns-then-courses-eq0
returns-then-courses-eq0 c = no_words _ c.if-courses-eq0.true

pub overflow_cast-n : goal.overflow_cast-n
overflow_cast-n c = omega (arith, c.type_inv.courses 0)

pub returns-then-n-gt256 : goal.returns-then-n-gt256
returns-then-n-gt256 c = too_many _ c.if-n-gt256.true

pub returns-then-courses-course_at : goal.returns-then-courses-course_at
returns-then-courses-course_at c = too-few-words _ c.if-n-gt256.false (omega (arith, c.course_at.ensures))

pub rows_ok-requires : goal.rows_ok-requires
rows_ok-requires c = record { few = omega arith; long = omega (arith, c.course_at.ensures) }

pub returns : goal.returns
returns c = by_rows _ _ c.if-n-gt256.false (omega (arith, c.course_at.ensures)) c.rows_ok.ensures
