-- `mend_meetings::mark_at` meets its contract. Assumes nothing.
use native.Mathlib.Omega.{arith}
use Rattle.mend_meetings.specs.Laws.{place-le}
use borrow.Author.Rules.{rules}
use Rattle.mend_meetings.proofs.mark_at.Goals as goal

pub overflow_add-result : goal.overflow_add-result
overflow_add-result c = omega (arith, place-le c.args.k (search rules))
