-- `check_open_loop::open_at` meets its contract. Assumes nothing.
use mathlib.Core.Path.{sym, ap, ◌∙◌}
use Rattle.meaning.specs.Faults.{only_if, fault}
use Rattle.check_reasons.specs.Laws.{enough-same, noted-same, noted-over}
use borrow.Author.Rules.{rules}
use Rattle.check_open_loop.proofs.open_at.Goals as goal

pub returns-then-done : goal.returns-then-done
returns-then-done c = noted-over _ _ _ (sym c.done.ensures ∙ c.if-done.true)

pub note_if-requires : goal.note_if-requires
note_if-requires c = record { n_nonzero = search rules; enough = enough-same (sym (ap (λ b. only_if b (fault 18 c.args.i)) c.open_between-apart.ensures)) c.requires.enough }

pub returns : goal.returns
returns c = noted-same (ap (λ b. only_if b (fault 18 c.args.i)) c.open_between-apart.ensures) c.note_if.ensures
