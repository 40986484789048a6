-- `inquire_tally::is_solid` meets its contract. Assumes nothing.
use native.Mathlib.Omega.{arith}
use Rattle.inquire_tally.specs.Laws.{other-kind}
use borrow.Author.Rules.{rules}
use Rattle.inquire_tally.proofs.is_solid.Goals as goal

pub returns-in_default : goal.returns-in_default
returns-in_default c = other-kind c.args.tag (omega arith)
