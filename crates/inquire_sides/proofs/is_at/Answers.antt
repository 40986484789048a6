-- `inquire_sides::is_at` meets its contract. Assumes nothing.
use mathlib.Core.Path.{refl}
use Rattle.inquire_sides.specs.Sides.{is_at}
use borrow.Author.Rules.{rules}
use Rattle.inquire_sides.proofs.is_at.Goals as goal

pub returns : goal.returns
unfolding is_at
returns c = refl
