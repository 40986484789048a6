-- `edit_lists::places::append_at` meets its contract. Assumes nothing.
use native.Mathlib.Omega.{arith}
use Rattle.edit_lists.specs.PlaceLaws.{append-turn}
use Rattle.edit_lists.proofs.places.append_at.Goals as goal

pub overflow_add-w-3 : goal.overflow_add-w-3
overflow_add-w-3 c = let s = c in record { fits = omega (arith, s.requires.2) }

pub returns : goal.returns
returns c = let s = c in append-turn s.args.w.now s.args.at s.requires.0 s.args.id s.requires.1
