-- `edit_lists::places::strike_at` meets its contract: a turn of the loop moves one entry. Assumes nothing.
use Rattle.std.specs.Prelude.{◌≡◌}
use Rattle.edit_lists.specs.PlaceLaws.{moved}
use Rattle.edit_lists.proofs.places.strike_at.Given as goal

abbrev pub invariant-loop-m : goal.invariant-loop-m
invariant-loop-m l = l.w ≡ moved l.initial.w l.at l.place l.m
