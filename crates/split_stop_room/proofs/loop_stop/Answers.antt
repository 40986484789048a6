-- `split_stop_room::loop_stop` meets its contract. Assumes nothing.
use Rattle.split_stop_room.specs.RoomRows.{loop_part}
use native.Mathlib.Omega.{arith}
use Rattle.split_stop_room.proofs.loop_stop.Goals as goal

pub offset_bounds-fins-k : goal.offset_bounds-fins-k
offset_bounds-fins-k c = omega (arith, c.requires.k_in_bounds)

pub bounds-fins-k : goal.bounds-fins-k
bounds-fins-k c = c.requires.k_in_bounds

pub owner_of-owner-requires : goal.owner_of-owner-requires
owner_of-owner-requires c = let s = c in record { lists = s.requires.lists; fin_bound = s.requires.owned.there s.args.k s.requires.k_in_bounds }

pub loop_fits-requires : goal.loop_fits-requires
loop_fits-requires c = let both = c.requires in record { lists = both.lists; owned = both.owned; k_in_bounds = both.k_in_bounds }

pub returns : goal.returns
unfolding loop_part
returns c = rw (c.stop_at.ensures, c.unless-number.ensures, c.loop_fits.ensures, c.owner_of-owner.ensures)
