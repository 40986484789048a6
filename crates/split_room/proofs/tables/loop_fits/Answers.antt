-- `split_room::tables::loop_fits` meets its contract. Assumes nothing.
use native.Mathlib.Omega.{arith}
use Rattle.split_place.specs.Place.{owned_by, loop_test}
use Rattle.split_place.specs.Laws.{count_if-le}
use Rattle.split_room.proofs.tables.loop_fits.Goals as goal

pub overflow_cast-fins : goal.overflow_cast-fins
overflow_cast-fins c = omega (arith, c.type_inv.fins c.args.k)

pub owner_of-owner-requires : goal.owner_of-owner-requires
owner_of-owner-requires c = let s = c in record { lists = s.requires.lists; fin_bound = s.requires.owned.there s.args.k s.requires.k_in_bounds }

pub list-entries-requires : goal.list-entries-requires
list-entries-requires c = let s = c in record { lists = s.requires.lists; j_bound = (omega arith, rw c.owner_of-owner.ensures (s.requires.owned.owner s.args.k s.requires.k_in_bounds)) }

pub gain-more-requires : goal.gain-more-requires
gain-more-requires c = let s = c in record { lists = s.requires.lists; owned = s.requires.owned }

pub overflow_add-result : goal.overflow_add-result
overflow_add-result c = let s = c in let h = c.gain-more.ensures in let n = count_if-le (owned_by s.args.room.now s.args.words.now c.owner_of-owner.result) s.args.fins.now in omega arith

pub returns : goal.returns
unfolding loop_test
returns c = rw (c.gain-more.ensures, c.list-entries.ensures, c.owner_of-owner.ensures)
