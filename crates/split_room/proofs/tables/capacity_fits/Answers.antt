-- `split_room::tables::capacity_fits` meets its contract. Assumes nothing.
use Rattle.split_place.specs.Place.{capacity_test}
use Rattle.split_room.proofs.tables.capacity_fits.Goals as goal

pub returns : goal.returns
unfolding capacity_test
returns c = rw (c.shells_ok.ensures, c.loops_fit.ensures, c.tables_fit.ensures)
