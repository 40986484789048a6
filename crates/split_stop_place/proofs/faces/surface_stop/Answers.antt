-- `split_stop_place::faces::surface_stop` meets its contract. Assumes nothing.
use Rattle.split_stop_place.specs.FinRows.{surface_told}
use Rattle.memory_records.specs.Laws.{counts-there}
use Rattle.memory_layout.specs.Decode.{decode}
use native.Mathlib.Omega.{arith}
use Rattle.split_stop_place.proofs.faces.surface_stop.Goals as goal

pub bounds-words-9 : goal.bounds-words-9
bounds-words-9 c = let s = c in let n = counts-there s.args.room.now s.args.words.now s.args.reals.now s.requires in omega arith

pub surface_found-found-requires : goal.surface_found-found-requires
surface_found-found-requires c = c.requires

pub returns : goal.returns
unfolding surface_told decode
returns c = rw (c.first.ensures, c.plane_stop.ensures, c.stop_at.ensures, c.surface_found-found.ensures, c.unless-there.ensures)
