-- `inquire_corners::counted` meets its contract. Assumes nothing.
use mathlib.Core.Bool.{◌&&◌}
use Rattle.float_grid.specs.Grid.{on_grid}
use Rattle.meaning_list_laws.specs.Tests.{and_both}
use Rattle.meaning_sheets.specs.Sheets.{corner}
use Rattle.inquire_corners.specs.Machines.{read_count, made}
use Rattle.inquire_corners.proofs.counted.Goals as goal

pub sixteenths-requires : goal.sixteenths-requires
sixteenths-requires c = let p = c.args.p in (and_both (on_grid p.x) (on_grid p.y) (and_both (on_grid p.x && on_grid p.y) (on_grid p.z) c.requires).0).0

pub sixteenths-requires-2 : goal.sixteenths-requires-2
sixteenths-requires-2 c = let p = c.args.p in (and_both (on_grid p.x) (on_grid p.y) (and_both (on_grid p.x && on_grid p.y) (on_grid p.z) c.requires).0).1

pub sixteenths-requires-3 : goal.sixteenths-requires-3
sixteenths-requires-3 c = let p = c.args.p in (and_both (on_grid p.x && on_grid p.y) (on_grid p.z) c.requires).1

pub returns : goal.returns
unfolding corner
returns c =
    let p = c.args.p in
    made _ _ _ _ _ _ (read_count _ p.x c.sixteenths.ensures) (read_count _ p.y c.sixteenths-2.ensures) (read_count _ p.z c.sixteenths-3.ensures)
