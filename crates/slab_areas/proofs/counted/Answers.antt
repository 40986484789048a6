-- `slab_areas::counted` meets its contract. Assumes nothing.
use mathlib.Core.Path.{sym, ◌∙◌}
use Rattle.slab_areas.specs.Laws.{off-grid}
use Rattle.inquire_corners.specs.Machines.{read_count}
use Rattle.slab_areas.proofs.counted.Goals as goal

pub sixteenths-requires : goal.sixteenths-requires
sixteenths-requires c = sym c.on_grid.ensures ∙ c.if-on_grid.true

pub returns-then-on_grid : goal.returns-then-on_grid
returns-then-on_grid c = read_count _ c.args.x c.sixteenths.ensures

pub returns : goal.returns
returns c = off-grid c.args.x (sym c.on_grid.ensures ∙ c.if-on_grid.false)
