-- `check_manifold::new_ids` meets its contract: what the source lists, less what was met. Assumes nothing.
use native.Mathlib.Omega.{arith}
use Rattle.walk_visits.specs.Laws.{took-front, took-length}
use Rattle.check_manifold.specs.Laws.{fresh-long}
use Rattle.check_manifold.proofs.new_ids.Goals as goal

pub bounds-path-p : goal.bounds-path-p
bounds-path-p c = omega arith

pub part-n-requires : goal.part-n-requires
part-n-requires c = record { lists = c.requires.lists; source = c.requires.sources.at c.args.p c.requires.p_in_bounds.0 }

pub fresh-requires : goal.fresh-requires
fresh-requires c = record { lists = c.requires.lists; sources = c.requires.sources; p_in_bounds = (omega arith, omega (arith, c.part-n.ensures.short, took-length _ _ _ _ c.part-n.ensures), c.part-n.ensures.short); marked = c.requires.marked }

pub returns : goal.returns
returns c = fresh-long _ _ _ _ _ _ 1024 _ c.part-n.ensures.short (took-front _ _ _ _ c.part-n.ensures c.requires.p_in_bounds.1) c.fresh.ensures
