-- `walk_paths::shells` meets its contract. Assumes nothing.
use mathlib.Core.Path.{ap, ◌∙◌}
use native.Mathlib.Omega.{arith}
use lib.ListN.{length}
use Rattle.meaning.specs.Lists.{all}
use Rattle.walk_paths.specs.Paths.{shell_list}
use Rattle.walk_paths.specs.Laws.{regions-short}
use Rattle.walk_paths.proofs.shells.Goals as goal

pub gather-requires : goal.gather-requires
gather-requires c =
    let s = c in
    let e = c.list.ensures in
    record { lists = s.requires.lists; j_bound = (omega arith, s.requires.k_bound.0, omega (arith, ap length e, regions-short s.args.room.now s.args.words.now s.args.body s.requires.lists s.requires.shelled)); ids_value = ap (all _) e ∙ s.requires.shelled.regions }

pub returns : goal.returns
unfolding shell_list
returns c =
    let e = c.list.ensures in
    record { value = rw e at c.gather.ensures.value; path_after = rw e at c.gather.ensures.path_after }
