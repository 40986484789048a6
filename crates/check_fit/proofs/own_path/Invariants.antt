-- `check_fit::own_path` meets its contract: a turn of the loop is one source more. Assumes nothing.
use Rattle.std.proofs.Common.{◌≡◌, length, take}
use Rattle.meaning.specs.Lists.{all, joined}
use Rattle.walk_sources.specs.Sources.{part_of}
use Rattle.check_fit.specs.Whole.{owns_in}
use Rattle.check_fit.proofs.own_path.Given as goal

abbrev pub invariant-loop-source : goal.invariant-loop-source
invariant-loop-source l = (length l.buf ≡ 1024) × (l.ok ≡ all (owns_in l.room l.words l.path) (joined (part_of l.room l.words) (take l.source-index l.path)))
