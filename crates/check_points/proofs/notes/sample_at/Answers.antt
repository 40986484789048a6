-- `check_points::notes::sample_at` meets its contract. Assumes nothing.
use Rattle.meaning.specs.Faults.{sample_at}
use native.Mathlib.Numerals.{add-one}
use Rattle.check_points.proofs.notes.sample_at.Goals as goal

pub returns : goal.returns
unfolding sample_at
returns c = rw add-one
