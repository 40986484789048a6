-- `image_records::float_count` meets its contract. Assumes nothing.
use mathlib.Core.Path.{refl}
use Rattle.image_records.proofs.float_count.Goals as goal

pub returns : goal.returns
returns c = refl
