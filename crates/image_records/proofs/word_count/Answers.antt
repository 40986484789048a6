-- `image_records::word_count` meets its contract. Assumes nothing.
use mathlib.Core.Path.{refl}
use Rattle.image_records.proofs.word_count.Goals as goal

pub returns : goal.returns
returns c = refl
