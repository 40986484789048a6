-- `image_records::three_ids` meets its contract. Assumes nothing.
use Rattle.image_records.specs.Kept.{three_ids}
use Rattle.image_records.proofs.three_ids.Goals as goal

pub returns : goal.returns
unfolding three_ids
returns c = rw (← c.id_behind-surface.ensures, ← c.id_behind-back.ensures, ← c.id_behind-front.ensures)
