-- `image_records::place_of` meets its contract. Assumes nothing.
use native.Mathlib.Omega.{arith}
use mathlib.Core.Path.{◌∙◌}
use Rattle.image_records.specs.Laws.{numbered}
use Rattle.image_records.proofs.place_of.Goals as goal

pub overflow_add-k : goal.overflow_add-k
overflow_add-k c = let n = (numbered c.args.k c.args.j c.requires.0 c.requires.1).list in record { fits = omega arith }

pub list_place-requires : goal.list_place-requires
list_place-requires c = (numbered c.args.k c.args.j c.requires.0 c.requires.1).list

pub returns : goal.returns
returns c = c.list_place.ensures ∙ (numbered c.args.k c.args.j c.requires.0 c.requires.1).place
