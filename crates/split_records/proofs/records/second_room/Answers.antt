use Rattle.split_pieces.specs.Facts.{second_room}
use mathlib.Core.Path.{refl}
use borrow.Author.Rules.{rules}
use Rattle.split_records.proofs.records.second_room.Goals as goal

pub returns : goal.returns
unfolding second_room
returns c = refl
