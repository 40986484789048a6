-- `edit_lists::places::put_at` meets its contract. Assumes nothing.
use Rattle.edit_lists.specs.PlaceLaws.{put-turn}
use Rattle.edit_lists.proofs.places.put_at.Goals as goal

pub returns : goal.returns
returns c = let s = c in put-turn s.args.w.now s.args.at s.requires.0 s.args.place s.args.id s.requires.1
