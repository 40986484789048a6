-- `image_reader::room_for` meets its contract: a turn of the loop is one more table. Assumes nothing.
use Rattle.std.specs.Prelude.{◌≡◌, leb}
use Rattle.meaning.specs.Lists.{all_below}
use Rattle.memory_layout.specs.Layout.{word}
use Rattle.image_format.specs.Image.{count_in}
use Rattle.image_reader.proofs.room_for.Given as goal

abbrev pub invariant-loop-k : goal.invariant-loop-k
invariant-loop-k l = l.ok ≡ all_below (λ j. leb (count_in l.bytes j) (word l.room j)) l.k
