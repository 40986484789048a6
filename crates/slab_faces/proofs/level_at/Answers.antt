-- `slab_faces::level_at` meets its contract. Assumes nothing.
use Rattle.std.proofs.Common.{sym, ap, arith}
use lib.Ieee.{eq}
use Rattle.meaning_list_laws.specs.Lists.{all_none}
use Rattle.memory_layout.specs.Decode.{decode}
use Rattle.inquire_fin_starts.specs.Laws.{rim-whole, rim-start}
use Rattle.slab_faces.specs.Tested.{level_at}
use Rattle.slab_faces.specs.Laws.{level-turn}
use Rattle.slab_faces.proofs.level_at.Goals as goal

pub loop-fin-init : goal.loop-fin-init
loop-fin-init c = sym (all_none _)

pub height-requires : goal.height-requires
height-requires c =
    let k = c.loop-fin.fin-index in
    record { fit = c.requires.fit; whole = rim-whole c.args.room.now c.args.words.now c.args.fins.now k (omega arith) c.requires.rim; i_value = rim-start c.args.room.now c.args.words.now c.args.fins.now k (omega arith) c.requires.rim }

pub loop-fin-preserved : goal.loop-fin-preserved
loop-fin-preserved c = level-turn (level_at (decode c.args.room.now c.args.words.now c.args.reals.now) c.args.axis c.args.at) c.args.fins.now c.loop-fin.fin-index _ _ (omega arith) c.loop-fin.invariant (ap (λ t. eq t c.args.at) c.height.ensures)
