-- `inquire_box::extent::extent` meets its contract: a turn of the loop is one vertex more. Assumes nothing.
use Rattle.std.proofs.Common.{arith}
use Rattle.meaning.specs.Model.{point_of}
use Rattle.meaning_list_laws.specs.Lists.{below-nth}
use Rattle.memory_layout.specs.Layout.{word}
use Rattle.memory_layout.specs.Decode.{decode}
use Rattle.inquire_box.specs.Laws.{extent-turn}
use Rattle.inquire_box.proofs.extent.extent.Goals as goal

pub loop-id-init : goal.loop-id-init
loop-id-init c = c.none-e.ensures

pub point_at-point-requires : goal.point_at-point-requires
point_at-point-requires c =
    let s = c in
    record { fit = s.requires.fit; i_bound = below-nth (word s.args.words.now 7) s.args.ids.now c.loop-id.id-index s.requires.ids_value (omega arith) }

pub loop-id-preserved : goal.loop-id-preserved
loop-id-preserved c =
    let s = c in
    extent-turn (point_of (decode s.args.room.now s.args.words.now s.args.reals.now)) s.args.ids.now c.loop-id.id-index _ _ _ (omega arith) c.point_at-point.ensures c.loop-id.invariant c.with-e.ensures
