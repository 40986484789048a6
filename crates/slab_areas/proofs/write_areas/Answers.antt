-- `slab_areas::write_areas` meets its contract. Assumes nothing.
use Rattle.std.proofs.Common.{refl, arith}
use Rattle.meaning_slabs.specs.Slabs.{face_area, area_sum}
use Rattle.memory_layout.specs.Decode.{decode}
use Rattle.walk_marks.specs.Laws.{all-nth}
use Rattle.slab_areas.specs.Measured.{measurable}
use Rattle.slab_areas.specs.Laws.{areas-none, areas-turn, sum-turn}
use Rattle.slab_areas.proofs.write_areas.Goals as goal

pub loop-k-init : goal.loop-k-init
loop-k-init c = ((unfold area_sum in refl), areas-none (face_area (decode c.args.room.now c.args.words.now c.args.reals.now)) c.args.faces.now c.args.areas.now, omega arith)

pub face_area-a-requires : goal.face_area-a-requires
face_area-a-requires c = record { fit = c.requires.fit; f_value = all-nth (measurable c.args.room.now c.args.words.now) c.args.faces.now c.loop-k.k c.requires.faces_value (omega arith) }

pub bounds-areas-k : goal.bounds-areas-k
bounds-areas-k c = let long = c.requires.faces_len_bound.1 in omega arith

pub overflow_add-sum : goal.overflow_add-sum
overflow_add-sum c = let short = c.requires.faces_len_bound.0 in omega (arith, c.loop-k.invariant.2, c.face_area-a.ensures.1)

pub loop-k-preserved : goal.loop-k-preserved
loop-k-preserved c =
    let turn = c.loop-k in
    let long = c.requires.faces_len_bound.1 in
    let r = c.face_area-a.ensures in (
      sum-turn (face_area (decode c.args.room.now c.args.words.now c.args.reals.now)) c.args.faces.now c.args.areas.now turn.k _ _ (omega arith) turn.invariant.0 r.0,
      areas-turn (face_area (decode c.args.room.now c.args.words.now c.args.reals.now)) c.args.faces.now c.args.areas.now turn.k _ _ _ (omega arith) long turn.invariant.1 r.0 refl,
      omega (arith, turn.invariant.2, r.1),
    )
