-- `slab_areas::step` meets its contract. Assumes nothing.
use Rattle.slab_areas.specs.Laws.{count_small, step-told}
use Rattle.memory_layout.specs.Decode.{decode}
use Rattle.inquire_fin_starts.specs.Starts.{start_point}
use Rattle.slab_areas.proofs.step.Goals as goal

pub start_point-p-requires : goal.start_point-p-requires
start_point-p-requires c = let s = c in record { fit = s.requires.fit; whole = s.requires.whole.0; i_value = s.requires.i_value.0 }

pub start_point-q-requires : goal.start_point-q-requires
start_point-q-requires c = let s = c in record { fit = s.requires.fit; whole = s.requires.whole.1; i_value = s.requires.i_value.1 }

pub strip-requires : goal.strip-requires
strip-requires c = (count_small _ _ c.counted.ensures, count_small _ _ c.counted-2.ensures, count_small _ _ c.counted-3.ensures)

pub returns : goal.returns
unfolding start_point
returns c = let s = c in step-told (decode s.args.room.now s.args.words.now s.args.reals.now) s.args.axis s.args.i s.args.j _ _ _ _ _ _ _ _ _ _ _ c.start_point-p.ensures c.start_point-q.ensures c.across-u.ensures c.upward-v.ensures c.on.ensures c.on-2.ensures c.on-3.ensures c.counted.ensures c.counted-2.ensures c.counted-3.ensures c.strip.ensures
