-- `check_manifold::manifold_path` meets its contract: a turn of the loop is one more source. Assumes nothing.
use Rattle.std.proofs.Common.{◌<◌, length, arith, sym, ap, ◌∙◌, take_all, length-take-le}
use Rattle.meaning.specs.Lists.{joined, meets, firsts}
use Rattle.meaning.specs.Faults.{manifold_edge}
use Rattle.memory_layout.specs.Decode.{decode}
use Rattle.memory_layout.specs.Laws.{lists_of}
use Rattle.walk_sources.specs.Sources.{part_of}
use Rattle.walk_visits.specs.Visits.{ids_of}
use Rattle.check_reasons.specs.Laws.{noted-none, noted-same}
use Rattle.check_manifold.specs.Laws.{walk_turn, walk-marked, walk-enough, walk-over}
use Rattle.check_manifold.proofs.manifold_path.Goals as goal

pub loop-p-init : goal.loop-p-init
unfolding joined meets
loop-p-init c = (noted-none _ _, c.requires.marked)

pub returns-then-done : goal.returns-then-done
returns-then-done c =
    let s = c in
    walk-over (manifold_edge (decode s.args.room.now s.args.words.now s.args.reals.now)) (part_of s.args.room.now s.args.words.now) s.args.path.now c.loop-p.p c.loop-p.invariant.0 (sym c.done.ensures ∙ c.if-done.true)

pub new_ids-n-requires : goal.new_ids-n-requires
new_ids-n-requires c = record { lists = lists_of _ _ _ c.requires.fit; sources = c.requires.sources; p_in_bounds = (omega arith, omega (arith, c.requires.path_len_bound.1)); marked = c.loop-p.invariant.1 }

pub slice_bounds-all_manifold-end : goal.slice_bounds-all_manifold-end
slice_bounds-all_manifold-end c = omega (arith, c.new_ids-n.ensures.short, c.requires.path_len_bound.1)

pub slice_bounds-all_manifold-end-in-loop-p : goal.slice_bounds-all_manifold-end-in-loop-p
slice_bounds-all_manifold-end-in-loop-p c = sym (length-take-le c.new_ids-n.result c.new_ids-n.new.buf (omega (arith, c.new_ids-n.ensures.short, c.requires.path_len_bound.1)))

pub all_manifold-tally-requires : goal.all_manifold-tally-requires
all_manifold-tally-requires c = let h : c.loop-p.p < length c.args.path.now = omega arith in record { fit = c.requires.fit; enough = walk-enough (manifold_edge (decode c.args.room.now c.args.words.now c.args.reals.now)) (part_of c.args.room.now c.args.words.now) c.args.path.now c.loop-p.p h _ _ _ _ c.new_ids-n.ensures c.requires.enough c.loop-p.invariant.0 }

pub loop-p-preserved : goal.loop-p-preserved
loop-p-preserved c = let h : c.loop-p.p < length c.args.path.now = omega arith in (walk_turn (manifold_edge (decode c.args.room.now c.args.words.now c.args.reals.now)) (part_of c.args.room.now c.args.words.now) c.args.path.now c.loop-p.p h _ _ _ _ c.new_ids-n.ensures c.loop-p.invariant.0 c.all_manifold-tally.ensures, walk-marked (manifold_edge (decode c.args.room.now c.args.words.now c.args.reals.now)) (part_of c.args.room.now c.args.words.now) c.args.path.now c.loop-p.p h _ _ _ _ c.new_ids-n.ensures)

pub returns : goal.returns
returns c = noted-same (ap (λ l. joined (manifold_edge (decode c.args.room.now c.args.words.now c.args.reals.now)) (firsts (ids_of c.args.room.now c.args.words.now l))) (take_all c.loop-p.p c.args.path.now (omega arith))) c.loop-p.invariant.0
