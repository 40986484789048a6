-- `walk_visits::visit` meets its contract: a turn of the loop is one more source. Assumes nothing.
use Rattle.std.proofs.Common.{refl, sym, ◌∙◌, arith, length-take-le}
use Rattle.meaning.specs.Lists.{joined}
use Rattle.walk_sources.specs.Sources.{part_of}
use Rattle.walk_visits.specs.Laws.{took-front, took-length, visit-none, visit-turn}
use Rattle.walk_visits.proofs.visit.Goals as goal

pub loop-p-init : goal.loop-p-init
unfolding joined
loop-p-init c = (refl, omega arith, visit-none (part_of c.args.room.now c.args.words.now) c.args.path.now _, c.requires.marked)

pub slice_bounds-part-end : goal.slice_bounds-part-end
slice_bounds-part-end c = sym c.loop-p.invariant.0

pub part-k-requires : goal.part-k-requires
part-k-requires c = record { lists = c.requires.lists; source = c.requires.sources.at c.loop-p.p (omega arith) }

pub slice_bounds-fresh-end : goal.slice_bounds-fresh-end
slice_bounds-fresh-end c =
    let took = c.part-k.ensures in
    sym (took-length _ _ _ _ took ∙ c.loop-p.invariant.0)

pub fresh-m-requires : goal.fresh-m-requires
fresh-m-requires c =
    let took = c.part-k.ensures in
    record { lists = c.requires.lists; sources = c.requires.sources; p_in_bounds = (omega arith, omega (arith, took.short, took-length _ _ _ _ took, c.loop-p.invariant.0), took.short); marked = c.loop-p.invariant.3 }

pub slice_bounds-put_all-end : goal.slice_bounds-put_all-end
slice_bounds-put_all-end c = sym (length-take-le c.fresh-m.result c.fresh-m.new.buf (omega arith))

pub put_all-requires : goal.put_all-requires
put_all-requires c = omega (arith, length-take-le c.fresh-m.result c.fresh-m.new.buf (omega arith), c.part-k.ensures.short, c.fresh-m.ensures.short, c.loop-p.invariant.1)

pub overflow_add-n : goal.overflow_add-n
overflow_add-n c = omega (arith, c.part-k.ensures.short, c.fresh-m.ensures.short, c.loop-p.invariant.1)

pub loop-p-preserved : goal.loop-p-preserved
loop-p-preserved c =
    let s = c in
    let inv = c.loop-p.invariant in
    let took = c.part-k.ensures in
    let turn = visit-turn (part_of s.args.room.now s.args.words.now) s.args.path.now _ _ _ _ c.fresh-m.new.buf _ c.loop-p.p _ _ c.fresh-m.result (omega arith) (omega arith) (took-front _ _ _ _ took (omega (arith, inv.0))) inv.2 c.fresh-m.ensures c.put_all.ensures in (
      omega arith,
      omega (arith, took.short, c.fresh-m.ensures.short, inv.1),
      turn.0,
      turn.1,
    )
