-- `walk_visits::fresh` meets its contract: a turn of the loop is one more id. Assumes nothing.
use Rattle.std.proofs.Common.{sym, arith, length-take-le}
use Rattle.walk_visits.specs.Laws.{counted-short, fresh-none, fresh-marked, fresh-turn, fresh-done}
use Rattle.walk_visits.proofs.fresh.Goals as goal

pub loop-k-init : goal.loop-k-init
loop-k-init c = (omega arith, fresh-none _ _ _ c.requires.marked)

pub slice_bounds-met-end-in-loop-k : goal.slice_bounds-met-end-in-loop-k
slice_bounds-met-end-in-loop-k c = sym (length-take-le c.loop-k.m c.loop-k.buf (omega arith))

pub met-seen-requires : goal.met-seen-requires
met-seen-requires c = record { lists = c.requires.lists; sources = c.requires.sources; p_in_bounds = omega arith; marked = fresh-marked _ _ _ _ _ _ c.loop-k.invariant.1 }

pub loop-k-preserved : goal.loop-k-preserved
loop-k-preserved c =
    let s = c in
    let inv = c.loop-k.invariant in
    let short = counted-short c.met-seen.result c.loop-k.m _ c.counted-m.ensures in (
      omega arith,
      fresh-turn _ s.args.buf.now c.loop-k.buf _ c.loop-k.k c.loop-k.m inv.1 (omega arith) (omega arith) (omega arith) _ _ _ _ c.met-seen.ensures c.mark.ensures c.put.ensures c.counted-m.ensures,
    )

pub returns : goal.returns
returns c = fresh-done _ _ _ _ c.args.n c.loop-k.k c.loop-k.m (omega arith) (omega arith) c.loop-k.invariant.1
