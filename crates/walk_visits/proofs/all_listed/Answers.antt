-- `walk_visits::all_listed` meets its contract: a turn of the loop is one more source. Assumes nothing.
use Rattle.std.proofs.Common.{refl, sym, ◌∙◌, arith, length-take-le}
use Rattle.meaning.specs.Lists.{joined}
use Rattle.meaning_list_laws.specs.Lists.{all_none}
use Rattle.walk_sources.specs.Sources.{part_of}
use Rattle.walk_visits.specs.Laws.{took-front, took-length, below-turn}
use Rattle.walk_visits.proofs.all_listed.Goals as goal

pub loop-source-init : goal.loop-source-init
unfolding joined
loop-source-init c = (refl, rw all_none)

pub slice_bounds-part-end : goal.slice_bounds-part-end
slice_bounds-part-end c = sym c.loop-source.invariant.0

pub part-n-requires : goal.part-n-requires
part-n-requires c = record { lists = c.requires.lists; source = c.requires.sources.at c.loop-source.source-index (omega arith) }

pub slice_bounds-buf-end : goal.slice_bounds-buf-end
slice_bounds-buf-end c =
    let took = c.part-n.ensures in
    omega (arith, took.short, took-length _ _ _ _ took, c.loop-source.invariant.0)

pub slice_bounds-all_below-end : goal.slice_bounds-all_below-end
slice_bounds-all_below-end c =
    let took = c.part-n.ensures in
    sym (length-take-le c.part-n.result c.part-n.new.buf (omega (arith, took.short, took-length _ _ _ _ took, c.loop-source.invariant.0)))

pub loop-source-preserved : goal.loop-source-preserved
loop-source-preserved c =
    let s = c in
    let took = c.part-n.ensures in (
      took-length _ _ _ _ took ∙ c.loop-source.invariant.0,
      below-turn (part_of s.args.room.now s.args.words.now) s.args.path.now c.loop-source.source-index _ _ _ _ (omega arith) c.loop-source.invariant.1 c.all_below-ok.ensures (took-front _ _ _ _ took (omega (arith, c.loop-source.invariant.0))),
    )
