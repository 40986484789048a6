-- `walk_visits::listed` meets its contract: a turn of the loop is one more source. Assumes nothing.
use Rattle.std.specs.Prelude.{take}
use Rattle.std.proofs.Common.{refl, sym, ◌∙◌, arith, length-take-le}
use Rattle.meaning.specs.Lists.{joined}
use Rattle.meaning_list_laws.specs.Lists.{member-none}
use Rattle.walk_sources.specs.Sources.{part_of}
use Rattle.walk_visits.specs.Laws.{took-front, took-length, listed-turn}
use Rattle.walk_visits.proofs.listed.Goals as goal

pub loop-source-init : goal.loop-source-init
unfolding joined
loop-source-init c = (refl, rw member-none)

pub slice_bounds-part-end : goal.slice_bounds-part-end
slice_bounds-part-end c = sym c.loop-source.invariant.0

pub slice_bounds-buf-end : goal.slice_bounds-buf-end
slice_bounds-buf-end c =
    let took = c.part-n.ensures in
    omega (arith, took.short, took-length _ _ _ _ took, c.loop-source.invariant.0)

pub slice_bounds-has-end : goal.slice_bounds-has-end
slice_bounds-has-end c =
    let took = c.part-n.ensures in
    sym (length-take-le c.part-n.result c.part-n.new.buf (omega (arith, took.short, took-length _ _ _ _ took, c.loop-source.invariant.0)))

pub loop-source-preserved : goal.loop-source-preserved
loop-source-preserved c =
    let s = c in
    let took = c.part-n.ensures in
    let first = take s.args.p s.args.path.now in (
      took-length _ _ _ _ took ∙ c.loop-source.invariant.0,
      listed-turn (part_of s.args.room.now s.args.words.now) first c.loop-source.source-index _ _ _ _ (omega (arith, length-take-le s.args.p s.args.path.now (omega arith))) c.loop-source.invariant.1 c.has-found.ensures (took-front _ _ _ _ took (omega (arith, c.loop-source.invariant.0))),
    )
