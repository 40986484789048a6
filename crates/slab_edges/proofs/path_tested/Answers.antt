-- `slab_edges::path_tested` meets its contract. Assumes nothing.
use Rattle.std.proofs.Common.{refl, sym, ◌∙◌, arith, length-take-le}
use Rattle.meaning.specs.Lists.{joined}
use Rattle.meaning_list_laws.specs.Tests.{first_of-none}
use Rattle.memory_layout.specs.Decode.{decode}
use Rattle.memory_layout.specs.Laws.{lists_of}
use Rattle.walk_sources.specs.Sources.{part_of}
use Rattle.walk_visits.specs.Laws.{took-front, took-length}
use Rattle.slab_edges.specs.Tested.{id_tested}
use Rattle.slab_edges.specs.Laws.{first-source}
use Rattle.slab_edges.proofs.path_tested.Goals as goal

pub loop-source-init : goal.loop-source-init
unfolding joined
loop-source-init c = (refl, sym (first_of-none _))

pub slice_bounds-part-end : goal.slice_bounds-part-end
slice_bounds-part-end c = sym c.loop-source.invariant.0

pub part-k-requires : goal.part-k-requires
part-k-requires c = record { lists = lists_of c.args.room.now c.args.words.now c.args.reals.now c.requires.fit; source = c.requires.sources.at c.loop-source.source-index (omega arith) }

pub slice_bounds-buf-end : goal.slice_bounds-buf-end
slice_bounds-buf-end c = let took = c.part-k.ensures in omega (arith, took.short, took-length _ _ _ _ took, c.loop-source.invariant.0)

pub slice_bounds-ids_tested-end : goal.slice_bounds-ids_tested-end
slice_bounds-ids_tested-end c = let took = c.part-k.ensures in sym (length-take-le c.part-k.result c.part-k.new.buf (omega (arith, took.short, took-length _ _ _ _ took, c.loop-source.invariant.0)))

pub loop-source-preserved : goal.loop-source-preserved
loop-source-preserved c =
    let took = c.part-k.ensures in (
      took-length _ _ _ _ took ∙ c.loop-source.invariant.0,
      first-source (id_tested (decode c.args.room.now c.args.words.now c.args.reals.now) c.args.rule) (part_of c.args.room.now c.args.words.now) c.args.path.now c.loop-source.source-index _ _ _ _ (omega arith) c.loop-source.invariant.1 c.ids_tested.ensures (took-front _ _ _ _ took (omega (arith, c.loop-source.invariant.0))) c.then-n.ensures,
    )
