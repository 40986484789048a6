-- `check_fit::own_path` meets its contract: a turn of the loop is one source more. Assumes nothing.
use Rattle.std.specs.Prelude.{ltb}
use Rattle.std.proofs.Common.{refl, arith, sym, ◌∙◌, take_all, length-take-le}
use Rattle.meaning.specs.Lists.{joined}
use Rattle.meaning_list_laws.specs.Lists.{all_none}
use Rattle.memory_layout.specs.Layout.{word}
use Rattle.walk_sources.specs.Sources.{part_of}
use Rattle.walk_visits.specs.Laws.{took-front, took-length, below-turn}
use Rattle.check_fit.specs.Laws.{all-part}
use Rattle.check_fit.proofs.own_path.Goals as goal

pub loop-source-init : goal.loop-source-init
unfolding joined
loop-source-init c = (refl, rw all_none)

pub slice_bounds-part-end : goal.slice_bounds-part-end
slice_bounds-part-end c = sym c.loop-source.invariant.0

pub part-n-requires : goal.part-n-requires
part-n-requires c = record { lists = c.requires.lists; source = c.requires.sources.at c.loop-source.source-index (omega arith) }

pub slice_bounds-buf-end : goal.slice_bounds-buf-end
slice_bounds-buf-end c =
    let took = c.part-n.ensures in
    omega (arith, took.short, took-length _ _ _ _ took, c.loop-source.invariant.0)

pub slice_bounds-own_faces-end : goal.slice_bounds-own_faces-end
slice_bounds-own_faces-end c =
    let took = c.part-n.ensures in
    sym (length-take-le c.part-n.result c.part-n.new.buf (omega (arith, took.short, took-length _ _ _ _ took, c.loop-source.invariant.0)))

pub own_faces-ok-requires : goal.own_faces-ok-requires
own_faces-ok-requires c =
    let s = c in
    let took = c.part-n.ensures in
    record { lists = s.requires.lists; ids_value = rw (took-front _ _ _ _ took (omega (arith, took.short, c.loop-source.invariant.0))) (all-part (λ f. ltb f (word s.args.words.now 3)) (part_of s.args.room.now s.args.words.now) s.args.path.now c.loop-source.source-index (omega arith) s.requires.path_value) }

pub loop-source-preserved : goal.loop-source-preserved
loop-source-preserved c =
    let s = c in
    let q = c.loop-source.source-index in
    let took = c.part-n.ensures in (
      took-length _ _ _ _ took ∙ c.loop-source.invariant.0,
      below-turn (part_of s.args.room.now s.args.words.now) s.args.path.now q _ _ _ _ (omega arith) c.loop-source.invariant.1 c.own_faces-ok.ensures (took-front _ _ _ _ took (omega (arith, c.loop-source.invariant.0))),
    )

pub returns : goal.returns
returns c =
    let done = take_all c.loop-source.source-index c.args.path.now (omega arith) in
    rw done at c.loop-source.invariant.1
