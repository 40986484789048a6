-- `walk_sources::gather` meets its contract: a turn of the loop is one more record. Assumes nothing.
use Rattle.std.specs.Prelude.{ltb, length, get_or}
use Rattle.std.proofs.Common.{arith, sym, ap, ◌∙◌}
use Rattle.meaning.specs.Lists.{all, joined}
use Rattle.memory_layout.specs.Entries.{list_of}
use Rattle.walk_marks.specs.Laws.{all-nth, puts_none}
use Rattle.walk_sources.specs.Sources.{sourced, followed}
use Rattle.walk_sources.specs.Laws.{followed-slot, followed-small, list-short, gather-turn}
use Rattle.walk_sources.proofs.gather.Goals as goal

pub loop-id-init : goal.loop-id-init
unfolding joined sourced
loop-id-init c = (omega arith, omega arith, sym (puts_none _ _))

pub list-more-requires : goal.list-more-requires
list-more-requires c =
    let s = c in
    let i = c.loop-id.id-index in
    record { lists = s.requires.lists; j_bound = (s.requires.j_bound.0, followed-slot s.args.room.now s.args.words.now s.args.j (get_or s.args.ids.now i 0) (all-nth (followed s.args.room.now s.args.words.now s.args.j) s.args.ids.now i s.requires.ids_value (omega arith))) }

pub add_sources-requires : goal.add_sources-requires
add_sources-requires c =
    let s = c in
    let i = c.loop-id.id-index in
    let x = get_or s.args.ids.now i 0 in
    let there = all-nth (followed s.args.room.now s.args.words.now s.args.j) s.args.ids.now i s.requires.ids_value (omega arith) in
    let short = list-short s.args.room.now s.args.words.now s.args.j x s.requires.lists s.requires.j_bound.0 (followed-slot s.args.room.now s.args.words.now s.args.j x there) in record { ids_bound = (omega (arith, ap length c.list-more.ensures), s.requires.j_bound.1); ids_value = ap (all (λ x. ltb x 4096)) c.list-more.ensures ∙ followed-small s.args.room.now s.args.words.now s.args.j x s.requires.lists s.requires.j_bound.0 there }

pub loop-id-preserved : goal.loop-id-preserved
loop-id-preserved c =
    let s = c in
    let i = c.loop-id.id-index in
    let x = get_or s.args.ids.now i 0 in
    let there = all-nth (followed s.args.room.now s.args.words.now s.args.j) s.args.ids.now i s.requires.ids_value (omega arith) in
    let short = list-short s.args.room.now s.args.words.now s.args.j x s.requires.lists s.requires.j_bound.0 (followed-slot s.args.room.now s.args.words.now s.args.j x there) in
    let same = c.list-more.ensures in
    let turn = gather-turn (list_of s.args.room.now s.args.words.now s.args.j) s.args.path.now s.args.ids.now s.args.m s.args.k i _ _ _ _ (omega arith) same c.loop-id.invariant.1 c.loop-id.invariant.2 c.add_sources.ensures in (
      omega (arith, ap length same),
      turn.0,
      turn.1,
    )
