-- `walk_sources::part` meets its contract, kind by kind. Assumes nothing.
use Prim.Native.Nat.{◌/◌, ◌%◌}
use mathlib.Core.Path.{sym, ap, ◌∙◌}
use mathlib.Core.List.{map}
use native.Mathlib.Omega.{arith}
use lib.ListN.{length}
use Rattle.memory_layout.specs.Laws.{words_inside}
use Rattle.memory_layout.proofs.Laws.{words-length}
use Rattle.walk_sources.specs.Sources.{fin_edge, ends_in}
use Rattle.walk_sources.specs.Laws.{list-short, source-slot, source-kind, source-fins, part-ends, part-fins, part-list, took-same, took-ids, took-fins}
use Rattle.walk_sources.proofs.part.Goals as goal

pub words_of-requires : goal.words_of-requires
words_of-requires c =
    let s = c in
    record { small = s.requires.lists.small; inside = words_inside s.args.room.now s.args.words.now 6 _ s.requires.lists (omega arith) (source-slot s.args.room.now s.args.words.now s.args.source 7 s.requires.source c.if-j-eq-EDGE_FINS.true) }

pub ends-requires : goal.ends-requires
ends-requires c =
    let s = c in
    let f = words_inside s.args.room.now s.args.words.now 6 (s.args.source / 8) s.requires.lists (omega arith) (source-slot s.args.room.now s.args.words.now s.args.source 7 s.requires.source c.if-j-eq-EDGE_FINS.true) in
    ap length c.words_of.ensures ∙ words-length s.args.room.now s.args.words.now 6 (s.args.source / 8) f

pub returns-then-j-eq-EDGE_FINS : goal.returns-then-j-eq-EDGE_FINS
returns-then-j-eq-EDGE_FINS c =
    let s = c in
    took-same _ _ _ _ _ (ap ends_in c.words_of.ensures ∙ sym (part-ends s.args.room.now s.args.words.now s.args.source c.if-j-eq-EDGE_FINS.true)) c.ends.ensures

pub fin_edges-requires : goal.fin_edges-requires
fin_edges-requires c =
    let s = c in
    record { lists = s.requires.lists; fins_value = source-fins s.args.room.now s.args.words.now s.args.source _ s.requires.source c.if-j-eq-LOOP_FINS.true c.list-ids.ensures }

pub returns-then-j-eq-LOOP_FINS : goal.returns-then-j-eq-LOOP_FINS
returns-then-j-eq-LOOP_FINS c =
    let s = c in
    let short = list-short s.args.room.now s.args.words.now (s.args.source % 8) (s.args.source / 8) s.requires.lists (source-kind s.args.room.now s.args.words.now s.args.source) s.requires.source.slot in
    took-fins s.args.room.now s.args.words.now _ c.list-ids.result.now _ _ (part-fins s.args.room.now s.args.words.now s.args.source c.if-j-eq-LOOP_FINS.true ∙ ap (map (fin_edge s.args.room.now s.args.words.now)) (sym c.list-ids.ensures))
    (omega (arith, ap length c.list-ids.ensures)) c.fin_edges.ensures

pub put_all-requires : goal.put_all-requires
put_all-requires c =
    let s = c in
    omega (arith, ap length c.list-ids.ensures, list-short s.args.room.now s.args.words.now (s.args.source % 8) (s.args.source / 8) s.requires.lists (source-kind s.args.room.now s.args.words.now s.args.source) s.requires.source.slot)

pub returns : goal.returns
returns c =
    let s = c in
    let short = list-short s.args.room.now s.args.words.now (s.args.source % 8) (s.args.source / 8) s.requires.lists (source-kind s.args.room.now s.args.words.now s.args.source) s.requires.source.slot in
    took-ids _ _ _ _ (part-list s.args.room.now s.args.words.now s.args.source c.if-j-eq-EDGE_FINS.false c.if-j-eq-LOOP_FINS.false ∙ sym c.list-ids.ensures)
    (omega (arith, ap length c.list-ids.ensures)) c.put_all.ensures
