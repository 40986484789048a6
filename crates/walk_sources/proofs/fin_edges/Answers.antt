-- `walk_sources::fin_edges` meets its contract: a turn of the loop is one more fin. Assumes nothing.
use Rattle.std.specs.Prelude.{ℕ, map, length, get_or}
use Rattle.std.proofs.Common.{arith, sym, ap, ◌∙◌}
use Rattle.std.proofs.lemmas.List.{length-map}
use Rattle.std.proofs.Math.Seq.{take_all}
use Rattle.meaning_list_laws.specs.Lists.{below-nth}
use Rattle.memory_layout.specs.Layout.{word}
use Rattle.memory_layout.specs.Laws.{words_inside}
use Rattle.memory_layout.proofs.Laws.{words-length}
use Rattle.walk_marks.specs.Laws.{map-nth, puts_none, puts-turn}
use Rattle.walk_marks.specs.Marks.{puts}
use Rattle.walk_sources.specs.Sources.{fin_edge}
use Rattle.walk_sources.proofs.fin_edges.Goals as goal

pub loop-k-init : goal.loop-k-init
loop-k-init c = sym (puts_none _ _)

pub words_of-fin-requires : goal.words_of-fin-requires
words_of-fin-requires c =
    let s = c in
    record { small = s.requires.lists.small; inside = words_inside s.args.room.now s.args.words.now 5 _ s.requires.lists (omega arith) (below-nth (word s.args.words.now 5) s.args.fins.now c.loop-k.k s.requires.fins_value (omega arith)) }

pub bounds-fin-1 : goal.bounds-fin-1
bounds-fin-1 c =
    let s = c in
    let k = c.loop-k.k in
    let f = words_inside s.args.room.now s.args.words.now 5 (get_or s.args.fins.now k 0) s.requires.lists (omega arith) (below-nth (word s.args.words.now 5) s.args.fins.now k s.requires.fins_value (omega arith)) in
    omega (arith, ap length c.words_of-fin.ensures, words-length s.args.room.now s.args.words.now 5 (get_or s.args.fins.now k 0) f)

pub loop-k-preserved : goal.loop-k-preserved
loop-k-preserved c =
    let s = c in
    let k = c.loop-k.k in
    let f : ℕ → ℕ = fin_edge s.args.room.now s.args.words.now in
    puts-turn s.args.buf.now (map f s.args.fins.now) 0 k _ _ _ _ (omega (arith, length-map s.args.fins.now f)) (omega arith)
    (ap (λ l. word l 1) c.words_of-fin.ensures ∙ sym (map-nth f s.args.fins.now k (omega arith))) c.loop-k.invariant c.put.ensures

pub returns : goal.returns
returns c =
    let s = c in
    let f : ℕ → ℕ = fin_edge s.args.room.now s.args.words.now in
    c.loop-k.invariant ∙ ap (puts _ _) (take_all c.loop-k.k (map f s.args.fins.now) (omega (arith, length-map s.args.fins.now f)))
