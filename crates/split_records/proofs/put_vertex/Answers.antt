use mathlib.Core.List.{[], ◌∷◌}
use Rattle.memory_writes.specs.Put.{put_words}
use Rattle.memory_layout.specs.Layout.{word}
use Rattle.split_pieces.specs.Laws.{edge-inside, edge-long, vertex-inside, vertex-whole}
use Rattle.split_pieces.specs.Pieces.{vertex_put}
use lib.ListN.{length}
use mathlib.Core.Path.{refl, sym, ap, ◌∙◌, subst}
use Prim.Native.Nat.{ℕ, ◌<◌}
use native.Mathlib.Nat.{le_of_lt, lt_of_lt_of_le}
use lib.Dec.{lit<, lit≤}
use borrow.Author.Rules.{rules}
use Rattle.split_records.proofs.put_vertex.Goals as goal

pub bounds-words-7 : goal.bounds-words-7
bounds-words-7 c = lt_of_lt_of_le (lit< tt) c.requires.slots.counts

pub words_of-w-requires : goal.words_of-w-requires
words_of-w-requires c =
    let s = c in
    record { small = s.requires.slots.small; inside = edge-inside s.args.room.now s.args.words.now 0 s.requires.slots s.args.edge (le_of_lt s.requires.edge_bound) }

pub bounds-w-6 : goal.bounds-w-6
bounds-w-6 c =
    let s = c in
    let n = ap length c.words_of-w.ensures ∙ edge-long s.args.room.now s.args.words.now 0 s.requires.slots s.args.edge (le_of_lt s.requires.edge_bound) in
    subst (λ (m : ℕ). 6 < m) (sym n) (lit< tt)

pub slice_bounds-put_words-end : goal.slice_bounds-put_words-end
slice_bounds-put_words-end c = refl

pub put_words-requires : goal.put_words-requires
put_words-requires c =
    let s = c in
    record { small = s.requires.slots.small; inside = vertex-inside s.args.room.now s.args.words.now 0 s.requires.slots; a_bound = lit≤ tt }

pub returns : goal.returns
unfolding vertex_put
returns c =
    let s = c in
    let room = s.args.room.now in
    let w = s.args.words.now in
    c.put_words.ensures
    ∙ ap (λ r. put_words room 7 (word w 7) r w)
    (vertex-whole room w 0 s.requires.slots (word c.words_of-w.result.now 6) ∙ ap (λ l. word l 6 ∷ []) c.words_of-w.ensures)
