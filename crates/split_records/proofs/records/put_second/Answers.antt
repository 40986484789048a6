use Prim.Native.Nat.{◌+◌}
use lib.ListN.{take}
use Rattle.split_pieces.specs.Laws.{edge-inside, edge-long, second-part, second-long}
use Rattle.split_pieces.specs.Pieces.{second_put, second_fields}
use Rattle.memory_writes.specs.Put.{over, put_words}
use Rattle.memory_layout.specs.Layout.{word, words_of}
use lib.ListN.{length}
use mathlib.Core.Path.{sym, ap, ◌∙◌}
use native.Mathlib.Nat.{le_refl, le_of_lt, lt_of_lt_of_le}
use lib.Dec.{lit<}
use native.Mathlib.Omega.{arith}
use borrow.Author.Rules.{rules}
use Rattle.split_records.proofs.records.put_second.Goals as goal

pub bounds-words-6 : goal.bounds-words-6
bounds-words-6 c = lt_of_lt_of_le (lit< tt) c.requires.slots.counts

pub bounds-words-7 : goal.bounds-words-7
bounds-words-7 c = lt_of_lt_of_le (lit< tt) c.requires.slots.counts

pub bounds-words-5 : goal.bounds-words-5
bounds-words-5 c = lt_of_lt_of_le (lit< tt) c.requires.slots.counts

pub words_of-requires : goal.words_of-requires
words_of-requires c =
    let s = c in
    record { small = s.requires.slots.small; inside = edge-inside s.args.room.now s.args.words.now s.args.n s.requires.slots s.args.edge (le_of_lt s.requires.edge_bound) }

pub second_room-half-requires : goal.second_room-half-requires
second_room-half-requires c =
    let s = c in
    let n = ap length c.words_of.ensures ∙ edge-long s.args.room.now s.args.words.now s.args.n s.requires.slots s.args.edge (le_of_lt s.requires.edge_bound) in
    let f = s.requires.slots.fins in
    let m = s.requires.slots.most-fins in
    (n, omega arith)

pub slice_bounds-put_words-end : goal.slice_bounds-put_words-end
slice_bounds-put_words-end c =
    let s = c in
    let e = ap (λ l. take (8 + s.args.n) l) c.second_room-half.ensures ∙ second-part _ _ _ s.args.n s.requires.slots.few in
    let l = ap length e ∙ second-long _ _ _ s.args.n in
    sym l

pub put_words-requires : goal.put_words-requires
put_words-requires c =
    let s = c in
    let e = ap (λ l. take (8 + s.args.n) l) c.second_room-half.ensures ∙ second-part _ _ _ s.args.n s.requires.slots.few in
    let l = ap length e ∙ second-long _ _ _ s.args.n in
    let f = s.requires.slots.few in
    record { small = s.requires.slots.small; inside = edge-inside s.args.room.now s.args.words.now s.args.n s.requires.slots (word s.args.words.now 6) (le_refl _); a_bound = omega arith }

pub returns : goal.returns
unfolding second_put
returns c =
    let s = c in
    let room = s.args.room.now in
    let w = s.args.words.now in
    let e = ap (λ l. take (8 + s.args.n) l) c.second_room-half.ensures ∙ second-part _ _ _ s.args.n s.requires.slots.few in
    c.put_words.ensures
    ∙ ap (λ l. put_words room 6 (word w 6) (over 0 l (words_of room w 6 (word w 6))) w)
    (e ∙ ap (λ l. second_fields l (word w 7) (word w 5) s.args.n) c.words_of.ensures)
