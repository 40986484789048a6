-- `stl_rows::append::append` meets its contract: the first slot that is not used, then its count. Assumes nothing.
use Prim.Native.Nat.{◌+◌}
use native.Mathlib.Omega.{arith}
use mathlib.Core.Path.{sym, ap, ◌∙◌}
use lib.ListN.{set}
use Rattle.memory_layout.specs.Layout.{word}
use Rattle.memory_writes.specs.Put.{put_words, new_words, counted}
use Rattle.stl_rows.specs.Rows.{appended_words}
use Rattle.stl_rows.specs.Laws.{stored-count}
use Rattle.stl_rows.proofs.append.append.Goals as goal

pub bounds-words-k : goal.bounds-words-k
bounds-words-k c = let p = c.requires.space in omega (arith, p.table, p.long)

pub overflow_cast-used : goal.overflow_cast-used
overflow_cast-used c =
    let s = c in
    omega (arith, s.requires.space.slots, s.requires.space.few)

pub put_new-requires : goal.put_new-requires
put_new-requires c =
    let p = c.requires in
    record { small = p.space.small; inside = record { enough = p.space.words; table = p.space.table; slot = omega (arith, p.space.slots) }; a_len_bound = p.row_len_bound }

pub overflow_add-words : goal.overflow_add-words
overflow_add-words c =
    let p = c.requires.space in
    record { fits = omega (arith, p.slots, p.few) }

pub bounds-words-k-2 : goal.bounds-words-k-2
bounds-words-k-2 c = let p = c.requires.space in omega (arith, p.table, p.long)

pub returns : goal.returns
unfolding appended_words counted
returns c =
    let s = c in
    let room = s.args.room.now in
    let w = s.args.words.now in
    let k = s.args.k in
    let f = s.args.row.now in
    ap (λ l. set l k (word w k + 1)) c.put_new.ensures ∙ ap (λ n. set (put_words room k (word w k) (new_words k f) w) k (n + 1)) (sym (stored-count room w f k s.requires.space s.requires.row_len_bound))
