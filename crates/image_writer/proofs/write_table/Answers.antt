-- `image_writer::write_table` meets its contract: the table's own words and floats hold its used records. Assumes nothing.
use Prim.Native.Nat.{ℕ, ◌+◌, ◌-◌}
use native.Mathlib.Omega.{arith}
use mathlib.Core.Path.{◌≡◌, ap, ap₂, ◌∙◌}
use mathlib.Core.List.{List}
use lib.Ieee.{Float}
use lib.ListN.{length, take, drop}
use Rattle.memory_layout.specs.Layout.{word, word_at, real_at}
use Rattle.memory_layout.specs.TableRows.{rest}
use Rattle.memory_layout.proofs.TableRows.{table-begins}
use Rattle.memory_writes.specs.Put.{over}
use Rattle.image_writer.specs.Rows.{rows_image}
use Rattle.image_writer.specs.Laws.{rows_of, table-image, ten-words}
use Rattle.image_writer.proofs.write_table.Goals as goal

pub bounds-words-k : goal.bounds-words-k
bounds-words-k c =
    let s = c in
    let b = ten-words s.args.room.now s.args.words.now s.args.reals.now s.requires.fit.sized in
    omega (arith, s.requires.k_bound)

pub word_at-from-requires : goal.word_at-from-requires
word_at-from-requires c = let s = c in record { small = s.requires.fit.sized.small; k_bound = (s.requires.k_bound, omega arith) }

pub real_at-floats-requires : goal.real_at-floats-requires
real_at-floats-requires c = let s = c in record { small = s.requires.fit.sized.small; k_bound = (s.requires.k_bound, omega arith) }

pub offset_bounds-words-from : goal.offset_bounds-words-from
offset_bounds-words-from c =
    let s = c in
    let b = table-begins s.args.room.now s.args.words.now s.args.reals.now s.args.k s.requires.fit.sized s.requires.k_bound in
    let e = c.word_at-from.ensures in
    let f = c.real_at-floats.ensures in
    record { fits = omega arith }

pub slice_bounds-write_rows-count : goal.slice_bounds-write_rows-count
slice_bounds-write_rows-count c =
    let s = c in
    let b = table-begins s.args.room.now s.args.words.now s.args.reals.now s.args.k s.requires.fit.sized s.requires.k_bound in
    let e = c.word_at-from.ensures in
    let f = c.real_at-floats.ensures in
    omega arith

pub slice_bounds-write_rows-start : goal.slice_bounds-write_rows-start
slice_bounds-write_rows-start c =
    let s = c in
    let b = table-begins s.args.room.now s.args.words.now s.args.reals.now s.args.k s.requires.fit.sized s.requires.k_bound in
    let e = c.word_at-from.ensures in
    let f = c.real_at-floats.ensures in
    omega arith

pub offset_bounds-reals-floats : goal.offset_bounds-reals-floats
offset_bounds-reals-floats c =
    let s = c in
    let b = table-begins s.args.room.now s.args.words.now s.args.reals.now s.args.k s.requires.fit.sized s.requires.k_bound in
    let e = c.word_at-from.ensures in
    let f = c.real_at-floats.ensures in
    record { fits = omega arith }

pub slice_bounds-write_rows-count-2 : goal.slice_bounds-write_rows-count-2
slice_bounds-write_rows-count-2 c =
    let s = c in
    let b = table-begins s.args.room.now s.args.words.now s.args.reals.now s.args.k s.requires.fit.sized s.requires.k_bound in
    let e = c.word_at-from.ensures in
    let f = c.real_at-floats.ensures in
    omega arith

pub slice_bounds-write_rows-start-2 : goal.slice_bounds-write_rows-start-2
slice_bounds-write_rows-start-2 c =
    let s = c in
    let b = table-begins s.args.room.now s.args.words.now s.args.reals.now s.args.k s.requires.fit.sized s.requires.k_bound in
    let e = c.word_at-from.ensures in
    let f = c.real_at-floats.ensures in
    omega arith

pub write_rows-requires : goal.write_rows-requires
write_rows-requires c =
    let s = c in
    let room = s.args.room.now in
    let w = s.args.words.now in
    let x = s.args.reals.now in
    let k = s.args.k in
    let at = c.word_at-from.result in
    let from = c.real_at-floats.result in
    let e : take (length w - at) (drop at w) ≡ drop (word_at room k 0) w = rest w at ∙ ap (λ (n : ℕ). drop n w) c.word_at-from.ensures in
    let f : take (length x - from) (drop from x) ≡ drop (real_at room k 0) x = rest x from ∙ ap (λ (n : ℕ). drop n x) c.real_at-floats.ensures in
    let m = ap₂ (λ (v : List ℕ) (y : List Float). rows_image k v y (word w k)) e f ∙ table-image room w x k in
    let l = ap length m in
    record { rows = rw (e, f) (rows_of room w x s.requires.fit k s.requires.k_bound); n_in_bounds = omega (arith, s.requires.k_in_bounds) }

pub returns : goal.returns
returns c =
    let s = c in
    let room = s.args.room.now in
    let w = s.args.words.now in
    let x = s.args.reals.now in
    let k = s.args.k in
    let at = c.word_at-from.result in
    let from = c.real_at-floats.result in
    let e : take (length w - at) (drop at w) ≡ drop (word_at room k 0) w = rest w at ∙ ap (λ (n : ℕ). drop n w) c.word_at-from.ensures in
    let f : take (length x - from) (drop from x) ≡ drop (real_at room k 0) x = rest x from ∙ ap (λ (n : ℕ). drop n x) c.real_at-floats.ensures in
    let m = ap₂ (λ (v : List ℕ) (y : List Float). rows_image k v y (word w k)) e f ∙ table-image room w x k in record { end = c.write_rows.ensures.end ∙ ap (λ (l : List ℕ). s.args.at + length l) m; written = c.write_rows.ensures.written ∙ ap (λ (l : List ℕ). over s.args.at l s.args.bytes.now) m }
