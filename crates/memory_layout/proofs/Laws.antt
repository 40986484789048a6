-- Theorems that rest on those of specs/Laws.antt, and are proved by them. Assumes nothing.
use Rattle.std.specs.Prelude.{ℕ, ◌≤◌, ◌<◌, ◌≡◌, List, length, Float}
use Rattle.std.proofs.Common.{le_trans, arith}
use Rattle.memory_layout.specs.Layout.{word_strides, real_strides, word, word_at, real_at, words_needed, reals_needed, words_of, reals_of}
use Rattle.memory_layout.specs.Entries.{list_tables, list_places, list_limits, list_of}
use Rattle.memory_layout.specs.Fit.{Inside, Held, Lists}
use Rattle.memory_layout.specs.Laws.{part_length, record-inside, list-room, list_inside}
use Rattle.memory_layout.specs.Laws.{held-length}

pub words-length : (room w : List ℕ) (k i : ℕ) → Inside (words_needed room) (length w) room k i → length (words_of room w k i) ≡ word word_strides k
unfolding words_of
words-length room w k i h =
    part_length w (word_at room k i) (word word_strides k) (le_trans (record-inside 11 word_strides room k i h.table h.slot) h.enough)

pub reals-length : (room : List ℕ) (x : List Float) (k i : ℕ) → Inside (reals_needed room) (length x) room k i → length (reals_of room x k i) ≡ word real_strides k
unfolding reals_of
reals-length room x k i h =
    part_length x (real_at room k i) (word real_strides k) (le_trans (record-inside 1 real_strides room k i h.table h.slot) h.enough)

pub list_held : (room w : List ℕ) (j i : ℕ) → Lists room w → j < 8 → i < word w (word list_tables j)
    → Held (words_of room w (word list_tables j) i) (word list_places j)
list_held room w j i f h g =
    let n = words-length room w (word list_tables j) i (list_inside room w j i f h g) in
    let r = list-room j h in
    let s = f.short j i h g in
    record { place = omega arith; whole = omega arith }

-- and no more than its limit
pub listed_le : (room w : List ℕ) (j i : ℕ) → Lists room w → j < 8 → i < word w (word list_tables j) → length (list_of room w j i) ≤ word list_limits j
unfolding list_of
listed_le room w j i f h g =
    let e = held-length (words_of room w (word list_tables j) i) (word list_places j) (list_held room w j i f h g) in
    let s = f.short j i h g in
    omega arith
