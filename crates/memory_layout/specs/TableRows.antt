-- A table's records as parts of the table's own words and floats, one behind the other: so `readable` goes through them. No reader of a public promise
-- needs this file. Assumes nothing.
use Rattle.std.specs.Prelude.{ℕ, suc, ◌+◌, ◌*◌, ◌-◌, ◌≤◌, ◌<◌, ◌≡◌, Bool, List, Float, length, take, drop}
use Rattle.std.proofs.Common.{mul-suc, mul-le-mul_left, arith, length-drop, length-take-le, take_all, drop-drop}
use Rattle.meaning.specs.Lists.{all_below}
use Rattle.memory_layout.specs.Layout.{word_strides, real_strides, word, base, record_at, word_at, real_at, words_of, reals_of}
use Rattle.memory_layout.specs.Readable.{record_ok, table_ok}
use Rattle.memory_layout.specs.Laws.{base-mono}

-- the i-th part of n entries
unfoldable pub row : {A : Type 0} → List A → ℕ → ℕ → List A
row l n i = take n (drop (n * i) l)

-- the words and the floats hold n records of table k
pub record TableRows (k n : ℕ) (w : List ℕ) (x : List Float) : Type 0 where
  pub table : k < 10
  pub few : n ≤ 4096
  pub words : word word_strides k * n ≤ length w
  pub reals : word real_strides k * n ≤ length x

-- every one of them passes
unfoldable pub rows_ok : ℕ → ℕ → List ℕ → List Float → Bool
rows_ok k n w x = all_below (λ i. record_ok k (row w (word word_strides k) i) (row x (word real_strides k) i)) n

-- ---- laws

pub row_inside : (n i m long : ℕ) → i < m → n * m ≤ long → n * i + n ≤ long
row_inside n i m long h g =
    let e : n * suc i ≤ n * m = mul-le-mul_left n h in
    let f : n * suc i ≡ n * i + n = mul-suc n i in
    omega arith

pub row-length : {A : Type 0} (l : List A) (n i : ℕ) → n * i + n ≤ length l → length (row l n i) ≡ n
unfolding row
row-length l n i h = length-take-le n (drop (n * i) l) (simp length-drop (omega arith))

-- all that stands from a place on
pub rest : {A : Type 0} (l : List A) (n : ℕ) → take (length l - n) (drop n l) ≡ drop n l
rest l n = take_all (length l - n) (drop n l) (simp length-drop (omega arith))

-- a table's part of the memory has room for its used records
pub rows_fit : {A : Type 0} (l : List A) (from : ℕ) (strides room : List ℕ) (k n : ℕ) → k < 10 → n ≤ word room k → base from strides room 10 ≤ length l
    → (record_at from strides room k 0 ≤ length l) × (word strides k * n ≤ length (drop (record_at from strides room k 0) l))
unfolding base
rows_fit l from strides room k n h g f =
    let m : word strides k * n ≤ word strides k * word room k = mul-le-mul_left (word strides k) g in
    let b = base-mono from strides room (suc k) 10 (omega arith) in
    (omega arith, simp length-drop (omega arith))

pub words_row : (room w : List ℕ) (k i : ℕ) → row (drop (word_at room k 0) w) (word word_strides k) i ≡ words_of room w k i
unfolding row words_of
words_row room w k i = let e : word_at room k 0 + word word_strides k * i ≡ word_at room k i = omega arith in rw (drop-drop, e)

pub reals-row : (room : List ℕ) (x : List Float) (k i : ℕ) → row (drop (real_at room k 0) x) (word real_strides k) i ≡ reals_of room x k i
unfolding row reals_of
reals-row room x k i = let e : real_at room k 0 + word real_strides k * i ≡ real_at room k i = omega arith in rw (drop-drop, e)

pub rows-table : (room w : List ℕ) (x : List Float) (k : ℕ) → rows_ok k (word w k) (drop (word_at room k 0) w) (drop (real_at room k 0) x) ≡ table_ok room w x k
unfolding rows_ok table_ok
rows-table room w x k = simp (words_row, reals-row)
