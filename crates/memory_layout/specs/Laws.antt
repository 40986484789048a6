-- Laws of the layout, over the table and the record. Assumes nothing.
use Rattle.std.specs.Prelude.{ℕ, zero, suc, ◌+◌, ◌*◌, ◌≤◌, ◌<◌, ◌≡◌, refl, true, ◌&&◌, List, [], ◌∷◌, leb, ltb, length, get_or, take, drop, Float}
use Rattle.std.proofs.Common.{zero-le, ap, inl, inr, le_of_eq, le_trans, lt_of_lt_of_le, eq-or-lt_of_le, mul-suc, mul-le-mul_left, mul-le-mul_right, arith, length-drop, length-take-le, leb-true, ltb-true}
use Rattle.geom_lines_planes.specs.Refuse.{◌unless◌, ◌then◌}
use Rattle.meaning.specs.Lists.{all_below}
use Rattle.meaning.specs.Edits.{precision_ok}
use Rattle.meaning.specs.Model.{edge}
use Rattle.meaning_list_laws.specs.Tests.{and_both, every-at, all_below-at, then-zero, unless-zero}
use Rattle.memory_layout.specs.Layout.{word_strides, real_strides, largest_tables, word, real, base, record_at, words_needed, reals_needed, words_of, reals_of}
use Rattle.memory_layout.specs.Decode.{list_at, decode}
use Rattle.memory_layout.specs.Readable.{own_ok, version_ok, record_ok, room_ok, counts_ok, table_ok, tables_ok, lent_ok, sized_ok, readable}
use Rattle.memory_layout.specs.Entries.{list_tables, list_places, list_limits, list_of, entry_refusal}
use Rattle.memory_layout.specs.Fit.{Small, Strides, Inside, Lent, Sized, Fit, Held, Lists}

-- ---- sizes, small enough that no sum outgrows a word

largest-le : (k : ℕ) → k < 10 → word largest_tables k ≤ 4096
unfolding all_below
largest-le k h = leb-true (word largest_tables k) 4096 (all_below-at (λ j. leb (word largest_tables j) 4096) 10 k refl h)

pub capacity-le : (room : List ℕ) → Small room → (k : ℕ) → k < 10 → word room k ≤ 4096
capacity-le room s k h = le_trans (s.small k h) (largest-le k h)

pub term-le : (strides room : List ℕ) → Strides strides → Small room → (k : ℕ) → k < 10 → word strides k * word room k ≤ 4202496
term-le strides room t s k h = le_trans (mul-le-mul_right (word room k) (t.small k h)) (mul-le-mul_left 1026 (capacity-le room s k h))

-- the records before the i-th
pub stride-le : (strides : List ℕ) → Strides strides → (k i : ℕ) → k < 10 → i ≤ 4096 → word strides k * i ≤ 4202496
stride-le strides t k i h g = le_trans (mul-le-mul_right i (t.small k h)) (mul-le-mul_left 1026 g)

pub base-le : (from : ℕ) (strides room : List ℕ) → Strides strides → Small room → (k : ℕ) → k ≤ 10 → base from strides room k ≤ from + 4202496 * k
unfolding base
base-le from strides room t s zero h = omega arith
base-le from strides room t s (suc k) h =
    let a = base-le from strides room t s k (omega arith) in
    let b = term-le strides room t s k (omega arith) in
    omega arith

-- ---- a record lies within the memory

pub base-mono : (from : ℕ) (strides room : List ℕ) (k n : ℕ) → k ≤ n → base from strides room k ≤ base from strides room n
unfolding base
base-mono from strides room k zero h = let e : k ≡ 0 = omega arith in le_of_eq (ap (base from strides room) e)
base-mono from strides room k (suc n) h = elim (eq-or-lt_of_le h) [
  | inl e ↦ le_of_eq (ap (base from strides room) e)
  | inr l ↦ let a = base-mono from strides room k n (omega arith) in omega arith
]

pub record-inside : (from : ℕ) (strides room : List ℕ) (k i : ℕ) → k < 10 → i < word room k
    → record_at from strides room k i + word strides k ≤ base from strides room 10
unfolding base
record-inside from strides room k i h g =
    let m : word strides k * suc i ≤ word strides k * word room k = mul-le-mul_left (word strides k) g in
    let e : word strides k * suc i ≡ word strides k * i + word strides k = mul-suc (word strides k) i in
    let b = base-mono from strides room (suc k) 10 (omega arith) in
    omega arith

pub words-strides : Strides word_strides
unfolding all_below
words-strides = record { small = λ k h. leb-true (word word_strides k) 1026 (all_below-at (λ j. leb (word word_strides j) 1026) 10 k refl h) }

pub reals-strides : Strides real_strides
unfolding all_below
reals-strides = record { small = λ k h. leb-true (word real_strides k) 1026 (all_below-at (λ j. leb (word real_strides j) 1026) 10 k refl h) }

-- ---- the first five tables have no floats
pub upper-words : (k : ℕ) (w : List ℕ) (x : List Float) → k < 5 → record_ok k w [] ≡ record_ok k w x
unfolding record_ok
upper-words zero w x h = refl
upper-words (suc zero) w x h = refl
upper-words (suc (suc zero)) w x h = refl
upper-words (suc (suc (suc zero))) w x h = refl
upper-words (suc (suc (suc (suc zero)))) w x h = refl
upper-words (suc (suc (suc (suc (suc k))))) w x h = absurd (omega arith)

-- ---- a record's words and floats

pub part_length : {A : Type 0} (l : List A) (at n : ℕ) → at + n ≤ length l → length (take n (drop at l)) ≡ n
part_length l at n h = length-take-le n (drop at l) (simp length-drop (omega arith))

-- the used counts and the version, and the precision, lie before the tables
pub before-tables : (from : ℕ) (strides room : List ℕ) (k : ℕ) → from ≤ base from strides room k
unfolding base
before-tables from strides room k = base-mono from strides room 0 k zero-le

-- ---- what the tests say

pub small_of : (room : List ℕ) → room_ok room ≡ true → Small room
unfolding room_ok
small_of room e = record { small = λ k h. leb-true (word room k) (word largest_tables k) (all_below-at (λ j. leb (word room j) (word largest_tables j)) 10 k e h) }

pub counts_of : (room w : List ℕ) → counts_ok room w ≡ true → (k : ℕ) → k < 10 → word w k ≤ word room k
unfolding counts_ok
counts_of room w e k h = leb-true (word w k) (word room k) (all_below-at (λ j. leb (word w j) (word room j)) 10 k e h)

-- the tests of the sizes, as facts
pub lent_of : (room w : List ℕ) (x : List Float) → lent_ok room w x ≡ true → Lent room w x
unfolding lent_ok
lent_of room w x e =
    let at : (k : ℕ) → get_or (room_ok room ∷ leb (words_needed room) (length w) ∷ leb (reals_needed room) (length x) ∷ []) k true ≡ true = every-at _ e in
    record {
      small = small_of room (at 0);
      words = leb-true (words_needed room) (length w) (at 1);
      reals = leb-true (reals_needed room) (length x) (at 2);
    }

pub sized_of : (room w : List ℕ) (x : List Float) → sized_ok room w x ≡ true → Sized room w x
unfolding sized_ok
sized_of room w x e =
    let a = and_both (lent_ok room w x) (counts_ok room w) e in
    let b = lent_of room w x a.0 in
    record { small = b.small; words = b.words; reals = b.reals; counts = counts_of room w a.1 }

-- record i of table k, where it is used
pub used-inside : (room w : List ℕ) (x : List Float) (k i : ℕ) → Sized room w x → k < 10 → i < word w k
    → Inside (words_needed room) (length w) room k i × Inside (reals_needed room) (length x) room k i
used-inside room w x k i s h g =
    let l : i < word room k = lt_of_lt_of_le g (s.counts k h) in
    (record { enough = s.words; table = h; slot = l }, record { enough = s.reals; table = h; slot = l })

-- the whole test, as facts
pub fit_of : (room w : List ℕ) (x : List Float) → readable room w x ≡ true → Fit room w x
unfolding readable tables_ok table_ok
fit_of room w x e =
    let a = and_both (sized_ok room w x && version_ok (word w 10) && precision_ok (real x 0)) (tables_ok room w x) e in
    let b = and_both (sized_ok room w x && version_ok (word w 10)) (precision_ok (real x 0)) a.0 in
    let c = and_both (sized_ok room w x) (version_ok (word w 10)) b.0 in
    record {
      sized = sized_of room w x c.0;
      version = c.1;
      precision = b.1;
      rows = λ k i h g.
          all_below-at (λ j. record_ok k (words_of room w k j) (reals_of room x k j)) (word w k) i (all_below-at (table_ok room w x) 10 k a.1 h) g;
    }

-- ---- the eight lists: each stands in one of the tables, and within its record at its longest

pub list-table : (j : ℕ) → j < 8 → word list_tables j < 10
unfolding all_below
list-table j h = ltb-true (word list_tables j) 10 (all_below-at (λ i. ltb (word list_tables i) 10) 8 j refl h)

pub list-room : (j : ℕ) → j < 8 → word list_places j + word list_limits j < word word_strides (word list_tables j)
unfolding all_below
list-room j h =
    ltb-true (word list_places j + word list_limits j) (word word_strides (word list_tables j))
    (all_below-at (λ i. ltb (word list_places i + word list_limits i) (word word_strides (word list_tables i))) 8 j refl h)

-- the record of a list, and the list in it
pub list_inside : (room w : List ℕ) (j i : ℕ) → Lists room w → j < 8 → i < word w (word list_tables j)
    → Inside (words_needed room) (length w) room (word list_tables j) i
list_inside room w j i f h g =
    record { enough = f.words; table = list-table j h; slot = lt_of_lt_of_le g (f.counts (word list_tables j) (list-table j h)) }

-- what a record's test says of its lists
pub short-list : (j : ℕ) (w : List ℕ) (x : List Float) → j < 8 → record_ok (word list_tables j) w x ≡ true → word w (word list_places j) ≤ word list_limits j
unfolding record_ok
short-list zero w x h e = leb-true (word w 2) 16 (and_both (leb (word w 0) 4 && leb (word w 1) 1) (leb (word w 2) 16) e).1
short-list (suc zero) w x h e = leb-true (word w 2) 16 (and_both (leb (word w 1) 1) (leb (word w 2) 16) e).1
short-list (suc (suc zero)) w x h e =
    leb-true (word w 1) 512 (and_both (leb (word w 1) 512) (leb (word w 514) 256) (and_both (leb (word w 1) 512 && leb (word w 514) 256) (leb (word w 771) 64) e).0).0
short-list (suc (suc (suc zero))) w x h e =
    leb-true (word w 514) 256 (and_both (leb (word w 1) 512) (leb (word w 514) 256) (and_both (leb (word w 1) 512 && leb (word w 514) 256) (leb (word w 771) 64) e).0).1
short-list (suc (suc (suc (suc zero)))) w x h e = leb-true (word w 771) 64 (and_both (leb (word w 1) 512 && leb (word w 514) 256) (leb (word w 771) 64) e).1
short-list (suc (suc (suc (suc (suc zero))))) w x h e =
    leb-true (word w 7) 16 (and_both (leb (word w 0) 1 && leb (word w 2) 1 && leb (word w 4) 1 && leb (word w 6) 1) (leb (word w 7) 16) e).1
short-list (suc (suc (suc (suc (suc (suc zero)))))) w x h e = leb-true (word w 1) 1024 e
short-list (suc (suc (suc (suc (suc (suc (suc zero))))))) w x h e =
    leb-true (word w 7) 8
    (and_both (leb (word w 0) 1 && leb (word w 2) 1 && leb (word w 4) 1 && leb (word w 6) 1) (leb (word w 7) 8)
    (and_both (leb (word w 0) 1 && leb (word w 2) 1 && leb (word w 4) 1 && leb (word w 6) 1 && leb (word w 7) 8) (own_ok (word w 6) (real x 0)) e).0).1
short-list (suc (suc (suc (suc (suc (suc (suc (suc j)))))))) w x h e = absurd (omega arith)

pub lists_of : (room w : List ℕ) (x : List Float) → Fit room w x → Lists room w
lists_of room w x f =
    record {
      small = f.sized.small;
      words = f.sized.words;
      counts = f.sized.counts;
      short = λ j i h g. short-list j (words_of room w (word list_tables j) i) (reals_of room x (word list_tables j) i) h (f.rows (word list_tables j) i (list-table j h) g);
    }

-- a used record's words lie within the lent words
pub words_inside : (room w : List ℕ) (k i : ℕ) → Lists room w → k < 10 → i < word w k → Inside (words_needed room) (length w) room k i
words_inside room w k i f h g = record { enough = f.words; table = h; slot = lt_of_lt_of_le g (f.counts k h) }

-- the precision is there
pub precision-there : (room w : List ℕ) (x : List Float) → Sized room w x → 1 ≤ length x
precision-there room w x s = le_trans (before-tables 1 real_strides room 10) s.reals

-- and so are the used counts and the version
pub version-there : (room w : List ℕ) → words_needed room ≤ length w → 11 ≤ length w
version-there room w n = le_trans (before-tables 11 word_strides room 10) n

-- an edge's fins, by the list's number
pub edge-fins : (room w : List ℕ) (x : List Float) (e : ℕ) → list_of room w 7 e ≡ (edge (decode room w x) e).fins
unfolding decode list_of
edge-fins room w x e = refl

-- a list that stands whole has as many entries as its length says
pub held-length : (w : List ℕ) (at : ℕ) → Held w at → length (list_at w at) ≡ word w at
unfolding list_at
held-length w at h = length-take-le (word w at) (drop (suc at) w) (simp length-drop (omega arith))

pub limit-le : (j : ℕ) → j < 8 → word list_limits j ≤ 1024
unfolding all_below
limit-le j h = leb-true (word list_limits j) 1024 (all_below-at (λ i. leb (word list_limits i) 1024) 8 j refl h)

-- an entry that is not refused
pub record Standing (room w : List ℕ) (x : List Float) (j i place : ℕ) : Type 0 where
  pub fit : Fit room w x
  pub list : j < 8
  pub record-there : i < word w (word list_tables j)
  pub entry : place < length (list_of room w j i)

pub entry-standing : (room w : List ℕ) (x : List Float) (j i place : ℕ) → entry_refusal room w x j i place ≡ 0 → Standing room w x j i place
unfolding entry_refusal
entry-standing room w x j i place e =
    let t : ℕ = word w (word list_tables j) in
    let n : ℕ = length (list_of room w j i) in
    let a = then-zero (9 unless readable room w x) (1 unless ltb j 8 then 2 unless ltb i t then 1 unless ltb place n) e in
    let b = then-zero (1 unless ltb j 8) (2 unless ltb i t then 1 unless ltb place n) a.1 in
    let c = then-zero (2 unless ltb i t) (1 unless ltb place n) b.1 in
    record {
      fit = fit_of room w x (unless-zero 8 (readable room w x) a.0);
      list = ltb-true j 8 (unless-zero 0 (ltb j 8) b.0);
      record-there = ltb-true i t (unless-zero 1 (ltb i t) c.0);
      entry = ltb-true place n (unless-zero 0 (ltb place n) c.1);
    }
