-- One law for every insert and edit: a write into one record leaves all others, the used counts, the version and the precision as they were. Assumes nothing.
use Prim.Native.Nat.{ℕ, suc, ◌+◌, ◌*◌, ◌≤◌, ◌<◌}
use Rattle.std.proofs.Common.{ap, ◌∙◌, subst, inl, inr, length-set, get_or-set_same, get_or-set_other, drop-set-lt}
use Rattle.std.proofs.Math.Nat.{mul-suc, mul-le-mul_left}
use native.Mathlib.Omega.{arith}
use Rattle.std.proofs.Math.Decide.{dec_lt}
use Rattle.std.specs.Prelude.{◌≡◌, ◌⊎◌, List, length, get_or, take, drop, replicate, Float}
use Rattle.std.proofs.lemmas.List.{length-replicate}
use Rattle.std.specs.Float.Ieee.{nan}
use Rattle.memory_layout.specs.Layout.{word_strides, real_strides, word, real, base, record_at, word_at, words_needed, reals_needed, words_of, reals_of}
use Rattle.memory_layout.specs.Fit.{Inside}
use Rattle.memory_layout.specs.Laws.{base-mono, record-inside, before-tables}
use Rattle.memory_writes.specs.Put.{over, put_words, put_reals, new_words, counted}
use Rattle.memory_writes.specs.Over.{length_over, part-before, part-behind, part-written, entry-before}

-- ---- one memory, of words or of floats: `from` entries, then the tables

module _ (from : ℕ) (strides room : List ℕ) where
  earlier-table : (k i m j : ℕ) → i < word room k → k < m → record_at from strides room k i + word strides k ≤ record_at from strides room m j
  unfolding base
  earlier-table k i m j h l =
      let a : word strides k * suc i ≤ word strides k * word room k = mul-le-mul_left (word strides k) h in
      let e = mul-suc (word strides k) i in
      let b = base-mono from strides room (suc k) m l in
      omega arith

  earlier-record : (k i j : ℕ) → i < j → record_at from strides room k i + word strides k ≤ record_at from strides room k j
  earlier-record k i j l =
      let a : word strides k * suc i ≤ word strides k * j = mul-le-mul_left (word strides k) l in
      let e = mul-suc (word strides k) i in
      omega arith

  -- two records lie apart
  records-apart : (k i m j : ℕ) → i < word room k → j < word room m → (k ≡ m → i ≡ j → ⊥)
      → (record_at from strides room k i + word strides k ≤ record_at from strides room m j) ⊎ (record_at from strides room m j + word strides m ≤ record_at from strides room k i)
  records-apart k i m j h g else = elim (dec_lt k m) [
    | yes l ↦ inl (earlier-table k i m j h l)
    | no a ↦ elim (dec_lt m k) [
      | yes l ↦ inr (earlier-table m j k i g l)
      | no b ↦ same-table m (omega arith) else
    ]
  ]
    where
      same-table : (n : ℕ) → k ≡ n → (k ≡ n → i ≡ j → ⊥)
          → (record_at from strides room k i + word strides k ≤ record_at from strides room n j) ⊎ (record_at from strides room n j + word strides n ≤ record_at from strides room k i)
      same-table n e f =
          subst (λ (n : ℕ). (record_at from strides room k i + word strides k ≤ record_at from strides room n j) ⊎ (record_at from strides room n j + word strides n ≤ record_at from strides room k i))
          e (in_order (f e))
        where
          in_order : (i ≡ j → ⊥)
              → (record_at from strides room k i + word strides k ≤ record_at from strides room k j) ⊎ (record_at from strides room k j + word strides k ≤ record_at from strides room k i)
          in_order f = elim (dec_lt i j) [
            | yes l ↦ inl (earlier-record k i j l)
            | no a ↦ elim (dec_lt j i) [
              | yes l ↦ inr (earlier-record k j i l)
              | no b ↦ absurd (f (omega arith))
            ]
          ]

  module _ {A : Type 0} (l r : List A) (k i : ℕ) (inside : Inside (base from strides room 10) (length l) room k i) (whole : length r ≡ word strides k) where
    fits : record_at from strides room k i + length r ≤ length l
    fits = let a = record-inside from strides room k i inside.table inside.slot in omega (arith, inside.enough)

    pub length-put : length (over (record_at from strides room k i) r l) ≡ length l
    length-put = length_over (record_at from strides room k i) r l fits

    pub put-there : take (word strides k) (drop (record_at from strides room k i) (over (record_at from strides room k i) r l)) ≡ r
    put-there = let f = fits in part-written (record_at from strides room k i) (word strides k) r l whole (omega arith)

    pub put-elsewhere : (m j : ℕ) → j < word room m → (k ≡ m → i ≡ j → ⊥)
        → take (word strides m) (drop (record_at from strides room m j) (over (record_at from strides room k i) r l))
        ≡ take (word strides m) (drop (record_at from strides room m j) l)
    put-elsewhere m j h else =
        let f = fits in
        elim (records-apart k i m j inside.slot h else) [
          | inl b ↦ part-behind (record_at from strides room k i) (record_at from strides room m j) (word strides m) r l (omega arith) f
          | inr b ↦ part-before (record_at from strides room k i) (record_at from strides room m j) (word strides m) r l b (omega arith)
        ]

    pub put-before : (q : ℕ) (d : A) → q < from → get_or (over (record_at from strides room k i) r l) q d ≡ get_or l q d
    put-before q d h =
        let f = fits in
        let b = before-tables from strides room k in
        entry-before (record_at from strides room k i) q r l d (omega arith) (omega arith)

-- ---- the lent memory

-- the words w' and floats x' have another record i of table k, and else read as w and x
pub record Elsewhere (room w w' : List ℕ) (x x' : List Float) (k i : ℕ) : Type 0 where
  pub words_long : length w' ≡ length w
  pub reals-long : length x' ≡ length x
  pub version : word w' 10 ≡ word w 10
  pub precision : real x' 0 ≡ real x 0
  pub words : (m j : ℕ) → j < word room m → (k ≡ m → i ≡ j → ⊥) → words_of room w' m j ≡ words_of room w m j
  pub reals : (m j : ℕ) → j < word room m → (k ≡ m → i ≡ j → ⊥) → reals_of room x' m j ≡ reals_of room x m j

module _ (room w r : List ℕ) (x s : List Float) (k i : ℕ) (a : Inside (words_needed room) (length w) room k i) (b : Inside (reals_needed room) (length x) room k i)
    (words-whole : length r ≡ word word_strides k) (reals-whole : length s ≡ word real_strides k) where
  pub elsewhere : Elsewhere room w (put_words room k i r w) x (put_reals room k i s x) k i
  unfolding put_words put_reals words_of reals_of
  elsewhere =
      record {
        words_long = length-put 11 word_strides room w r k i a words-whole;
        reals-long = length-put 1 real_strides room x s k i b reals-whole;
        version = put-before 11 word_strides room w r k i a words-whole 10 0 (omega arith);
        precision = put-before 1 real_strides room x s k i b reals-whole 0 nan (omega arith);
        words = put-elsewhere 11 word_strides room w r k i a words-whole;
        reals = put-elsewhere 1 real_strides room x s k i b reals-whole;
      }

  pub words-there : words_of room (put_words room k i r w) k i ≡ r
  unfolding put_words words_of
  words-there = put-there 11 word_strides room w r k i a words-whole

  pub reals-there : reals_of room (put_reals room k i s x) k i ≡ s
  unfolding put_reals reals_of
  reals-there = put-there 1 real_strides room x s k i b reals-whole

  pub counts-kept : (q : ℕ) → q < 10 → word (put_words room k i r w) q ≡ word w q
  unfolding put_words
  counts-kept q h = put-before 11 word_strides room w r k i a words-whole q 0 (omega arith)

-- a new record's words are a whole record's
pub new-length : (k : ℕ) (f : List ℕ) → length f ≤ word word_strides k → length (new_words k f) ≡ word word_strides k
unfolding new_words
new-length k f h =
    let z : List ℕ = replicate (word word_strides k) 0 in
    let e : length z ≡ word word_strides k = length-replicate (word word_strides k) 0 in
    length_over 0 f z (omega arith) ∙ e

-- ---- one record more: no record's words hold a used count

pub counted_words : (room w : List ℕ) (k m j : ℕ) → k < 10 → words_of room (counted k w) m j ≡ words_of room w m j
unfolding counted words_of
counted_words room w k m j h =
    let b = before-tables 11 word_strides room m in
    ap (take (word word_strides m)) (drop-set-lt (word_at room m j) w k (word w k + 1) (omega arith))

pub counted-long : (w : List ℕ) (k : ℕ) → length (counted k w) ≡ length w
unfolding counted
counted-long w k = length-set w k (word w k + 1)

pub counted-there : (w : List ℕ) (k : ℕ) → k < length w → word (counted k w) k ≡ word w k + 1
unfolding counted
counted-there w k h = get_or-set_same w k (word w k + 1) 0 h

pub counted-else : (w : List ℕ) (k m : ℕ) → (m ≡ k → ⊥) → word (counted k w) m ≡ word w m
unfolding counted
counted-else w k m e = get_or-set_other w k m (word w k + 1) 0 e
