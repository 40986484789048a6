-- Laws of a pass over the records of a table. Assumes nothing.
use Prim.Native.Nat.{ℕ, zero, suc, ◌+◌, ◌≤◌, ◌<◌}
use Rattle.std.proofs.Common.{zero-add, lt_of_lt_of_le, add-one, sym, ap, ◌∙◌}
use native.Mathlib.Omega.{arith}
use Rattle.std.specs.Prelude.{◌≡◌, Bool, cond, List, length}
use Rattle.std.proofs.Math.Path.{refl}
use Rattle.memory_layout.specs.Layout.{word_strides, word, words_needed, words_of}
use Rattle.memory_layout.specs.Fit.{Inside}
use Rattle.memory_layout.proofs.Laws.{words-length}
use Rattle.memory_writes.specs.Put.{put_words}
use Rattle.memory_writes.specs.Over.{length_over}
use Rattle.memory_writes.specs.Frame.{length-put, put-elsewhere, put-before}
use Rattle.split_lists.specs.Beside.{entries_for, doubled}
use Rattle.split_lists.specs.BesideFacts.{Longer}
use Rattle.split_lists.specs.Pass.{put_all, doubled_at}
use Rattle.split_lists.specs.Facts.{Roomy}

-- ---- a pass: the records written, and all others

module _ (room : List ℕ) (k from : ℕ) (r : ℕ → List ℕ) (w : List ℕ) (table : k < 10) (enough : words_needed room ≤ length w) where
  pub all-long : (n : ℕ) → from + n ≤ word room k → ((j : ℕ) → j < n → length (r j) ≡ word word_strides k) → length (put_all room k from r n w) ≡ length w
  unfolding put_all put_words
  all-long zero s h = refl
  all-long (suc n) s h =
      let l = all-long n (omega arith) (λ j g. h j (omega arith)) in
      length-put 11 word_strides room (put_all room k from r n w) (r n) k (from + n) (record { enough = omega arith; table = table; slot = omega arith }) (h n (omega arith)) ∙ l

  module _ (n : ℕ) (s : from + suc n ≤ word room k) (h : (j : ℕ) → j < suc n → length (r j) ≡ word word_strides k) where
    fits : Inside (words_needed room) (length (put_all room k from r n w)) room k (from + n)
    fits = let l = all-long n (omega arith) (λ j g. h j (omega arith)) in record { enough = omega arith; table = table; slot = omega arith }

  pub all-else : (n : ℕ) → from + n ≤ word room k → ((j : ℕ) → j < n → length (r j) ≡ word word_strides k) → (m j : ℕ) → j < word room m
      → (k ≡ m → (i : ℕ) → i < n → from + i ≡ j → ⊥) → words_of room (put_all room k from r n w) m j ≡ words_of room w m j
  unfolding put_all put_words words_of
  all-else zero s h m j g e = refl
  all-else (suc n) s h m j g e =
      put-elsewhere 11 word_strides room (put_all room k from r n w) (r n) k (from + n) (fits n s h) (h n (omega arith)) m j g (λ d f. e d n (omega arith) f)
      ∙ all-else n (omega arith) (λ i l. h i (omega arith)) m j g (λ d i l f. e d i (omega arith) f)

  pub all-counts : (n : ℕ) → from + n ≤ word room k → ((j : ℕ) → j < n → length (r j) ≡ word word_strides k) → (q : ℕ) → q < 11
      → word (put_all room k from r n w) q ≡ word w q
  unfolding put_all put_words
  all-counts zero s h q g = refl
  all-counts (suc n) s h q g =
      put-before 11 word_strides room (put_all room k from r n w) (r n) k (from + n) (fits n s h) (h n (omega arith)) q 0 g
      ∙ all-counts n (omega arith) (λ i l. h i (omega arith)) q g

pub pass-turn : (room : List ℕ) (k : ℕ) (r : ℕ → List ℕ) (w : List ℕ) (i : ℕ) → put_words room k i (r i) (put_all room k 0 r i w) ≡ put_all room k 0 r (i + 1) w
unfolding put_all
pass-turn room k r w i = sym (ap (λ (n : ℕ). put_all room k 0 r n w) (add-one i) ∙ ap (λ (n : ℕ). put_words room k n (r i) (put_all room k 0 r i w)) (zero-add i))

-- ---- lists written anew

pub length-doubled : (f : ℕ → List ℕ) (at : ℕ) (r : List ℕ) → Longer r at f → length (doubled f at r) ≡ length r
unfolding doubled
length-doubled f at r l = let g = l.room in length_over at _ r (omega arith)

module _ (room w : List ℕ) (k place n : ℕ) (olds owners senses : List ℕ) (own : Bool) (first : ℕ) (f : Roomy room w k place n olds owners senses own first) where
  pub inside_of : (i : ℕ) → i < n → Inside (words_needed room) (length w) room k i
  inside_of i h = record { enough = f.enough; table = f.table; slot = lt_of_lt_of_le h f.slots }

  pub each-whole : (i : ℕ) → i < n → length (doubled_at room w k place olds owners senses own first i) ≡ word word_strides k
  unfolding doubled_at
  each-whole i h = length-doubled (entries_for olds owners senses (cond own i 0) first) place (words_of room w k i) (f.each i h) ∙ words-length room w k i (inside_of i h)

  pub pass-long : (i : ℕ) → i ≤ n → length (put_all room k 0 (doubled_at room w k place olds owners senses own first) i w) ≡ length w
  pass-long i h =
      let s = f.slots in
      all-long room k 0 (doubled_at room w k place olds owners senses own first) w f.table f.enough i (omega arith) (λ j g. each-whole j (omega arith))

  -- the next record is still as it was
  pub pass-next : (i : ℕ) → i < n → words_of room (put_all room k 0 (doubled_at room w k place olds owners senses own first) i w) k i ≡ words_of room w k i
  pass-next i h =
      let s = f.slots in
      all-else room k 0 (doubled_at room w k place olds owners senses own first) w f.table f.enough i (omega arith) (λ j g. each-whole j (omega arith)) k i (omega arith)
      (λ d j g e. omega arith)
