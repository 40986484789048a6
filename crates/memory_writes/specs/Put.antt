-- A record written into the lent memory. Definitions only.
use Rattle.std.specs.Prelude.{ℕ, zero, suc, ◌+◌, List, ◌++◌, length, take, drop, set, replicate, Float}
use Rattle.memory_layout.specs.Layout.{word_strides, word, word_at, real_at}

-- a list with the entries a in place of those that stand from a place on: for use where they fit
unfoldable pub over : {A : Type 0} → ℕ → List A → List A → List A
over at a l = take at l ++ a ++ drop (at + length a) l

-- the words with r as those of record i of table k, and the floats likewise
unfoldable pub put_words : List ℕ → ℕ → ℕ → List ℕ → List ℕ → List ℕ
put_words room k i r w = over (word_at room k i) r w

unfoldable pub put_reals : List ℕ → ℕ → ℕ → List Float → List Float → List Float
put_reals room k i s x = over (real_at room k i) s x

-- a new record's words: its fields, and behind them zeros (01, "Inserts take empty lists")
unfoldable pub new_words : ℕ → List ℕ → List ℕ
new_words k f = over 0 f (replicate (word word_strides k) 0)

-- one record more in table k
unfoldable pub counted : ℕ → List ℕ → List ℕ
counted k w = set w k (word w k + 1)

-- 01, "A refusal .. alters no table": what stands where the number is 0, and what stood before
abbrev pub unless_refused : {A : Type 0} → ℕ → A → A → A
unless_refused zero new old = new
unless_refused (suc n) new old = old
