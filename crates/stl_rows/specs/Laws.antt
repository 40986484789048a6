-- One record more in a table, and n of them: what reads the same, and what reads as written. Assumes nothing.
use Prim.Native.Nat.{ℕ, zero, suc, ◌+◌, ◌≤◌, ◌<◌}
use Rattle.std.proofs.Common.{add-zero, add-one, sym, ◌∙◌, take-suc-set}
use native.Mathlib.Omega.{arith}
use Rattle.std.specs.Prelude.{◌≡◌, refl, List, [], ◌∷◌, ◌++◌, take, set, Float}
use Rattle.std.proofs.Math.Path.{ap}
use Rattle.std.proofs.Math.ListN.{length}
use Rattle.meaning.specs.Lists.{run}
use Rattle.memory_layout.specs.Layout.{word_strides, word, words_needed, words_of}
use Rattle.memory_layout.specs.Fit.{Small, Inside}
use Rattle.memory_layout.specs.Laws.{capacity-le, version-there}
use Rattle.memory_writes.specs.Put.{put_words, put_reals, new_words}
use Rattle.memory_writes.specs.Over.{over_none}
use Rattle.memory_writes.specs.Frame.{length-put, put-there, put-elsewhere, put-before, new-length, counted_words, counted-long, counted-there, counted-else}
use Rattle.stl_rows.specs.Rows.{appended_words, words_behind, reals_behind, body_row, loop_row, no_floats}
use Rattle.stl_rows.specs.Facts.{Space, Grown}

pub space : (room w : List ℕ) (k n : ℕ) → Small room → words_needed room ≤ length w → k < 10 → word w k + n ≤ word room k → Space room w k n
space room w k n s l t h = record { small = s; words = l; long = version-there room w l; table = t; slots = h; few = capacity-le room s k t }

-- ---- one record more

module _ (room w f : List ℕ) (k : ℕ) (s : Space room w k 1) (short : length f ≤ word word_strides k) where
  inside : Inside (words_needed room) (length w) room k (word w k)
  inside = record { enough = s.words; table = s.table; slot = omega (arith, s.slots) }

  whole : length (new_words k f) ≡ word word_strides k
  whole = new-length k f short

  put-long : length (put_words room k (word w k) (new_words k f) w) ≡ length w
  unfolding put_words
  put-long = length-put 11 word_strides room w (new_words k f) k (word w k) inside whole

  put-counts : (q : ℕ) → q < 11 → word (put_words room k (word w k) (new_words k f) w) q ≡ word w q
  unfolding put_words
  put-counts q h = put-before 11 word_strides room w (new_words k f) k (word w k) inside whole q 0 h

  put-old : (m j : ℕ) → j < word room m → (k ≡ m → word w k ≡ j → ⊥) → words_of room (put_words room k (word w k) (new_words k f) w) m j ≡ words_of room w m j
  unfolding put_words words_of
  put-old m j h else = put-elsewhere 11 word_strides room w (new_words k f) k (word w k) inside whole m j h else

  put-new : words_of room (put_words room k (word w k) (new_words k f) w) k (word w k) ≡ new_words k f
  unfolding put_words words_of
  put-new = put-there 11 word_strides room w (new_words k f) k (word w k) inside whole

  pub appended-long : length (appended_words room k f w) ≡ length w
  unfolding appended_words
  appended-long = counted-long (put_words room k (word w k) (new_words k f) w) k ∙ put-long

  pub appended-count : word (appended_words room k f w) k ≡ word w k + 1
  unfolding appended_words
  appended-count =
      let l = put-long in
      let a = s.long in
      let b = s.table in
      counted-there (put_words room k (word w k) (new_words k f) w) k (omega arith) ∙ ap (λ n. n + 1) (put-counts k (omega arith))

  pub appended-else : (q : ℕ) → q < 11 → (q ≡ k → ⊥) → word (appended_words room k f w) q ≡ word w q
  unfolding appended_words
  appended-else q h e = counted-else (put_words room k (word w k) (new_words k f) w) k q e ∙ put-counts q h

  pub appended-old : (m j : ℕ) → j < word room m → (k ≡ m → word w k ≡ j → ⊥) → words_of room (appended_words room k f w) m j ≡ words_of room w m j
  unfolding appended_words
  appended-old m j h else = counted_words room (put_words room k (word w k) (new_words k f) w) k m j s.table ∙ put-old m j h else

  pub appended-there : words_of room (appended_words room k f w) k (word w k) ≡ new_words k f
  unfolding appended_words
  appended-there = counted_words room (put_words room k (word w k) (new_words k f) w) k k (word w k) s.table ∙ put-new

  -- the count that was read before the record was put
  pub stored-count : word (put_words room k (word w k) (new_words k f) w) k ≡ word w k
  stored-count = put-counts k (let t = s.table in omega arith)

-- ---- a turn of a loop

module _ (room : List ℕ) (k : ℕ) (row : ℕ → List ℕ) (w₀ : List ℕ) where
  pub grown-none : Grown room k row w₀ w₀ 0
  unfolding words_behind
  grown-none = record { words = refl; long = refl; count = omega arith }

  pub grown-rest : (n i m : ℕ) (w : List ℕ) → Space room w₀ k n → Grown room k row w₀ w i → i + m ≤ n → Space room w k m
  grown-rest n i m w s g h =
      let c = g.count in
      let l = g.long in
      record { small = s.small; words = omega (arith, s.words); long = omega (arith, s.long); table = s.table; slots = omega (arith, s.slots); few = s.few }

  pub grown-space : (n i : ℕ) (w : List ℕ) → Space room w₀ k n → Grown room k row w₀ w i → i < n → Space room w k 1
  grown-space n i w s g h = grown-rest n i 1 w s g (omega arith)

  pub grown-more : (n i : ℕ) (w v f : List ℕ) → Space room w₀ k n → Grown room k row w₀ w i → i < n → f ≡ row i → length (row i) ≤ word word_strides k
      → v ≡ appended_words room k f w → Grown room k row w₀ v (i + 1)
  unfolding words_behind
  grown-more n i w v f s g h e short a =
      let r = grown-space n i w s g h in
      let full : v ≡ appended_words room k (row i) w = a ∙ ap (λ l. appended_words room k l w) e in
      let c = g.count in
      let d = appended-count room w (row i) k r short in
      let l = appended-long room w (row i) k r short in
      rw (add-one i, full)
      (record {
        words = ap (appended_words room k (row i)) g.words;
        long = l ∙ g.long;
        count = omega arith;
      })

  -- m records, whose rows are the next ones
  pub grown-batch : (n i m : ℕ) (w : List ℕ) (part : ℕ → List ℕ) → Space room w₀ k n → Grown room k row w₀ w i → i + m ≤ n
      → ((q : ℕ) → q < m → part q ≡ row (i + q)) → ((q : ℕ) → q < m → length (part q) ≤ word word_strides k) → Grown room k row w₀ (words_behind room k part m w) (i + m)
  unfolding words_behind
  grown-batch n i zero w part s g h same short = rw (add-zero i) g
  grown-batch n i (suc m) w part s g h same short =
      let so_far = grown-batch n i m w part s g (omega arith) (λ q b. same q (omega arith)) (λ q b. short q (omega arith)) in
      let e : i + suc m ≡ i + m + 1 = omega arith in
      let d = ap length (same m (omega arith)) in
      let l = short m (omega arith) in
      rw e (grown-more n (i + m) (words_behind room k part m w) (appended_words room k (part m) (words_behind room k part m w)) (part m) s so_far (omega arith) (same m (omega arith)) (omega arith) refl)

-- rows that are the same leave the same
pub words_same : (room : List ℕ) (k n : ℕ) (row else : ℕ → List ℕ) (w : List ℕ) → ((j : ℕ) → j < n → row j ≡ else j) → words_behind room k row n w ≡ words_behind room k else n w
unfolding words_behind
words_same room k zero row else w h = refl
words_same room k (suc n) row else w h =
    ap (λ f. appended_words room k f (words_behind room k row n w)) (h n (omega arith))
    ∙ ap (appended_words room k (else n)) (words_same room k n row else w (λ j g. h j (omega arith)))

pub reals-same : (room : List ℕ) (k i n : ℕ) (floats else : ℕ → List Float) (x : List Float) → ((j : ℕ) → j < n → floats j ≡ else j)
    → reals_behind room k i floats n x ≡ reals_behind room k i else n x
unfolding reals_behind
reals-same room k i zero floats else x h = refl
reals-same room k i (suc n) floats else x h =
    ap (λ s. put_reals room k (i + n) s (reals_behind room k i floats n x)) (h n (omega arith))
    ∙ ap (put_reals room k (i + n) (else n)) (reals-same room k i n floats else x (λ j g. h j (omega arith)))

-- the floats of one record more
pub reals-more : (room : List ℕ) (k first : ℕ) (floats : ℕ → List Float) (x₀ : List Float) (i : ℕ) (x y : List Float) → x ≡ reals_behind room k first floats i x₀
    → y ≡ put_reals room k (first + i) (floats i) x → y ≡ reals_behind room k first floats (i + 1) x₀
unfolding reals_behind
reals-more room k first floats x₀ i x y e h = h ∙ ap (put_reals room k (first + i) (floats i)) e ∙ ap (λ n. reals_behind room k first floats n x₀) (sym (add-one i))

-- records without floats leave the floats
pub reals-none : (room : List ℕ) (k i n : ℕ) (x : List Float) → reals_behind room k i no_floats n x ≡ x
unfolding reals_behind put_reals
reals-none room k i zero x = refl
reals-none room k i (suc n) x = over_none _ (reals_behind room k i no_floats n x) ∙ reals-none room k i n x

-- ---- short runs

pub two_run : (u : ℕ) → u ∷ (u + 1) ∷ [] ≡ run u 2
unfolding run
two_run u = ap (λ n. n ∷ (u + 1) ∷ []) (sym (add-zero u))

pub three-run : (u : ℕ) → u ∷ (u + 1) ∷ (u + 2) ∷ [] ≡ run u 3
unfolding run
three-run u = ap (λ n. n ∷ (u + 1) ∷ (u + 2) ∷ []) (sym (add-zero u))

pub body-length : (office region k : ℕ) → length (body_row office region k) ≡ 5
unfolding run
body-length office region k = refl

pub loop-length : (face fin k : ℕ) → length (loop_row face fin k) ≡ 5
unfolding run
loop-length face fin k = refl

-- ---- a shell's row, with one face more
pub shell-turn : (region n face k : ℕ) (row : List ℕ) → take (2 + k) row ≡ region ∷ n ∷ run face k → 2 + k < length row
    → take (2 + (k + 1)) (set row (2 + k) (face + k)) ≡ region ∷ n ∷ run face (k + 1)
unfolding run
shell-turn region n face k row e h =
    let m : 2 + (k + 1) ≡ suc (2 + k) = omega arith in
    ap (λ i. take i (set row (2 + k) (face + k))) m
    ∙ take-suc-set row (2 + k) (face + k) h
    ∙ ap (λ l. l ++ ((face + k) ∷ [])) e
    ∙ ap (λ i. region ∷ n ∷ run face i) (sym (add-one k))
