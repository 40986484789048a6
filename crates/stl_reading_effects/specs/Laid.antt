-- Records laid behind those of some tables, one after the other: what each id then names, and that the memory stays readable. Assumes nothing.
use Prim.Native.Nat.{ℕ, zero, suc, ◌+◌, ◌≤◌, ◌<◌}
use Rattle.std.proofs.Common.{lt_of_lt_of_le, sym, ap, ◌∙◌, eqb-true, ltb-true, ltb-false, eq-eqb, ne_eqb, lt-ltb, le-ltb}
use native.Mathlib.Omega.{arith}
use Rattle.std.specs.Prelude.{◌≡◌, refl, Bool, true, false, cond, List, [], eqb, ltb, length, get_or, Float}
use Rattle.std.proofs.Math.Path.{subst, fun_ext}
use Rattle.std.specs.Float.Ieee.{nan}
use Rattle.std.proofs.lemmas.Bool.{eqb-false}
use Rattle.memory_layout.specs.Layout.{word_strides, real_strides, word, real, reals_needed, words_of, reals_of}
use Rattle.memory_layout.specs.Readable.{record_ok}
use Rattle.memory_layout.specs.Fit.{Inside, Fit}
use Rattle.memory_layout.specs.Laws.{capacity-le, version-there}
use Rattle.memory_writes.specs.Put.{put_reals, new_words}
use Rattle.memory_writes.specs.Frame.{put-there, put-elsewhere, put-before, new-length}
use Rattle.memory_writes.specs.Kept.{fit-new}
use Rattle.stl_rows.specs.Rows.{appended_words, words_behind, reals_behind, tables_words, tables_reals}
use Rattle.stl_rows.specs.Facts.{Space}
use Rattle.stl_rows.specs.Laws.{appended-count, appended-else, appended-old, appended-there}

module _ (room w₀ : List ℕ) (x₀ : List Float) (row : ℕ → ℕ → List ℕ) (floats : ℕ → ℕ → List Float) where
  -- each table q has c q records more, the j-th with the words row q j and the floats floats q j; all others stand as they were
  pub record Laid (c : ℕ → ℕ) (w : List ℕ) (x : List Float) : Type 0 where
    pub fit : Fit room w x
    pub version : word w 10 ≡ word w₀ 10
    pub precision : real x 0 ≡ real x₀ 0
    pub used : (q : ℕ) → q < 10 → word w q ≡ word w₀ q + c q
    pub old-words : (q j : ℕ) → q < 10 → j < word w₀ q → words_of room w q j ≡ words_of room w₀ q j
    pub old-reals : (q j : ℕ) → q < 10 → j < word w₀ q → reals_of room x q j ≡ reals_of room x₀ q j
    pub new-words : (q j : ℕ) → q < 10 → j < c q → words_of room w q (word w₀ q + j) ≡ new_words q (row q j)
    pub new-reals : (q j : ℕ) → q < 10 → j < c q → reals_of room x q (word w₀ q + j) ≡ floats q j

  pub laid_none : Fit room w₀ x₀ → Laid (λ _. 0) w₀ x₀
  laid_none f =
      record {
        fit = f;
        version = refl;
        precision = refl;
        used = λ q h. omega arith;
        old-words = λ q j h g. refl;
        old-reals = λ q j h g. refl;
        new-words = λ q j h g. absurd (omega arith);
        new-reals = λ q j h g. absurd (omega arith);
      }

  -- a record that may be laid
  pub record Sound (k j : ℕ) : Type 0 where
    pub short : length (row k j) ≤ word word_strides k
    pub whole : length (floats k j) ≡ word real_strides k
    pub ok : record_ok k (new_words k (row k j)) (floats k j) ≡ true

  -- one more in table k
  module _ (c : ℕ → ℕ) (w : List ℕ) (x : List Float) (l : Laid c w x) (k : ℕ) (table : k < 10) (slot : word w₀ k + c k < word room k) (sound : Sound k (c k)) (c' : ℕ → ℕ)
      (here : c' k ≡ c k + 1) (else : (q : ℕ) → (q ≡ k → ⊥) → c' q ≡ c q) where
    abbrev f : List ℕ
    f = row k (c k)

    abbrev s : List Float
    s = floats k (c k)

    free : word w k < word room k
    free = let u = l.used k table in omega arith

    space : Space room w k 1
    space =
        let z = l.fit.sized in
        record { small = z.small; words = z.words; long = version-there room w z.words; table = table; slots = let h = free in omega arith; few = capacity-le room z.small k table }

    in-reals : Inside (reals_needed room) (length x) room k (word w k)
    in-reals = record { enough = l.fit.sized.reals; table = table; slot = free }

    real-old : (q j : ℕ) → j < word room q → (k ≡ q → word w k ≡ j → ⊥) → reals_of room (put_reals room k (word w k) s x) q j ≡ reals_of room x q j
    unfolding put_reals reals_of
    real-old q j h e = put-elsewhere 1 real_strides room x s k (word w k) in-reals sound.whole q j h e

    real-there : reals_of room (put_reals room k (word w k) s x) k (word w k) ≡ s
    unfolding put_reals reals_of
    real-there = put-there 1 real_strides room x s k (word w k) in-reals sound.whole

    precise : real (put_reals room k (word w k) s x) 0 ≡ real x 0
    unfolding put_reals
    precise = put-before 1 real_strides room x s k (word w k) in-reals sound.whole 0 nan (omega arith)

    fits : Fit room (appended_words room k f w) (put_reals room k (word w k) s x)
    unfolding appended_words
    fits = fit-new room w (new_words k f) x s k l.fit table free (new-length k f sound.short) sound.whole sound.ok

    within : (q j : ℕ) → q < 10 → j < word w q → j < word room q
    within q j h g = lt_of_lt_of_le g (l.fit.sized.counts q h)

    before-new : (q j : ℕ) → q < 10 → j < word w₀ q → k ≡ q → word w k ≡ j → ⊥
    before-new q j h g e d = let u = l.used k table in let a : word w₀ k ≡ word w₀ q = ap (word w₀) e in omega arith

    old-there : (q j : ℕ) → q < 10 → j < word w₀ q → j < word room q
    old-there q j h g = within q j h (let u = l.used q h in omega arith)

    -- a new one is the last, or one of those before
    by_place : (P : ℕ → ℕ → Type 0) → P k (c k) → ((q j : ℕ) → q < 10 → j < c q → P q j) → (q j : ℕ) → q < 10 → j < c' q → P q j
    by_place P last before q j h g = go (eqb q k) (ltb j (c q)) (eqb-true q k) (eqb-false q k) (ltb-true j (c q)) (ltb-false j (c q))
      where
        go : (t u : Bool) → (t ≡ true → q ≡ k) → (t ≡ false → q ≡ k → ⊥) → (u ≡ true → j < c q) → (u ≡ false → c q ≤ j) → P q j
        go t true y n v o = before q j h (v refl)
        go true false y n v o =
            let e = y refl in
            let d : c' q ≡ c' k = ap c' e in
            let b : c q ≡ c k = ap c e in
            let a = o refl in
            let i : j ≡ c k = omega arith in
            rw (e, i) last
        go false false y n v o = let e = else q (n refl) in let a = o refl in absurd (omega arith)

    next : Laid c' (appended_words room k f w) (put_reals room k (word w k) s x)
    next =
        record {
          fit = fits;
          version = appended-else room w f k space sound.short 10 (omega arith) (λ e. omega arith) ∙ l.version;
          precision = precise ∙ l.precision;
          used = λ q h. count (eqb q k) q h (eqb-true q k) (eqb-false q k);
          old-words = λ q j h g. appended-old room w f k space sound.short q j (old-there q j h g) (before-new q j h g) ∙ l.old-words q j h g;
          old-reals = λ q j h g. real-old q j (old-there q j h g) (before-new q j h g) ∙ l.old-reals q j h g;
          new-words = by_place (λ q j. words_of room (appended_words room k f w) q (word w₀ q + j) ≡ new_words q (row q j)) last-words more-words;
          new-reals = by_place (λ q j. reals_of room (put_reals room k (word w k) s x) q (word w₀ q + j) ≡ floats q j) last-reals more-reals;
        }
      where
        count : (t : Bool) (q : ℕ) → q < 10 → (t ≡ true → q ≡ k) → (t ≡ false → q ≡ k → ⊥) → word (appended_words room k f w) q ≡ word w₀ q + c' q
        count true q h y n = rw (y refl) (let a = appended-count room w f k space sound.short in let u = l.used k table in omega arith)
        count false q h y n =
            let a = appended-else room w f k space sound.short q (omega arith) (n refl) in
            let u = l.used q h in
            let e = else q (n refl) in
            omega arith

        last-words : words_of room (appended_words room k f w) k (word w₀ k + c k) ≡ new_words k f
        last-words = ap (words_of room (appended_words room k f w) k) (sym (l.used k table)) ∙ appended-there room w f k space sound.short

        last-reals : reals_of room (put_reals room k (word w k) s x) k (word w₀ k + c k) ≡ s
        last-reals = ap (reals_of room (put_reals room k (word w k) s x) k) (sym (l.used k table)) ∙ real-there

        not_last : (q j : ℕ) → q < 10 → j < c q → k ≡ q → word w k ≡ word w₀ q + j → ⊥
        not_last q j h g e d =
            let u = l.used k table in
            let a : word w₀ k ≡ word w₀ q = ap (word w₀) e in
            let b : c k ≡ c q = ap c e in
            omega arith

        there : (q j : ℕ) → q < 10 → j < c q → word w₀ q + j < word room q
        there q j h g = within q (word w₀ q + j) h (let u = l.used q h in omega arith)

        more-words : (q j : ℕ) → q < 10 → j < c q → words_of room (appended_words room k f w) q (word w₀ q + j) ≡ new_words q (row q j)
        more-words q j h g = appended-old room w f k space sound.short q (word w₀ q + j) (there q j h g) (not_last q j h g) ∙ l.new-words q j h g

        more-reals : (q j : ℕ) → q < 10 → j < c q → reals_of room (put_reals room k (word w k) s x) q (word w₀ q + j) ≡ floats q j
        more-reals q j h g = real-old q (word w₀ q + j) (there q j h g) (not_last q j h g) ∙ l.new-reals q j h g

    pub laid_more : Laid c' (appended_words room k f w) (put_reals room k (word w₀ k + c k) s x)
    laid_more = subst (λ (i : ℕ). Laid c' (appended_words room k f w) (put_reals room k i s x)) (l.used k table) next

-- ---- the first m tables, and i records of the next

module _ (counts : List ℕ) where
  abbrev so_far : ℕ → ℕ → ℕ → ℕ
  so_far m i q = cond (ltb q m) (word counts q) (cond (eqb q m) i 0)

  so-far-here : (m i : ℕ) → so_far m i m ≡ i
  so-far-here m i = rw (le-ltb m m (omega arith), eq-eqb m m refl)

  so-far-else : (m i j q : ℕ) → (q ≡ m → ⊥) → so_far m i q ≡ so_far m j q
  so-far-else m i j q e = rw (ne_eqb q m e)

  so-far-none : (q : ℕ) → 0 ≡ so_far 0 0 q
  so-far-none q = rw (le-ltb q 0 (omega arith)) (by (eqb q 0))
    where
      by : (b : Bool) → ◌≡◌ {A = ℕ} 0 (cond b 0 0)
      by true = refl
      by false = refl

  so-far-next : (m q : ℕ) → so_far m (word counts m) q ≡ so_far (suc m) 0 q
  so-far-next m q = go (ltb q m) (eqb q m) (ltb-true q m) (ltb-false q m) (eqb-true q m) (eqb-false q m)
    where
      none : (b : Bool) → ◌≡◌ {A = ℕ} 0 (cond b 0 0)
      none true = refl
      none false = refl

      go : (t u : Bool) → (t ≡ true → q < m) → (t ≡ false → m ≤ q) → (u ≡ true → q ≡ m) → (u ≡ false → q ≡ m → ⊥)
          → cond t (word counts q) (cond u (word counts m) 0) ≡ so_far (suc m) 0 q
      go true u y n v o = let a = y refl in rw (lt-ltb q (suc m) (omega arith))
      go false true y n v o = let e = v refl in rw (lt-ltb q (suc m) (omega arith)) (ap (word counts) (sym e))
      go false false y n v o =
          let a = n refl in
          let b : suc m ≤ q = lt-or q m a (o refl) in
          rw (le-ltb q (suc m) b) (none (eqb q (suc m)))
        where
          lt-or : (q m : ℕ) → m ≤ q → (q ≡ m → ⊥) → suc m ≤ q
          lt-or q m h e = by (ltb m q) (ltb-true m q) (ltb-false m q)
            where
              by : (t : Bool) → (t ≡ true → m < q) → (t ≡ false → q ≤ m) → suc m ≤ q
              by true y n = let a = y refl in omega arith
              by false y n = let a = n refl in let d : q ≡ m = omega arith in absurd (e d)

module _ (room w₀ : List ℕ) (x₀ : List Float) (rows : List (ℕ → List ℕ)) (floats : List (ℕ → List Float)) (counts : List ℕ) (tables : ℕ) (few : tables ≤ 10) where
  abbrev row : ℕ → ℕ → List ℕ
  row q = get_or rows q (λ _. [])

  abbrev float : ℕ → ℕ → List Float
  float q = get_or floats q (λ _. [])

  module _ (slots : (k : ℕ) → k < tables → word w₀ k + word counts k ≤ word room k) (sound : (k j : ℕ) → k < tables → j < word counts k → Sound room w₀ x₀ row float k j) where
    -- i records of table m
    part : (m : ℕ) → m < tables → (w : List ℕ) (x : List Float) → Laid room w₀ x₀ row float (so_far counts m 0) w x → (i : ℕ) → i ≤ word counts m
        → Laid room w₀ x₀ row float (so_far counts m i) (words_behind room m (row m) i w) (reals_behind room m (word w₀ m) (float m) i x)
    unfolding words_behind reals_behind
    part m h w x l zero g = l
    part m h w x l (suc i) g =
        let before = part m h w x l i (omega arith) in
        let e : so_far counts m i m ≡ i = so-far-here counts m i in
        let b = slots m h in
        subst (λ (n : ℕ). Laid room w₀ x₀ row float (so_far counts m (suc i)) (appended_words room m (row m n) (words_behind room m (row m) i w)) (put_reals room m (word w₀ m + n) (float m n) (reals_behind room m (word w₀ m) (float m) i x))) e
        (laid_more room w₀ x₀ row float (so_far counts m i) (words_behind room m (row m) i w) (reals_behind room m (word w₀ m) (float m) i x) before m (omega arith) (omega arith)
        (subst (λ (n : ℕ). Sound room w₀ x₀ row float m n) (sym e) (sound m i h (omega arith))) (so_far counts m (suc i))
        (so-far-here counts m (suc i) ∙ (let d : suc i ≡ so_far counts m i m + 1 = omega arith in d)) (λ q n. so-far-else counts m (suc i) i q n))

    -- the first m tables
    pub laid-tables : Fit room w₀ x₀ → (m : ℕ) → m ≤ tables → Laid room w₀ x₀ row float (so_far counts m 0) (tables_words room rows counts m w₀) (tables_reals room w₀ floats counts m x₀)
    unfolding tables_words tables_reals
    laid-tables f zero h = subst (λ (c : ℕ → ℕ). Laid room w₀ x₀ row float c w₀ x₀) (fun_ext (so-far-none counts)) (laid_none room w₀ x₀ row float f)
    laid-tables f (suc m) h =
        subst (λ (c : ℕ → ℕ). Laid room w₀ x₀ row float c (tables_words room rows counts (suc m) w₀) (tables_reals room w₀ floats counts (suc m) x₀)) (fun_ext (so-far-next counts m))
        (part m (omega arith) (tables_words room rows counts m w₀) (tables_reals room w₀ floats counts m x₀) (laid-tables f m (omega arith)) (word counts m) (omega arith))
