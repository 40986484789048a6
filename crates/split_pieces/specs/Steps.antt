-- What each step of a split leaves: the records that it writes, and all others. Assumes nothing.
use Prim.Native.Nat.{ℕ, zero, suc, ◌+◌, ◌-◌, ◌≤◌, ◌<◌}
use Rattle.std.proofs.Common.{zero-add, lt_of_lt_of_le, sym, ◌∙◌, subst, eqb-true, ltb-true, leb-true, eq-eqb, lt-ltb, le-leb}
use native.Mathlib.Omega.{arith}
use Rattle.std.proofs.Math.Decide.{dec_lt}
use Rattle.std.specs.Prelude.{◌≡◌, refl, Bool, true, cond, ◌&&◌, List, [], ◌∷◌, leb}
use Rattle.std.proofs.Math.Path.{ap}
use Rattle.std.proofs.Math.Bool.{false}
use Rattle.std.proofs.lemmas.Bool.{false≢true, eqb-false}
use Rattle.std.proofs.Math.Dec.{eqb, ltb}
use Rattle.std.proofs.Math.ListN.{length}
use Rattle.meaning_list_laws.specs.Tests.{and_both}
use Rattle.memory_layout.specs.Layout.{word_strides, word, words_needed, words_of}
use Rattle.memory_layout.specs.Fit.{Inside}
use Rattle.memory_writes.specs.Put.{over, put_words}
use Rattle.memory_writes.specs.Over.{length_over}
use Rattle.memory_writes.specs.Frame.{length-put, put-there, put-elsewhere, put-before}
use Rattle.split_lists.specs.Beside.{entries_for, doubled}
use Rattle.split_lists.specs.Pass.{put_all, doubled_at}
use Rattle.split_lists.specs.Facts.{Roomy}
use Rattle.split_lists.specs.Laws.{all-long, all-else, all-counts, each-whole}
use Rattle.split_pieces.specs.Pieces.{new_fin_words, second_fields, loops_put, wires_put, fins_put, second_put, first_put, vertex_put}
use Rattle.split_pieces.specs.Facts.{Slots}
use Rattle.split_pieces.specs.Laws.{second-long, edge-inside, edge-long, vertex-inside, new-fin-long}

-- the words w are as long as w₀ and have its used counts and its version, and record j of table m reads as `now m j`
pub record Stage (room w₀ w : List ℕ) (now : ℕ → ℕ → List ℕ) : Type 0 where
  pub long : length w ≡ length w₀
  pub counts : (q : ℕ) → q < 11 → word w q ≡ word w₀ q
  pub reads : (m j : ℕ) → j < word room m → words_of room w m j ≡ now m j

-- the records `here` of table k are those of r, all others as before
abbrev pub with : ℕ → (ℕ → Bool) → (ℕ → List ℕ) → (ℕ → ℕ → List ℕ) → ℕ → ℕ → List ℕ
with k here r old m j = cond (eqb m k && here j) (r j) (old m j)

-- nothing is written yet
pub stage-none : (room w : List ℕ) → Stage room w w (words_of room w)
stage-none room w = record { long = refl; counts = λ q h. refl; reads = λ m j h. refl }

module _ (room w₀ w : List ℕ) (old : ℕ → ℕ → List ℕ) (s : Stage room w₀ w old) where
  -- what a step must show
  stage-of : (w' : List ℕ) (k : ℕ) (here : ℕ → Bool) (r : ℕ → List ℕ) → length w' ≡ length w → ((q : ℕ) → q < 11 → word w' q ≡ word w q)
      → ((j : ℕ) → j < word room k → here j ≡ true → words_of room w' k j ≡ r j)
      → ((m j : ℕ) → j < word room m → (k ≡ m → here j ≡ true → ⊥) → words_of room w' m j ≡ words_of room w m j)
      → Stage room w₀ w' (with k here r old)
  stage-of w' k here r l c there else =
      record {
        long = l ∙ s.long;
        counts = λ q h. c q h ∙ s.counts q h;
        reads = λ m j h. go (eqb m k) (here j) m j h refl refl (eqb-true m k) (eqb-false m k);
      }
    where
      go : (t u : Bool) (m j : ℕ) → j < word room m → here j ≡ u → eqb m k ≡ t → (eqb m k ≡ true → m ≡ k) → (eqb m k ≡ false → m ≡ k → ⊥)
          → words_of room w' m j ≡ cond (t && u) (r j) (old m j)
      go true true m j h d e y n =
          let q : m ≡ k = y e in
          ap (λ (p : ℕ). words_of room w' p j) q ∙ there j (subst (λ (p : ℕ). j < word room p) q h) d
      go true false m j h d e y n = else m j h (λ _ f. false≢true (sym d ∙ f)) ∙ s.reads m j h
      go false u m j h d e y n = else m j h (λ q f. n e (sym q)) ∙ s.reads m j h

  -- ---- one record

  module _ (k i : ℕ) (r : List ℕ) (inside : Inside (words_needed room) (length w) room k i) (whole : length r ≡ word word_strides k) where
    pub stage-put : Stage room w₀ (put_words room k i r w) (with k (λ j. eqb j i) (λ _. r) old)
    unfolding put_words words_of
    stage-put =
        stage-of (put_words room k i r w) k (λ j. eqb j i) (λ _. r)
        (length-put 11 word_strides room w r k i inside whole)
        (λ q h. put-before 11 word_strides room w r k i inside whole q 0 h)
        (λ j h e. ap (words_of room (put_words room k i r w) k) (eqb-true j i e) ∙ put-there 11 word_strides room w r k i inside whole)
        (λ m j h f. put-elsewhere 11 word_strides room w r k i inside whole m j h (λ d e. f d (eq-eqb j i (sym e))))

  -- ---- several records

  module _ (k from : ℕ) (r : ℕ → List ℕ) (table : k < 10) (enough : words_needed room ≤ length w) where
    all_there : (n : ℕ) → from + n ≤ word room k → ((j : ℕ) → j < n → length (r j) ≡ word word_strides k) → (j : ℕ) → j < n
        → words_of room (put_all room k from r n w) k (from + j) ≡ r j
    unfolding put_all put_words words_of
    all_there zero f h j g = absurd (omega arith)
    all_there (suc n) f h j g = elim (dec_lt j n) [
      | yes l ↦
          put-elsewhere 11 word_strides room (put_all room k from r n w) (r n) k (from + n) inside (h n (omega arith)) k (from + j) (omega arith) (λ _ e. omega arith)
          ∙ all_there n (omega arith) (λ i q. h i (omega arith)) j l
      | no a ↦
          let e : j ≡ n = omega arith in
          ap (λ (i : ℕ). words_of room (put_all room k from r (suc n) w) k (from + i)) e
          ∙ put-there 11 word_strides room (put_all room k from r n w) (r n) k (from + n) inside (h n (omega arith))
          ∙ ap r (sym e)
    ]
      where
        inside : Inside (words_needed room) (length (put_all room k from r n w)) room k (from + n)
        inside = let l = all-long room k from r w table enough n (omega arith) (λ i q. h i (omega arith)) in record { enough = omega arith; table = table; slot = omega arith }

    module _ (n : ℕ) (fits : from + n ≤ word room k) (whole : (j : ℕ) → j < n → length (r j) ≡ word word_strides k) where
      -- the record from + j is r j
      pub stage-all : Stage room w₀ (put_all room k from r n w) (with k (λ j. leb from j && ltb j (from + n)) (λ j. r (j - from)) old)
      stage-all =
          stage-of (put_all room k from r n w) k (λ j. leb from j && ltb j (from + n)) (λ j. r (j - from))
          (all-long room k from r w table enough n fits whole)
          (all-counts room k from r w table enough n fits whole)
          (λ j h e.
          let a = and_both (leb from j) (ltb j (from + n)) e in
          let b = leb-true from j a.0 in
          let c = ltb-true j (from + n) a.1 in
          let d : j ≡ from + (j - from) = omega arith in
          ap (words_of room (put_all room k from r n w) k) d ∙ all_there n fits whole (j - from) (omega arith))
          (λ m j h f. all-else room k from r w table enough n fits whole m j h (λ d i l e. f d (inside i j l e)))
        where
          inside : (i j : ℕ) → i < n → from + i ≡ j → leb from j && ltb j (from + n) ≡ true
          inside i j l e = rw (le-leb from j (omega arith), lt-ltb j (from + n) (omega arith))

  -- ---- a list of the first n records of a table

  module _ (k place n : ℕ) (olds owners senses : List ℕ) (own : Bool) (first : ℕ) (f : Roomy room w k place n olds owners senses own first) where
    abbrev r : ℕ → List ℕ
    r = doubled_at room w k place olds owners senses own first

    fits : 0 + n ≤ word room k
    fits = let g = f.slots in omega arith

    whole : (j : ℕ) → j < n → length (r j) ≡ word word_strides k
    whole = each-whole room w k place n olds owners senses own first f

    pub stage-pass : Stage room w₀ (put_all room k 0 r n w) (with k (λ j. ltb j n) (λ j. doubled (entries_for olds owners senses (cond own j 0) first) place (old k j)) old)
    unfolding doubled_at
    stage-pass =
        stage-of (put_all room k 0 r n w) k (λ j. ltb j n) (λ j. doubled (entries_for olds owners senses (cond own j 0) first) place (old k j))
        (all-long room k 0 r w f.table f.enough n fits whole)
        (all-counts room k 0 r w f.table f.enough n fits whole)
        (λ j h e.
        ap (words_of room (put_all room k 0 r n w) k) (sym (zero-add j))
        ∙ all_there k 0 r f.table f.enough n fits whole j (ltb-true j n e)
        ∙ ap (doubled (entries_for olds owners senses (cond own j 0) first) place) (s.reads k j h))
        (λ m j h g. all-else room k 0 r w f.table f.enough n fits whole m j h (λ d i l e. g d (lt-ltb j n (omega arith))))

-- ---- the steps of a split

-- there is as much room as before
pub slots_kept : (room w₀ w : List ℕ) (old : ℕ → ℕ → List ℕ) (n : ℕ) → Stage room w₀ w old → Slots room w₀ n → Slots room w n
slots_kept room w₀ w old n s f =
    let l = s.long in
    let a = s.counts 5 (omega arith) in
    let b = s.counts 6 (omega arith) in
    let c = s.counts 7 (omega arith) in
    record {
      small = f.small;
      enough = omega (arith, f.enough);
      counts = omega (arith, f.counts);
      few = f.few;
      fins = omega (arith, f.fins);
      edges = omega (arith, f.edges);
      vertices = omega (arith, f.vertices);
      most-fins = f.most-fins;
      most-edges = f.most-edges;
      most-vertices = f.most-vertices;
    }

-- there is room for fewer too
pub slots-fewer : (room w : List ℕ) (n : ℕ) → Slots room w n → Slots room w 0
slots-fewer room w n f =
    record {
      small = f.small;
      enough = f.enough;
      counts = f.counts;
      few = omega arith;
      fins = omega (arith, f.fins);
      edges = f.edges;
      vertices = f.vertices;
      most-fins = f.most-fins;
      most-edges = f.most-edges;
      most-vertices = f.most-vertices;
    }

-- records that read as before have the room that they had
pub roomy-kept : (room w₀ w : List ℕ) (now : ℕ → ℕ → List ℕ) (k place n : ℕ) (olds owners senses : List ℕ) (own : Bool) (first : ℕ) → Stage room w₀ w now
    → ((i : ℕ) → now k i ≡ words_of room w₀ k i) → Roomy room w₀ k place n olds owners senses own first → Roomy room w k place n olds owners senses own first
roomy-kept room w₀ w now k place n olds owners senses own first s same f =
    let l = s.long in
    record {
      enough = omega (arith, f.enough);
      table = f.table;
      slots = f.slots;
      each = λ i h.
          let e : words_of room w k i ≡ words_of room w₀ k i = s.reads k i (lt_of_lt_of_le h f.slots) ∙ same i in
          rw e (f.each i h);
    }

module _ (room w₀ w : List ℕ) (old : ℕ → ℕ → List ℕ) (s : Stage room w₀ w old) (n : ℕ) (f : Slots room w n) where
  u5 : word w 5 ≡ word w₀ 5
  u5 = s.counts 5 (omega arith)

  u6 : word w 6 ≡ word w₀ 6
  u6 = s.counts 6 (omega arith)

  u7 : word w 7 ≡ word w₀ 7
  u7 = s.counts 7 (omega arith)

  pub stage-wires : (e : ℕ) → Roomy room w 2 514 (word w₀ 2) (e ∷ []) (0 ∷ []) (0 ∷ []) false (word w₀ 6)
      → Stage room w₀ (wires_put room e w)
      (with 2 (λ j. ltb j (word w₀ 2)) (λ j. doubled (entries_for (e ∷ []) (0 ∷ []) (0 ∷ []) 0 (word w₀ 6)) 514 (old 2 j)) old)
  unfolding wires_put
  stage-wires e g = rw (s.counts 2 (omega arith), u6) (stage-pass room w₀ w old s 2 514 (word w₀ 2) (e ∷ []) (0 ∷ []) (0 ∷ []) false (word w₀ 6) g)

  pub stage-fins : (owners senses : List ℕ) → length owners ≡ n
      → Stage room w₀ (fins_put room owners senses w)
      (with 5 (λ j. leb (word w₀ 5) j && ltb j (word w₀ 5 + n)) (λ j. new_fin_words owners senses (word w₀ 6) (j - word w₀ 5)) old)
  unfolding fins_put
  stage-fins owners senses e =
      let a = f.fins in
      let b = u5 in
      rw (e, u5, u6) (stage-all room w₀ w old s 5 (word w₀ 5) (new_fin_words owners senses (word w₀ 6)) (omega arith) f.enough n (omega arith) (λ j h. new-fin-long owners senses (word w₀ 6) j))

  module _ (e : ℕ) (there : e < word w 6) where
    abbrev old-edge : List ℕ
    old-edge = words_of room w 6 e

    same-edge : old-edge ≡ old 6 e
    same-edge = s.reads 6 e (let g = f.edges in omega arith)

    same-slot : words_of room w 6 (word w 6) ≡ old 6 (word w₀ 6)
    same-slot = s.reads 6 (word w 6) f.edges ∙ ap (old 6) u6

    pub stage-second : Stage room w₀ (second_put room e n w)
        (with 6 (λ j. eqb j (word w₀ 6)) (λ _. over 0 (second_fields (old 6 e) (word w₀ 7) (word w₀ 5) n) (old 6 (word w₀ 6))) old)
    unfolding second_put
    stage-second =
        let a = f.few in
        let l = second-long (old 6 e) (word w₀ 7) (word w₀ 5) n in
        let d : length (old 6 (word w₀ 6)) ≡ 16 = ap length (sym same-slot) ∙ edge-long room w n f (word w 6) (omega arith) in
        rw (same-slot, same-edge, u5, u6, u7)
        (stage-put room w₀ w old s 6 (word w₀ 6) (over 0 (second_fields (old 6 e) (word w₀ 7) (word w₀ 5) n) (old 6 (word w₀ 6)))
        (edge-inside room w n f (word w₀ 6) (let b = u6 in omega arith))
        (length_over 0 (second_fields (old 6 e) (word w₀ 7) (word w₀ 5) n) (old 6 (word w₀ 6)) (omega arith) ∙ d))

    pub stage-first : Stage room w₀ (first_put room e w) (with 6 (λ j. eqb j e) (λ _. over 2 (1 ∷ word w₀ 7 ∷ []) (old 6 e)) old)
    unfolding first_put
    stage-first =
        let d : length (old 6 e) ≡ 16 = ap length (sym same-edge) ∙ edge-long room w n f e (omega arith) in
        rw (same-edge, u7)
        (stage-put room w₀ w old s 6 e (over 2 (1 ∷ word w₀ 7 ∷ []) (old 6 e)) (edge-inside room w n f e (omega arith))
        (length_over 2 (1 ∷ word w₀ 7 ∷ []) (old 6 e) (omega arith) ∙ d))

    pub stage-vertex : Stage room w₀ (vertex_put room e w) (with 7 (λ j. eqb j (word w₀ 7)) (λ _. word (old 6 e) 6 ∷ []) old)
    unfolding vertex_put
    stage-vertex =
        rw (same-edge, u7)
        (stage-put room w₀ w old s 7 (word w₀ 7) (word (old 6 e) 6 ∷ []) (rw u7 at (vertex-inside room w n f)) refl)

-- the loops come first
pub stage-loops : (room w fins owners senses : List ℕ) → Roomy room w 4 1 (word w 4) fins owners senses true (word w 5)
    → Stage room w (loops_put room fins owners senses w)
    (with 4 (λ j. ltb j (word w 4)) (λ j. doubled (entries_for fins owners senses j (word w 5)) 1 (words_of room w 4 j)) (words_of room w))
unfolding loops_put
stage-loops room w fins owners senses g = stage-pass room w w (words_of room w) (stage-none room w) 4 1 (word w 4) fins owners senses true (word w 5) g
