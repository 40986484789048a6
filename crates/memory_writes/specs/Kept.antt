-- What every insert and edit keeps: the memory stays readable, and the model changes as `Change.antt` says. Assumes nothing.
use Rattle.std.specs.Prelude.{ℕ, zero, suc, ◌+◌, ◌≤◌, ◌<◌, ◌≡◌, Bool, ◌&&◌, List, eqb, ltb, leb, length, Float}
use Rattle.std.proofs.Common.{lt_of_lt_of_le, sym, ◌∙◌, eqb-true, ltb-true, ltb-false, le-leb}
use native.Mathlib.Omega.{arith}
use Rattle.std.proofs.Math.Path.{refl, ap}
use Rattle.std.proofs.Math.Bool.{true, false, cond}
use Rattle.std.proofs.lemmas.Bool.{eqb-false}
use Rattle.meaning.specs.Model.{extended, changed}
use Rattle.meaning.specs.Edits.{precision_ok, inserted, edited}
use Rattle.meaning_list_laws.specs.Tests.{every-cons, every-none, all_below-all}
use Rattle.memory_layout.specs.Layout.{word_strides, real_strides, largest_tables, word, words_needed, reals_needed, words_of, reals_of}
use Rattle.memory_layout.specs.Readable.{version_ok, record_ok, room_ok, counts_ok, table_ok, tables_ok, lent_ok, sized_ok, readable}
use Rattle.memory_layout.specs.Decode.{version_of, table, body_of, region_of, shell_of, face_of, loop_of, fin_of, edge_of, vertex_of, carrier_of, decode}
use Rattle.memory_layout.specs.Fit.{Inside, Fit}
use Rattle.memory_layout.specs.Laws.{before-tables}
use Rattle.memory_writes.specs.Put.{put_words, put_reals, counted, unless_refused}
use Rattle.memory_writes.specs.Frame.{Elsewhere, elsewhere, words-there, reals-there, counts-kept, counted_words, counted-long, counted-there, counted-else}
use Rattle.memory_writes.specs.Change.{SameTable, SameModel, with_record, with_one_more}

-- ---- a refusal leaves what stood

pub refused-keeps : {A : Type 0} (n : ℕ) (new old : A) → (n ≡ 0 → ⊥) → old ≡ unless_refused n new old
refused-keeps zero new old e = absurd (e refl)
refused-keeps (suc n) new old e = refl

-- ---- the facts of a readable memory are its test

both : (a b : Bool) → a ≡ true → b ≡ true → (a && b) ≡ true
both a b e f = rw (e, f)

pub readable_of : (room w : List ℕ) (x : List Float) → Fit room w x → readable room w x ≡ true
unfolding readable sized_ok lent_ok room_ok counts_ok tables_ok table_ok
readable_of room w x f =
    let s = f.sized in
    let a : lent_ok room w x ≡ true =
    every-cons _ _ (all_below-all (λ k. leb (word room k) (word largest_tables k)) 10 (λ k h. le-leb _ _ (s.small.small k h)))
    (every-cons _ _ (le-leb _ _ s.words) (every-cons _ _ (le-leb _ _ s.reals) every-none)) in
    let b : counts_ok room w ≡ true = all_below-all (λ k. leb (word w k) (word room k)) 10 (λ k h. le-leb _ _ (s.counts k h)) in
    let c : tables_ok room w x ≡ true =
    all_below-all (table_ok room w x) 10 (λ k h. all_below-all (λ i. record_ok k (words_of room w k i) (reals_of room x k i)) (word w k) (λ i g. f.rows k i h g)) in
    both _ _ (both _ _ (both _ _ (both _ _ a b) f.version) f.precision) c

-- ---- the words r and the floats s are put where record i of table k has room

module _ (room w r : List ℕ) (x s : List Float) (k i : ℕ) (f : Fit room w x) (table-there : k < 10) (slot : i < word room k)
    (words-whole : length r ≡ word word_strides k) (reals-whole : length s ≡ word real_strides k) where
  abbrev w' : List ℕ
  w' = put_words room k i r w

  abbrev x' : List Float
  x' = put_reals room k i s x

  in_words : Inside (words_needed room) (length w) room k i
  in_words = record { enough = f.sized.words; table = table-there; slot = slot }

  in-reals : Inside (reals_needed room) (length x) room k i
  in-reals = record { enough = f.sized.reals; table = table-there; slot = slot }

  else : Elsewhere room w w' x x' k i
  else = elsewhere room w r x s k i in_words in-reals words-whole reals-whole

  counts : (q : ℕ) → q < 10 → word w' q ≡ word w q
  counts = counts-kept room w r x s k i in_words in-reals words-whole reals-whole

  -- record j of table q, read by any reader
  read-else : {A : Type 0} (of : List ℕ → List Float → A) (q j : ℕ) → q < 10 → j < word w q → (k ≡ q → i ≡ j → ⊥)
      → of (words_of room w' q j) (reals_of room x' q j) ≡ of (words_of room w q j) (reals_of room x q j)
  read-else of q j h g e =
      let l : j < word room q = lt_of_lt_of_le g (f.sized.counts q h) in
      ap (λ (l : List ℕ). of l (reals_of room x' q j)) (else.words q j l e) ∙ ap (of (words_of room w q j)) (else.reals q j l e)

  read-there : {A : Type 0} (of : List ℕ → List Float → A) → of (words_of room w' k i) (reals_of room x' k i) ≡ of r s
  read-there of =
      ap (λ (l : List ℕ). of l (reals_of room x' k i)) (words-there room w r x s k i in_words in-reals words-whole reals-whole)
      ∙ ap (of r) (reals-there room w r x s k i in_words in-reals words-whole reals-whole)

  -- ---- an edit: the record is used

  module _ (there : i < word w k) where
    table-put : {A : Type 0} (of : List ℕ → List Float → A) (q : ℕ) → q < 10
        → SameTable (table room w' x' q of) (cond (eqb q k) (edited (table room w x q of) i (λ _. of r s)) (table room w x q of))
    unfolding changed
    table-put of q h = go (eqb q k) (eqb-true q k) (eqb-false q k)
      where
        in_use : (j : ℕ) → j < word w' q → j < word w q
        in_use j g = let e = counts q h in omega arith

        go : (t : Bool) → (t ≡ true → q ≡ k) → (t ≡ false → q ≡ k → ⊥)
            → SameTable (table room w' x' q of) (cond t (edited (table room w x q of) i (λ _. of r s)) (table room w x q of))
        go true y n = record { used = counts q h; slots = λ j g. at (eqb j i) j (in_use j g) (eqb-true j i) (eqb-false j i) }
          where
            at : (u : Bool) (j : ℕ) → j < word w q → (u ≡ true → j ≡ i) → (u ≡ false → j ≡ i → ⊥)
                → of (words_of room w' q j) (reals_of room x' q j) ≡ cond u (of r s) (of (words_of room w q j) (reals_of room x q j))
            at true j g v o = rw (v refl, y refl) (read-there of)
            at false j g v o = read-else of q j h g (λ _ e. o refl (sym e))
        go false y n = record { used = counts q h; slots = λ j g. read-else of q j h (in_use j g) (λ e _. n refl (sym e)) }

    -- the model has that record, and else is as it was
    pub model-put : SameModel (decode room w' x') (with_record k i r s (decode room w x))
    unfolding decode
    model-put =
        record {
          version = ap version_of else.version;
          precision = else.precision;
          bodies = table-put (λ l _. body_of l) 0 (omega arith);
          regions = table-put (λ l _. region_of l) 1 (omega arith);
          shells = table-put (λ l _. shell_of l) 2 (omega arith);
          faces = table-put (λ l _. face_of l) 3 (omega arith);
          loops = table-put (λ l _. loop_of l) 4 (omega arith);
          fins = table-put (λ l _. fin_of l) 5 (omega arith);
          edges = table-put edge_of 6 (omega arith);
          vertices = table-put vertex_of 7 (omega arith);
          curves = table-put carrier_of 8 (omega arith);
          surfaces = table-put carrier_of 9 (omega arith);
        }

    -- and the memory stays readable, if the record's own test passes
    pub fit-put : record_ok k r s ≡ true → Fit room w' x'
    fit-put ok =
        let sized = f.sized in
        let words_long = else.words_long in
        let reals-long = else.reals-long in
        record {
          sized = record {
            small = sized.small;
            words = omega (arith, sized.words);
            reals = omega (arith, sized.reals);
            counts = λ q h. let e = counts q h in let c = sized.counts q h in omega arith;
          };
          version = ap version_ok else.version ∙ f.version;
          precision = ap precision_ok else.precision ∙ f.precision;
          rows = λ q j h g. row q j h (let e = counts q h in omega arith);
        }
      where
        row : (q j : ℕ) → q < 10 → j < word w q → record_ok q (words_of room w' q j) (reals_of room x' q j) ≡ true
        row q j h g = go (eqb q k) (eqb j i) (eqb-true q k) (eqb-false q k) (eqb-true j i) (eqb-false j i)
          where
            go : (t u : Bool) → (t ≡ true → q ≡ k) → (t ≡ false → q ≡ k → ⊥) → (u ≡ true → j ≡ i) → (u ≡ false → j ≡ i → ⊥)
                → record_ok q (words_of room w' q j) (reals_of room x' q j) ≡ true
            go true true y n v o = rw (v refl, y refl) (read-there (record_ok k) ∙ ok)
            go true false y n v o = read-else (record_ok q) q j h g (λ _ e. o refl (sym e)) ∙ f.rows q j h g
            go false u y n v o = read-else (record_ok q) q j h g (λ e _. n refl (sym e)) ∙ f.rows q j h g

-- ---- an insert: the record is the first that is not used

module _ (room w r : List ℕ) (x s : List Float) (k : ℕ) (f : Fit room w x) (table-there : k < 10) (slot : word w k < word room k)
    (words-whole : length r ≡ word word_strides k) (reals-whole : length s ≡ word real_strides k) where
  abbrev w'' : List ℕ
  w'' = counted k (put_words room k (word w k) r w)

  abbrev x'' : List Float
  x'' = put_reals room k (word w k) s x

  put-long : length (put_words room k (word w k) r w) ≡ length w
  put-long = (else room w r x s k (word w k) f table-there slot words-whole reals-whole).words_long

  used-new : word w'' k ≡ word w k + 1
  used-new =
      let c = counts room w r x s k (word w k) f table-there slot words-whole reals-whole k table-there in
      let l = put-long in
      let b = before-tables 11 word_strides room 10 in
      let e = f.sized.words in
      counted-there (put_words room k (word w k) r w) k (omega arith) ∙ ap (λ (n : ℕ). n + 1) c

  used-else : (q : ℕ) → q < 10 → (q ≡ k → ⊥) → word w'' q ≡ word w q
  used-else q h e =
      counted-else (put_words room k (word w k) r w) k q e
      ∙ counts room w r x s k (word w k) f table-there slot words-whole reals-whole q h

  version-new : word w'' 10 ≡ word w 10
  version-new =
      counted-else (put_words room k (word w k) r w) k 10 (λ e. omega arith)
      ∙ (else room w r x s k (word w k) f table-there slot words-whole reals-whole).version

  new-else : {A : Type 0} (of : List ℕ → List Float → A) (q j : ℕ) → q < 10 → j < word w q → of (words_of room w'' q j) (reals_of room x'' q j) ≡ of (words_of room w q j) (reals_of room x q j)
  new-else of q j h g =
      ap (λ (l : List ℕ). of l (reals_of room x'' q j)) (counted_words room (put_words room k (word w k) r w) k q j table-there)
      ∙ read-else room w r x s k (word w k) f table-there slot words-whole reals-whole of q j h g
      (λ e d. let b : word w k ≡ word w q = ap (word w) e in omega arith)

  new-there : {A : Type 0} (of : List ℕ → List Float → A) → of (words_of room w'' k (word w k)) (reals_of room x'' k (word w k)) ≡ of r s
  new-there of =
      ap (λ (l : List ℕ). of l (reals_of room x'' k (word w k))) (counted_words room (put_words room k (word w k) r w) k k (word w k) table-there)
      ∙ read-there room w r x s k (word w k) f table-there slot words-whole reals-whole of

  table-new : {A : Type 0} (of : List ℕ → List Float → A) (q : ℕ) → q < 10
      → SameTable (table room w'' x'' q of) (cond (eqb q k) (inserted (table room w x q of) (of r s)) (table room w x q of))
  unfolding extended
  table-new of q h = go (eqb q k) (eqb-true q k) (eqb-false q k)
    where
      go : (t : Bool) → (t ≡ true → q ≡ k) → (t ≡ false → q ≡ k → ⊥)
          → SameTable (table room w'' x'' q of) (cond t (inserted (table room w x q of) (of r s)) (table room w x q of))
      go true y n =
          record {
            used = rw (y refl) used-new;
            slots = λ j g. at (ltb j (word w q)) j (let e : word w'' q ≡ word w q + 1 = rw (y refl) used-new in omega arith) (ltb-true j (word w q)) (ltb-false j (word w q));
          }
        where
          at : (u : Bool) (j : ℕ) → j < word w q + 1 → (u ≡ true → j < word w q) → (u ≡ false → word w q ≤ j)
              → of (words_of room w'' q j) (reals_of room x'' q j) ≡ cond u (of (words_of room w q j) (reals_of room x q j)) (of r s)
          at true j g v o = new-else of q j h (v refl)
          at false j g v o =
              let p = o refl in
              let e : j ≡ word w q = omega arith in
              rw (e, y refl) (new-there of)
      go false y n =
          record {
            used = used-else q h (n refl);
            slots = λ j g. new-else of q j h (let e = used-else q h (n refl) in omega arith);
          }

  -- the model has one record more, and else is as it was
  pub model-new : SameModel (decode room w'' x'') (with_one_more k r s (decode room w x))
  unfolding decode
  model-new =
      record {
        version = ap version_of version-new;
        precision = (else room w r x s k (word w k) f table-there slot words-whole reals-whole).precision;
        bodies = table-new (λ l _. body_of l) 0 (omega arith);
        regions = table-new (λ l _. region_of l) 1 (omega arith);
        shells = table-new (λ l _. shell_of l) 2 (omega arith);
        faces = table-new (λ l _. face_of l) 3 (omega arith);
        loops = table-new (λ l _. loop_of l) 4 (omega arith);
        fins = table-new (λ l _. fin_of l) 5 (omega arith);
        edges = table-new edge_of 6 (omega arith);
        vertices = table-new vertex_of 7 (omega arith);
        curves = table-new carrier_of 8 (omega arith);
        surfaces = table-new carrier_of 9 (omega arith);
      }

  -- and the memory stays readable, if the record's own test passes
  pub fit-new : record_ok k r s ≡ true → Fit room w'' x''
  fit-new ok =
      let sized = f.sized in
      let words_long = put-long in
      let more-long = counted-long (put_words room k (word w k) r w) k in
      let reals-long = (else room w r x s k (word w k) f table-there slot words-whole reals-whole).reals-long in
      record {
        sized = record {
          small = sized.small;
          words = omega (arith, sized.words);
          reals = omega (arith, sized.reals);
          counts = λ q h. count (eqb q k) q h (eqb-true q k) (eqb-false q k);
        };
        version = ap version_ok version-new ∙ f.version;
        precision = ap precision_ok (else room w r x s k (word w k) f table-there slot words-whole reals-whole).precision ∙ f.precision;
        rows = λ q j h g. row (eqb q k) (ltb j (word w q)) q j h g (eqb-true q k) (eqb-false q k) (ltb-true j (word w q)) (ltb-false j (word w q));
      }
    where
      count : (t : Bool) (q : ℕ) → q < 10 → (t ≡ true → q ≡ k) → (t ≡ false → q ≡ k → ⊥) → word w'' q ≤ word room q
      count true q h y n = rw (y refl) (let e = used-new in omega arith)
      count false q h y n = let e = used-else q h (n refl) in let c = f.sized.counts q h in omega arith

      row : (t u : Bool) (q j : ℕ) → q < 10 → j < word w'' q → (t ≡ true → q ≡ k) → (t ≡ false → q ≡ k → ⊥) → (u ≡ true → j < word w q) → (u ≡ false → word w q ≤ j)
          → record_ok q (words_of room w'' q j) (reals_of room x'' q j) ≡ true
      row t true q j h g y n v o = new-else (record_ok q) q j h (v refl) ∙ f.rows q j h (v refl)
      row true false q j h g y n v o =
          let p = o refl in
          let d : word w'' q ≡ word w q + 1 = rw (y refl) used-new in
          let e : j ≡ word w q = omega arith in
          rw (e, y refl) (new-there (record_ok k) ∙ ok)
      row false false q j h g y n v o = let p = o refl in let d = used-else q h (n refl) in absurd (omega arith)
