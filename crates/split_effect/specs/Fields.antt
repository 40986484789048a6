-- What the records that a split writes mean: as `meaning` makes them. Assumes nothing.
use Rattle.std.specs.Prelude.{ℕ, ◌≤◌, ◌<◌, ◌≡◌, refl, true, ◌&&◌, List, [], ◌∷◌, ◌++◌, leb, length, drop, Float}
use Rattle.std.proofs.Common.{zero-add, arith, ◌∙◌, le-leb}
use Rattle.std.proofs.Math.Path.{sym, ap}
use Rattle.std.proofs.Math.Option.{some}
use Rattle.std.proofs.Math.ListN.{take}
use Rattle.meaning.specs.Lists.{run, joined}
use Rattle.meaning_list_laws.specs.Lists.{length_run}
use Rattle.meaning_list_laws.specs.Tests.{and_both}
use Rattle.memory_layout.specs.Layout.{word, real}
use Rattle.memory_layout.specs.Decode.{list_at, edge_of}
use Rattle.memory_layout.specs.Readable.{own_ok, edge_ok}
use Rattle.memory_writes.specs.Put.{over}
use Rattle.memory_writes.specs.Over.{length_over, part-behind, entry-before, entry-behind, entry-written, over-behind}
use Rattle.edit_lists.specs.Place.{with_list}
use Rattle.edit_lists.specs.Records.{edge-list, word-before, word-length}
use Rattle.split_pieces.specs.Pieces.{second_fields}

-- the same stands for each entry
pub joined-ext : (f g : ℕ → List ℕ) (l : List ℕ) → ((i : ℕ) → f i ≡ g i) → joined f l ≡ joined g l
unfolding joined
joined-ext f g [] h = refl
joined-ext f g (y ∷ l) h = rw (h y, joined-ext f g l h)

-- ---- "The old edge keeps the start": another end

module _ (s : List ℕ) (v : ℕ) (long : length s ≡ 16) where
  abbrev first : List ℕ
  first = over 2 (1 ∷ v ∷ []) s

  pub first-before : (q : ℕ) → q < 2 → word first q ≡ word s q
  first-before q h = entry-before 2 q (1 ∷ v ∷ []) s 0 h (omega arith)

  pub first-behind : (q : ℕ) → 4 ≤ q → word first q ≡ word s q
  first-behind q h = entry-behind 2 q (1 ∷ v ∷ []) s 0 h (omega arith)

  first-end : (word first 2 ≡ 1) × (word first 3 ≡ v)
  first-end = (entry-written 2 0 (1 ∷ v ∷ []) s 0 (omega arith) (omega arith), entry-written 2 1 (1 ∷ v ∷ []) s 0 (omega arith) (omega arith))

  first-list : list_at first 7 ≡ list_at s 7
  unfolding list_at
  first-list =
      ap (λ (n : ℕ). take n (drop 8 first)) (first-behind 7 (omega arith))
      ∙ part-behind 2 8 (word s 7) (1 ∷ v ∷ []) s (omega arith) (omega arith)

  pub first-means : (x : List Float)
      → edge_of first x
      ≡ record { fins = (edge_of s x).fins; start = (edge_of s x).start; end = some v; curve = (edge_of s x).curve; tolerance = (edge_of s x).tolerance }
  first-means x =
      rw (
        first-list,
        first-before 0 (omega arith),
        first-before 1 (omega arith),
        first-end.0,
        first-end.1,
        first-behind 4 (omega arith),
        first-behind 5 (omega arith),
        first-behind 6 (omega arith),
      )

  pub first-ok : (x : List Float) → edge_ok s x ≡ true → edge_ok first x ≡ true
  first-ok x ok =
      let a = and_both (leb (word s 0) 1 && leb (word s 2) 1 && leb (word s 4) 1 && leb (word s 6) 1 && leb (word s 7) 8) (own_ok (word s 6) (real x 0)) ok in
      let b = and_both (leb (word s 0) 1 && leb (word s 2) 1 && leb (word s 4) 1 && leb (word s 6) 1) (leb (word s 7) 8) a.0 in
      let c = and_both (leb (word s 0) 1 && leb (word s 2) 1 && leb (word s 4) 1) (leb (word s 6) 1) b.0 in
      let d = and_both (leb (word s 0) 1 && leb (word s 2) 1) (leb (word s 4) 1) c.0 in
      let g = and_both (leb (word s 0) 1) (leb (word s 2) 1) d.0 in
      rw (
        first-before 0 (omega arith),
        first-end.0,
        first-behind 4 (omega arith),
        first-behind 6 (omega arith),
        first-behind 7 (omega arith),
        g.0,
        d.1,
        c.1,
        b.1,
        a.1,
      )

-- ---- "the new one the end, curve and tolerance"

module _ (s r : List ℕ) (v u n : ℕ) (long : length r ≡ 16) (few : n ≤ 8) where
  abbrev seven : List ℕ
  seven = 1 ∷ v ∷ word s 2 ∷ word s 3 ∷ word s 4 ∷ word s 5 ∷ word s 6 ∷ []

  abbrev front : List ℕ
  front = over 0 seven r

  abbrev second : List ℕ
  second = over 0 (second_fields s v u n) r

  runs : length (run u n) ≡ n
  runs = length_run u n

  -- its fields, then its list
  pub second-listed : second ≡ with_list 7 (run u n) front
  unfolding with_list second_fields
  second-listed =
      let l = runs in
      ap (λ (k : ℕ). over 0 (seven ++ (k ∷ run u n)) r) (sym l) ∙ sym (over-behind 0 seven (length (run u n) ∷ run u n) r (omega arith))

  pub front_long : length front ≡ 16
  front_long = length_over 0 seven r (omega arith) ∙ long

  pub front-word : (q : ℕ) → q < 7 → word front q ≡ word seven q
  front-word q h = ap (word front) (sym (zero-add q)) ∙ entry-written 0 q seven r 0 h (omega arith)

  pub second-means : (x y : List Float) → real y 0 ≡ real x 0
      → edge_of second y
      ≡ record { fins = run u n; start = some v; end = (edge_of s x).end; curve = (edge_of s x).curve; tolerance = (edge_of s x).tolerance }
  second-means x y e =
      let l = runs in
      ap (λ (k : List ℕ). edge_of k y) second-listed
      ∙ edge-list (run u n) front y front_long (omega arith)
      ∙ rw (
        front-word 0 (omega arith),
        front-word 1 (omega arith),
        front-word 2 (omega arith),
        front-word 3 (omega arith),
        front-word 4 (omega arith),
        front-word 5 (omega arith),
        front-word 6 (omega arith),
        e,
      )

  second_word : (q : ℕ) → q < 7 → word second q ≡ word seven q
  second_word q h =
      let l = runs in
      let f = front_long in
      ap (λ (k : List ℕ). word k q) second-listed ∙ word-before 7 (run u n) front (omega arith) q h ∙ front-word q h

  second-count : word second 7 ≡ n
  second-count =
      let l = runs in
      let f = front_long in
      ap (λ (k : List ℕ). word k 7) second-listed ∙ word-length 7 (run u n) front (omega arith) ∙ l

  pub second-ok : (x y : List Float) → real y 0 ≡ real x 0 → edge_ok s x ≡ true → edge_ok second y ≡ true
  second-ok x y e ok =
      let a = and_both (leb (word s 0) 1 && leb (word s 2) 1 && leb (word s 4) 1 && leb (word s 6) 1 && leb (word s 7) 8) (own_ok (word s 6) (real x 0)) ok in
      let b = and_both (leb (word s 0) 1 && leb (word s 2) 1 && leb (word s 4) 1 && leb (word s 6) 1) (leb (word s 7) 8) a.0 in
      let c = and_both (leb (word s 0) 1 && leb (word s 2) 1 && leb (word s 4) 1) (leb (word s 6) 1) b.0 in
      let d = and_both (leb (word s 0) 1 && leb (word s 2) 1) (leb (word s 4) 1) c.0 in
      let g = and_both (leb (word s 0) 1) (leb (word s 2) 1) d.0 in
      rw (
        second_word 0 (omega arith),
        second_word 2 (omega arith),
        second_word 4 (omega arith),
        second_word 6 (omega arith),
        second-count,
        e,
        g.1,
        d.1,
        c.1,
        le-leb n 8 few,
        a.1,
      )
