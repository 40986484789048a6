-- The model of readable memory is one that 01's tables hold. Assumes nothing.
use Rattle.std.specs.Prelude.{ℕ, ◌≤◌, ◌<◌, ◌≡◌, refl, Bool, true, false, cond, ◌&&◌, ◌||◌, List, eqb, leb, length, Float}
use Rattle.std.proofs.Common.{arith, le-leb}
use Rattle.geom_lines_planes.specs.declared.tolerance.Tolerance.TheVariants.{Own, Session}
use Rattle.meaning.specs.Lists.{all_below}
use Rattle.meaning.specs.Edits.{tolerance_ok}
use Rattle.meaning_list_laws.specs.Tests.{and_both, every-cons, every-none, all_below-all}
use Rattle.memory_layout.specs.Names.{BODIES, REGIONS, SHELLS, FACES, LOOPS, FINS, EDGES, VERTICES, CURVES, SURFACES, BODY_REGIONS, REGION_SHELLS, SHELL_FACES, SHELL_WIRES, SHELL_ACORNS, FACE_LOOPS, LOOP_FINS, EDGE_FINS}
use Rattle.memory_layout.specs.Layout.{largest_tables, word, real, words_of, reals_of}
use Rattle.memory_layout.specs.Decode.{tolerance_of, decode}
use Rattle.memory_layout.specs.Readable.{own_ok, record_ok}
use Rattle.memory_layout.specs.Entries.{list_tables, list_limits, list_of}
use Rattle.memory_layout.specs.Fit.{Fit}
use Rattle.memory_layout.specs.Laws.{lists_of}
use Rattle.memory_layout.proofs.Laws.{listed_le}
use Rattle.image_format.specs.Image.{held}

tolerance-held : (n : ℕ) (t : Float) → own_ok n t ≡ true → tolerance_ok (tolerance_of n t) ≡ true
tolerance-held n t h = by (eqb n 0) h
  where
    by : (b : Bool) → (b || tolerance_ok (Own t)) ≡ true → tolerance_ok (cond b Session (Own t)) ≡ true
    by true e = refl
    by false e = e

-- an own tolerance of a readable record is ok
edge-own : (v : List ℕ) (y : List Float) → record_ok EDGES v y ≡ true → own_ok (word v 6) (real y 0) ≡ true
unfolding record_ok
edge-own v y h = (and_both (leb (word v 0) 1 && leb (word v 2) 1 && leb (word v 4) 1 && leb (word v 6) 1 && leb (word v 7) 8) (own_ok (word v 6) (real y 0)) h).1

vertex-own : (v : List ℕ) (y : List Float) → record_ok VERTICES v y ≡ true → own_ok (word v 0) (real y 3) ≡ true
unfolding record_ok
vertex-own v y h = (and_both (leb (word v 0) 1) (own_ok (word v 0) (real y 3)) h).1

module _ (room w : List ℕ) (x : List Float) (fit : Fit room w x) where
  -- list j of its record i is within its limit
  listed : (j i : ℕ) → j < 8 → i < word w (word list_tables j) → leb (length (list_of room w j i)) (word list_limits j) ≡ true
  listed j i h q = le-leb (length (list_of room w j i)) (word list_limits j) (listed_le room w j i (lists_of room w x fit) h q)

  -- a table with a test that each of its records passes
  table : (k : ℕ) (p : ℕ → Bool) → k < 10 → ((i : ℕ) → i < word w k → p i ≡ true) → (leb (word w k) (word largest_tables k) && all_below p (word w k)) ≡ true
  table k p h all =
      let counted : word w k ≤ word room k = fit.sized.counts k h in
      let small : word room k ≤ word largest_tables k = fit.sized.small.small k h in
      rw (le-leb (word w k) (word largest_tables k) (omega arith)) (all_below-all p (word w k) all)

  edge-held : (i : ℕ) → i < word w EDGES → tolerance_ok (tolerance_of (word (words_of room w EDGES i) 6) (real (reals_of room x EDGES i) 0)) ≡ true
  edge-held i h = tolerance-held (word (words_of room w EDGES i) 6) (real (reals_of room x EDGES i) 0) (edge-own (words_of room w EDGES i) (reals_of room x EDGES i) (fit.rows EDGES i (omega arith) h))

  vertex-held : (i : ℕ) → i < word w VERTICES → tolerance_ok (tolerance_of (word (words_of room w VERTICES i) 0) (real (reals_of room x VERTICES i) 3)) ≡ true
  vertex-held i h = tolerance-held (word (words_of room w VERTICES i) 0) (real (reals_of room x VERTICES i) 3) (vertex-own (words_of room w VERTICES i) (reals_of room x VERTICES i) (fit.rows VERTICES i (omega arith) h))

  pub lent-held : held (decode room w x) ≡ true
  unfolding held decode list_of
  lent-held =
      every-cons _ _ fit.precision
      (every-cons _ _ (table BODIES _ (omega arith) (λ i h. listed BODY_REGIONS i (omega arith) h))
      (every-cons _ _ (table REGIONS _ (omega arith) (λ i h. listed REGION_SHELLS i (omega arith) h))
      (every-cons _ _ (table SHELLS _ (omega arith) (λ i h. rw (listed SHELL_FACES i (omega arith) h, listed SHELL_WIRES i (omega arith) h) (listed SHELL_ACORNS i (omega arith) h)))
      (every-cons _ _ (table FACES _ (omega arith) (λ i h. listed FACE_LOOPS i (omega arith) h))
      (every-cons _ _ (table LOOPS _ (omega arith) (λ i h. listed LOOP_FINS i (omega arith) h))
      (every-cons _ _ (table FINS _ (omega arith) (λ i h. refl))
      (every-cons _ _ (table EDGES _ (omega arith) (λ i h. rw (listed EDGE_FINS i (omega arith) h) (edge-held i h)))
      (every-cons _ _ (table VERTICES _ (omega arith) vertex-held)
      (every-cons _ _ (table CURVES _ (omega arith) (λ i h. refl))
      (every-cons _ _ (table SURFACES _ (omega arith) (λ i h. refl)) every-none))))))))))
