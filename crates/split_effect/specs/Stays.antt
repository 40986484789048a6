-- The memory behind an accepted split is readable. Assumes nothing.
use Prim.Native.Nat.{ℕ, zero, suc, ◌+◌, ◌-◌, ◌≤◌, ◌<◌}
use Rattle.std.proofs.Common.{arith, ◌∙◌, inl, inr, eqb-true, ltb-true, ltb-false}
use Rattle.std.specs.Prelude.{◌≡◌, ◌⊎◌, Bool, true, false, ◌&&◌, eqb, ltb, length}
use Rattle.std.proofs.Math.Path.{refl, ap}
use mathlib.Core.List.{List, [], ◌∷◌}
use Rattle.std.proofs.Math.Dec.{leb}
use Rattle.std.specs.Float.Ieee.{Float}
use Rattle.std.proofs.lemmas.Bool.{eqb-false}
use Rattle.meaning.specs.Lists.{joined}
use Rattle.meaning.specs.Edits.{precision_ok}
use Rattle.meaning_list_laws.specs.Tests.{and_both}
use Rattle.memory_layout.specs.Layout.{word, real, words_of, reals_of}
use Rattle.memory_layout.specs.Readable.{version_ok, own_ok, edge_ok, record_ok}
use Rattle.memory_layout.specs.Entries.{list_of}
use Rattle.memory_layout.specs.Fit.{Fit}
use Rattle.edit_lists.specs.Records.{still-ok}
use Rattle.split_lists.specs.Beside.{entries_for}
use Rattle.split_pieces.specs.Pieces.{fin_word, fin_words, new_fin_words}
use Rattle.split_pieces.specs.Laws.{edge-long}
use Rattle.split_edge.specs.Named.{nth-map}
use Rattle.split_edge.specs.Rooms.{Accepted, loop-fits, shell-fits}
use Rattle.split_effect.specs.Reads.{n, fins-long, w', x', room-kept, words_long, head-else, used-else, used-fins, used-edges, used-vertices, reads, in_use, shell-words, loop-words, old-fin, new-fin, first-half, second-half, there, old-edge, first_edge, second-edge, old-vertex, new-vertex, tolerance, reals-long, precision-same, floats_same, edge-floats, vertex-floats, record-long}
use Rattle.split_effect.specs.Fields.{first-behind, first-ok, second-ok}

module _ (room w : List ℕ) (x : List Float) (e : ℕ) (t : Float) (a : Accepted room w x e t) where
  abbrev wa : List ℕ
  wa = w' room w x e t a

  abbrev xa : List Float
  xa = x' room w x e t a

  abbrev ok : ℕ → ℕ → Type 0
  ok k i = record_ok k (words_of room wa k i) (reals_of room xa k i) ≡ true

  -- ---- the counts

  count-else : (q : ℕ) → q < 10 → (q < 5) ⊎ (7 < q) → word wa q ≤ word room q
  count-else q h o = let u = used-else room w x e t a q h o in let c = a.fit.sized.counts q h in omega arith

  counts : (q : ℕ) → q < 10 → word wa q ≤ word room q
  counts zero h = count-else 0 h (inl (omega arith))
  counts (suc zero) h = count-else 1 h (inl (omega arith))
  counts (suc (suc zero)) h = count-else 2 h (inl (omega arith))
  counts (suc (suc (suc zero))) h = count-else 3 h (inl (omega arith))
  counts (suc (suc (suc (suc zero)))) h = count-else 4 h (inl (omega arith))
  counts (suc (suc (suc (suc (suc zero))))) h = let u = used-fins room w x e t a in let f = (room-kept room w x e t a).fins in omega arith
  counts (suc (suc (suc (suc (suc (suc zero)))))) h = let u = used-edges room w x e t a in let f = (room-kept room w x e t a).edges in omega arith
  counts (suc (suc (suc (suc (suc (suc (suc zero))))))) h = let u = used-vertices room w x e t a in let f = (room-kept room w x e t a).vertices in omega arith
  counts (suc (suc (suc (suc (suc (suc (suc (suc q)))))))) h = count-else (suc (suc (suc (suc (suc (suc (suc (suc q)))))))) h (inr (omega arith))

  -- ---- a record that is as it was

  floats-kept : (k i : ℕ) → k < 10 → i < word w k → reals_of room xa k i ≡ reals_of room x k i
  floats-kept k i h g = floats_same room w x e t a k i (in_use room w x e t a k i h g) (λ d q. gone d q) (λ d q. gone d q)
    where
      gone : {b : ℕ} → b ≡ k → word w b ≡ i → ⊥
      gone {b} d q = let c : word w b ≡ word w k = ap (word w) d in omega arith

  as_it_was : (k i : ℕ) → k < 10 → i < word w k → words_of room wa k i ≡ words_of room w k i → ok k i
  as_it_was k i h g q =
      ap (λ (r : List ℕ). record_ok k r (reals_of room xa k i)) q ∙ ap (record_ok k (words_of room w k i)) (floats-kept k i h g) ∙ a.fit.rows k i h g

  untouched : (k i : ℕ) → k < 10 → (k < 5) ⊎ (7 < k) → i < word wa k → (i < word room k → words_of room wa k i ≡ words_of room w k i) → ok k i
  untouched k i h o g q =
      let u = used-else room w x e t a k h o in
      let l : i < word w k = omega arith in
      as_it_was k i h l (q (in_use room w x e t a k i h l))

  -- ---- records with a longer list

  shell-ok : (i : ℕ) → i < word wa 2 → ok 2 i
  shell-ok i g =
      let u = used-else room w x e t a 2 (omega arith) (inl (omega arith)) in
      let l : i < word w 2 = omega arith in
      ap (λ (r : List ℕ). record_ok 2 r (reals_of room xa 2 i)) (shell-words room w x e t a i l)
      ∙ ap (record_ok 2 _) (floats-kept 2 i (omega arith) l)
      ∙ still-ok 3 (joined (entries_for (e ∷ []) (0 ∷ []) (0 ∷ []) 0 (word w 6)) (list_of room w 3 i)) (words_of room w 2 i) (reals_of room x 2 i) (omega arith) (record-long room w x e t a 2 i (omega arith) l)
      (shell-fits room w x e t a i l) (a.fit.rows 2 i (omega arith) l)

  loop-ok : (i : ℕ) → i < word wa 4 → ok 4 i
  loop-ok i g =
      let u = used-else room w x e t a 4 (omega arith) (inl (omega arith)) in
      let l : i < word w 4 = omega arith in
      let f : List ℕ = list_of room w 7 e in
      ap (λ (r : List ℕ). record_ok 4 r (reals_of room xa 4 i)) (loop-words room w x e t a i l)
      ∙ ap (record_ok 4 _) (floats-kept 4 i (omega arith) l)
      ∙ still-ok 6 (joined (entries_for f (fin_words room w 0 f) (fin_words room w 2 f) i (word w 5)) (list_of room w 6 i)) (words_of room w 4 i) (reals_of room x 4 i) (omega arith) (record-long room w x e t a 4 i (omega arith) l)
      (loop-fits room w x e t a i l) (a.fit.rows 4 i (omega arith) l)

  -- ---- fins

  new-fin-ok : (k : ℕ) (y : List Float) → k < length (list_of room w 7 e)
      → record_ok 5 (new_fin_words (fin_words room w 0 (list_of room w 7 e)) (fin_words room w 2 (list_of room w 7 e)) (word w 6) k) y ≡ true
  unfolding record_ok new_fin_words fin_words fin_word
  new-fin-ok k y h =
      let i : ℕ = word (list_of room w 7 e) k in
      let r : List ℕ = words_of room w 5 i in
      let c = and_both (leb (word r 2) 1) (leb (word r 3) 1) (a.fit.rows 5 i (omega arith) (a.opens.fins.there k h)) in
      rw (nth-map (fin_word room w 2) (list_of room w 7 e) k h, c.0)

  fin-ok : (i : ℕ) → i < word wa 5 → ok 5 i
  fin-ok i g = let u = used-fins room w x e t a in go (ltb i (word w 5)) (omega arith) (ltb-true i (word w 5)) (ltb-false i (word w 5))
    where
      go : (b : Bool) → i < word w 5 + n room w x e t a → (b ≡ true → i < word w 5) → (b ≡ false → word w 5 ≤ i) → ok 5 i
      go true h y o = as_it_was 5 i (omega arith) (y refl) (old-fin room w x e t a i (y refl))
      go false h y o =
          let p = o refl in
          let l = fins-long room w x e t a in
          ap (λ (r : List ℕ). record_ok 5 r (reals_of room xa 5 i)) (new-fin room w x e t a i p h) ∙ new-fin-ok (i - word w 5) (reals_of room xa 5 i) (omega arith)

  -- ---- edges and vertices

  edge-ok : edge_ok (words_of room w 6 e) (reals_of room x 6 e) ≡ true
  unfolding record_ok
  edge-ok = a.fit.rows 6 e (omega arith) (there room w x e t a)

  first-there : ok 6 e
  unfolding record_ok
  first-there =
      let h = there room w x e t a in
      ap (λ (r : List ℕ). edge_ok r (reals_of room xa 6 e)) (first_edge room w x e t a)
      ∙ ap (edge_ok (first-half room w x e t a)) (floats-kept 6 e (omega arith) h)
      ∙ first-ok (words_of room w 6 e) (word w 7) (record-long room w x e t a 6 e (omega arith) h) (reals_of room x 6 e) edge-ok

  second-there : ok 6 (word w 6)
  unfolding record_ok
  second-there =
      let s = room-kept room w x e t a in
      ap (λ (r : List ℕ). edge_ok r (reals_of room xa 6 (word w 6))) (second-edge room w x e t a)
      ∙ ap (edge_ok (second-half room w x e t a)) (edge-floats room w x e t a)
      ∙ second-ok (words_of room w 6 e) (words_of room w 6 (word w 6)) (word w 7) (word w 5) (n room w x e t a) (edge-long room w (n room w x e t a) s (word w 6) (omega arith)) s.few
      (reals_of room x 6 e) (tolerance room w x e t a ∷ []) refl edge-ok

  edges-ok : (i : ℕ) → i < word wa 6 → ok 6 i
  edges-ok i g =
      let u = used-edges room w x e t a in
      go (ltb i (word w 6)) (eqb i e) (omega arith) (ltb-true i (word w 6)) (ltb-false i (word w 6)) (eqb-true i e) (eqb-false i e)
    where
      go : (b c : Bool) → i < word w 6 + 1 → (b ≡ true → i < word w 6) → (b ≡ false → word w 6 ≤ i) → (c ≡ true → i ≡ e) → (c ≡ false → i ≡ e → ⊥) → ok 6 i
      go true true h y o p q = rw (p refl) first-there
      go true false h y o p q = as_it_was 6 i (omega arith) (y refl) (old-edge room w x e t a i (y refl) (q refl))
      go false c h y o p q = let l = o refl in let d : i ≡ word w 6 = omega arith in rw d second-there

  vertex-there : ok 7 (word w 7)
  unfolding record_ok
  vertex-there =
      let s : List ℕ = words_of room w 6 e in
      let y : List Float = reals_of room x 6 e in
      let p = and_both (leb (word s 0) 1 && leb (word s 2) 1 && leb (word s 4) 1 && leb (word s 6) 1 && leb (word s 7) 8) (own_ok (word s 6) (real y 0)) edge-ok in
      let q = and_both (leb (word s 0) 1 && leb (word s 2) 1 && leb (word s 4) 1 && leb (word s 6) 1) (leb (word s 7) 8) p.0 in
      let c = and_both (leb (word s 0) 1 && leb (word s 2) 1 && leb (word s 4) 1) (leb (word s 6) 1) q.0 in
      let tag : word (first-half room w x e t a) 6 ≡ word s 6 = first-behind s (word w 7) (record-long room w x e t a 6 e (omega arith) (there room w x e t a)) 6 (omega arith) in
      rw (new-vertex room w x e t a, vertex-floats room w x e t a, tag, c.1, p.1)

  vertices-ok : (i : ℕ) → i < word wa 7 → ok 7 i
  vertices-ok i g = let u = used-vertices room w x e t a in go (ltb i (word w 7)) (omega arith) (ltb-true i (word w 7)) (ltb-false i (word w 7))
    where
      go : (b : Bool) → i < word w 7 + 1 → (b ≡ true → i < word w 7) → (b ≡ false → word w 7 ≤ i) → ok 7 i
      go true h y o = as_it_was 7 i (omega arith) (y refl) (old-vertex room w x e t a i (y refl))
      go false h y o = let l = o refl in let d : i ≡ word w 7 = omega arith in rw d vertex-there

  -- ---- all of them

  rows : (k i : ℕ) → k < 10 → i < word wa k → ok k i
  rows zero i h g = untouched 0 i h (inl (omega arith)) g (reads room w x e t a 0 i)
  rows (suc zero) i h g = untouched 1 i h (inl (omega arith)) g (reads room w x e t a 1 i)
  rows (suc (suc zero)) i h g = shell-ok i g
  rows (suc (suc (suc zero))) i h g = untouched 3 i h (inl (omega arith)) g (reads room w x e t a 3 i)
  rows (suc (suc (suc (suc zero)))) i h g = loop-ok i g
  rows (suc (suc (suc (suc (suc zero))))) i h g = fin-ok i g
  rows (suc (suc (suc (suc (suc (suc zero)))))) i h g = edges-ok i g
  rows (suc (suc (suc (suc (suc (suc (suc zero))))))) i h g = vertices-ok i g
  rows (suc (suc (suc (suc (suc (suc (suc (suc zero)))))))) i h g = untouched 8 i h (inr (omega arith)) g (reads room w x e t a 8 i)
  rows (suc (suc (suc (suc (suc (suc (suc (suc (suc zero))))))))) i h g = untouched 9 i h (inr (omega arith)) g (reads room w x e t a 9 i)
  rows (suc (suc (suc (suc (suc (suc (suc (suc (suc (suc k)))))))))) i h g = absurd (omega arith)

  pub fit-split : Fit room wa xa
  fit-split =
      let s = a.fit.sized in
      let l = words_long room w x e t a in
      let r = reals-long room w x e t a in
      record {
        sized = record {
          small = s.small;
          words = omega (arith, s.words);
          reals = omega (arith, s.reals);
          counts = counts;
        };
        version = ap version_ok (head-else room w x e t a 10 (omega arith) (inr (omega arith))) ∙ a.fit.version;
        precision = ap precision_ok (precision-same room w x e t a) ∙ a.fit.precision;
        rows = rows;
      }
