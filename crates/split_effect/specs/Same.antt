-- The memory behind an accepted split holds the model that `meaning` says. Assumes nothing.
use Prim.Native.Nat.{ℕ, ◌+◌, ◌-◌, ◌≤◌, ◌<◌}
use native.Mathlib.Omega.{arith}
use Rattle.std.specs.Prelude.{◌≡◌, ◌⊎◌, Bool, eqb, ltb, get_or, Float}
use Rattle.std.proofs.Math.Path.{refl, ap}
use Rattle.std.proofs.Common.{◌∙◌, inl, inr, eqb-true, ltb-true, ltb-false}
use Rattle.std.proofs.Math.Bool.{true, false, cond}
use mathlib.Core.List.{List, [], ◌∷◌}
use Rattle.std.proofs.Math.ListN.{length}
use Rattle.std.proofs.lemmas.Bool.{eqb-false}
use Rattle.std.proofs.Math.Option.{some}
use Rattle.meaning.specs.Lists.{run, joined}
use Rattle.meaning.specs.Model.{Model, Edge, extended, changed, edge}
use Rattle.meaning.specs.Split.{with_new, split_shell, split_loop, first_half, second_half, fin_copy, after_split, split_point}
use Rattle.memory_layout.specs.Layout.{word, words_of, reals_of}
use Rattle.memory_layout.specs.Decode.{version_of, table, body_of, region_of, shell_of, face_of, loop_of, fin_of, edge_of, vertex_of, carrier_of, decode}
use Rattle.memory_layout.specs.Entries.{list_of}
use Rattle.memory_layout.specs.Laws.{lists_of}
use Rattle.memory_writes.specs.Change.{SameTable, SameModel}
use Rattle.edit_lists.specs.Records.{shell-wires, loop-list}
use Rattle.split_lists.specs.Beside.{entries_for}
use Rattle.split_pieces.specs.Pieces.{fin_word, fin_words, new_fin_words}
use Rattle.split_pieces.specs.Laws.{edge-long}
use Rattle.split_edge.specs.Named.{nth-map, entries-fin, entries-wire}
use Rattle.split_edge.specs.Rooms.{Accepted, loop-fits, shell-fits}
use Rattle.split_effect.specs.Reads.{fins, n, fins-long, w', x', room-kept, head-else, used-else, used-fins, used-edges, used-vertices, reads, in_use, shell-words, loop-words, old-fin, new-fin, first-half, second-half, there, old-edge, first_edge, second-edge, old-vertex, new-vertex, tolerance, point, precision-same, floats_same, edge-floats, vertex-floats, record-long}
use Rattle.split_effect.specs.Fields.{joined-ext, first-behind, first-means, second-means}

module _ (room w : List ℕ) (x : List Float) (e : ℕ) (t : Float) (a : Accepted room w x e t) where
  abbrev m : Model
  m = decode room w x

  abbrev wa : List ℕ
  wa = w' room w x e t a

  abbrev xa : List Float
  xa = x' room w x e t a

  -- ---- the tables that the split does not touch

  table_same : {A : Type 0} (of : List ℕ → List Float → A) (k : ℕ) → k < 10 → word wa k ≡ word w k
      → ((j : ℕ) → j < word room k → words_of room wa k j ≡ words_of room w k j)
      → ((j : ℕ) → j < word room k → reals_of room xa k j ≡ reals_of room x k j)
      → SameTable (table room wa xa k of) (table room w x k of)
  table_same of k h u f g =
      record {
        used = u;
        slots = λ j l.
            let q : j < word room k = in_use room w x e t a k j h (omega arith) in
            ap (λ (r : List ℕ). of r (reals_of room xa k j)) (f j q) ∙ ap (of (words_of room w k j)) (g j q);
      }

  -- ---- shells and loops

  shell-at : (j : ℕ) → j < word w 2 → shell_of (words_of room wa 2 j) ≡ split_shell m e j (shell_of (words_of room w 2 j))
  unfolding decode list_of
  shell-at j h =
      let r : List ℕ = words_of room w 2 j in
      ap shell_of (shell-words room w x e t a j h)
      ∙ shell-wires (joined (entries_for (e ∷ []) (0 ∷ []) (0 ∷ []) 0 (word w 6)) (list_of room w 3 j)) r (record-long room w x e t a 2 j (omega arith) h)
      ((lists_of room w x a.fit).short 2 j (omega arith) h) (shell-fits room w x e t a j h)
      ∙ ap (λ (l : List ℕ). record { region = (shell_of r).region; faces = (shell_of r).faces; wire_edges = l; acorn_vertices = (shell_of r).acorn_vertices })
      (joined-ext _ _ (list_of room w 3 j) (entries-wire e (word w 6)))

  loop-at : (j : ℕ) → j < word w 4 → loop_of (words_of room wa 4 j) ≡ split_loop m e j (loop_of (words_of room w 4 j))
  unfolding decode list_of fin_word
  loop-at j h =
      let r : List ℕ = words_of room w 4 j in
      let f : List ℕ = list_of room w 7 e in
      ap loop_of (loop-words room w x e t a j h)
      ∙ loop-list (joined (entries_for f (fin_words room w 0 f) (fin_words room w 2 f) j (word w 5)) (list_of room w 6 j)) r (record-long room w x e t a 4 j (omega arith) h) (loop-fits room w x e t a j h)
      ∙ ap (λ (l : List ℕ). record { face = (loop_of r).face; fins = l }) (joined-ext _ (with_new m e j) (list_of room w 6 j) (entries-fin room w f j (word w 5)))

  shells-same : SameTable (table room wa xa 2 (λ s _. shell_of s)) (changed (table room w x 2 (λ s _. shell_of s)) (split_shell m e))
  unfolding changed
  shells-same =
      let u = used-else room w x e t a 2 (omega arith) (inl (omega arith)) in
      record { used = u; slots = λ j l. shell-at j (omega arith) }

  loops-same : SameTable (table room wa xa 4 (λ s _. loop_of s)) (changed (table room w x 4 (λ s _. loop_of s)) (split_loop m e))
  unfolding changed
  loops-same =
      let u = used-else room w x e t a 4 (omega arith) (inl (omega arith)) in
      record { used = u; slots = λ j l. loop-at j (omega arith) }

  -- ---- fins

  new-fin-means : (k : ℕ) → k < length (list_of room w 7 e)
      → fin_of (new_fin_words (fin_words room w 0 (list_of room w 7 e)) (fin_words room w 2 (list_of room w 7 e)) (word w 6) k) ≡ fin_copy m (get_or (list_of room w 7 e) k 0)
  unfolding decode new_fin_words fin_words fin_word
  new-fin-means k h = rw (nth-map (fin_word room w 0) (list_of room w 7 e) k h, nth-map (fin_word room w 2) (list_of room w 7 e) k h)

  fins-same : SameTable (table room wa xa 5 (λ s _. fin_of s))
      (extended (table room w x 5 (λ s _. fin_of s)) (length (list_of room w 7 e)) (λ k. fin_copy m (get_or (list_of room w 7 e) k 0)))
  unfolding extended
  fins-same =
      let u = used-fins room w x e t a in
      let f = fins-long room w x e t a in
      record {
        used = u ∙ ap (λ (k : ℕ). word w 5 + k) f;
        slots = λ j l. at (ltb j (word w 5)) j (omega arith) (ltb-true j (word w 5)) (ltb-false j (word w 5));
      }
    where
      at : (b : Bool) (j : ℕ) → j < word w 5 + length (list_of room w 7 e) → (b ≡ true → j < word w 5) → (b ≡ false → word w 5 ≤ j)
          → fin_of (words_of room wa 5 j) ≡ cond b (fin_of (words_of room w 5 j)) (fin_copy m (get_or (list_of room w 7 e) (j - word w 5) 0))
      at true j g y n = ap fin_of (old-fin room w x e t a j (y refl))
      at false j g y n =
          let h = n refl in
          let f = fins-long room w x e t a in
          ap fin_of (new-fin room w x e t a j h (omega arith)) ∙ new-fin-means (j - word w 5) (omega arith)

  -- ---- edges

  edge-words-long : length (words_of room w 6 e) ≡ 16
  edge-words-long = record-long room w x e t a 6 e (omega arith) (there room w x e t a)

  first-at : edge_of (words_of room wa 6 e) (reals_of room xa 6 e) ≡ first_half m (edge_of (words_of room w 6 e) (reals_of room x 6 e))
  unfolding decode
  first-at =
      let h = there room w x e t a in
      ap (λ (r : List ℕ). edge_of r (reals_of room xa 6 e)) (first_edge room w x e t a)
      ∙ ap (edge_of (first-half room w x e t a)) (floats_same room w x e t a 6 e (in_use room w x e t a 6 e (omega arith) h) (λ _ q. omega arith) (λ d _. omega arith))
      ∙ first-means (words_of room w 6 e) (word w 7) edge-words-long (reals_of room x 6 e)

  second_at : edge_of (words_of room wa 6 (word w 6)) (reals_of room xa 6 (word w 6)) ≡ second_half m (edge m e)
  unfolding decode list_of
  second_at =
      let s = room-kept room w x e t a in
      ap (λ (r : List ℕ). edge_of r (reals_of room xa 6 (word w 6))) (second-edge room w x e t a)
      ∙ ap (edge_of (second-half room w x e t a)) (edge-floats room w x e t a)
      ∙ second-means (words_of room w 6 e) (words_of room w 6 (word w 6)) (word w 7) (word w 5) (n room w x e t a) (edge-long room w (n room w x e t a) s (word w 6) (omega arith)) s.few
      (reals_of room x 6 e) (tolerance room w x e t a ∷ []) refl
      ∙ ap (λ (k : ℕ). second_of k) (fins-long room w x e t a)
    where
      second_of : ℕ → Edge
      second_of k =
          record {
            fins = run (word w 5) k;
            start = some (word w 7);
            end = (edge m e).end;
            curve = (edge m e).curve;
            tolerance = (edge m e).tolerance;
          }

  edges-same : SameTable (table room wa xa 6 edge_of)
      (extended (changed (table room w x 6 edge_of) (λ i r. cond (eqb i e) (first_half m r) r)) 1 (λ k. second_half m (edge m e)))
  unfolding extended changed
  edges-same =
      let u = used-edges room w x e t a in
      record {
        used = u;
        slots = λ j l. at (ltb j (word w 6)) (eqb j e) j (omega arith) (ltb-true j (word w 6)) (ltb-false j (word w 6)) (eqb-true j e) (eqb-false j e);
      }
    where
      at : (b c : Bool) (j : ℕ) → j < word w 6 + 1 → (b ≡ true → j < word w 6) → (b ≡ false → word w 6 ≤ j) → (c ≡ true → j ≡ e) → (c ≡ false → j ≡ e → ⊥)
          → edge_of (words_of room wa 6 j) (reals_of room xa 6 j)
          ≡ cond b (cond c (first_half m (edge_of (words_of room w 6 j) (reals_of room x 6 j))) (edge_of (words_of room w 6 j) (reals_of room x 6 j))) (second_half m (edge m e))
      at true true j g y n p o = rw (p refl) first-at
      at true false j g y n p o =
          let h = y refl in
          ap (λ (r : List ℕ). edge_of r (reals_of room xa 6 j)) (old-edge room w x e t a j h (o refl))
          ∙ ap (edge_of (words_of room w 6 j)) (floats_same room w x e t a 6 j (in_use room w x e t a 6 j (omega arith) h) (λ _ q. omega arith) (λ d _. omega arith))
      at false c j g y n p o = let h = n refl in let q : j ≡ word w 6 = omega arith in rw q second_at

  -- ---- vertices

  vertex-at : vertex_of (words_of room wa 7 (word w 7)) (reals_of room xa 7 (word w 7)) ≡ record { point = split_point m e t; tolerance = (edge m e).tolerance }
  unfolding decode
  vertex-at =
      ap (λ (r : List ℕ). vertex_of r (reals_of room xa 7 (word w 7))) (new-vertex room w x e t a ∙ ap (λ (k : ℕ). k ∷ []) (first-behind (words_of room w 6 e) (word w 7) edge-words-long 6 (omega arith)))
      ∙ ap (vertex_of (word (words_of room w 6 e) 6 ∷ [])) (vertex-floats room w x e t a)

  vertices-same : SameTable (table room wa xa 7 vertex_of) (extended (table room w x 7 vertex_of) 1 (λ k. record { point = split_point m e t; tolerance = (edge m e).tolerance }))
  unfolding extended
  vertices-same =
      let u = used-vertices room w x e t a in
      record { used = u; slots = λ j l. at (ltb j (word w 7)) j (omega arith) (ltb-true j (word w 7)) (ltb-false j (word w 7)) }
    where
      at : (b : Bool) (j : ℕ) → j < word w 7 + 1 → (b ≡ true → j < word w 7) → (b ≡ false → word w 7 ≤ j)
          → vertex_of (words_of room wa 7 j) (reals_of room xa 7 j)
          ≡ cond b (vertex_of (words_of room w 7 j) (reals_of room x 7 j)) (record { point = split_point m e t; tolerance = (edge m e).tolerance })
      at true j g y n =
          let h = y refl in
          ap (λ (r : List ℕ). vertex_of r (reals_of room xa 7 j)) (old-vertex room w x e t a j h)
          ∙ ap (vertex_of (words_of room w 7 j)) (floats_same room w x e t a 7 j (in_use room w x e t a 7 j (omega arith) h) (λ d _. omega arith) (λ _ q. omega arith))
      at false j g y n = let h = n refl in let q : j ≡ word w 7 = omega arith in rw q vertex-at

  -- ---- the whole

  pub model-split : SameModel (decode room wa xa) (after_split m e t)
  unfolding decode after_split list_of
  model-split =
      let kept : (k : ℕ) → k < 10 → (k < 6) ⊎ (7 < k) → (j : ℕ) → j < word room k → reals_of room xa k j ≡ reals_of room x k j
      = λ k h o j g. floats_same room w x e t a k j g (λ d _. apart k o (inl d)) (λ d _. apart k o (inr d)) in
      record {
        version = ap version_of (head-else room w x e t a 10 (omega arith) (inr (omega arith)));
        precision = precision-same room w x e t a;
        bodies = table_same (λ l _. body_of l) 0 (omega arith) (used-else room w x e t a 0 (omega arith) (inl (omega arith))) (reads room w x e t a 0) (kept 0 (omega arith) (inl (omega arith)));
        regions = table_same (λ l _. region_of l) 1 (omega arith) (used-else room w x e t a 1 (omega arith) (inl (omega arith))) (reads room w x e t a 1) (kept 1 (omega arith) (inl (omega arith)));
        shells = shells-same;
        faces = table_same (λ l _. face_of l) 3 (omega arith) (used-else room w x e t a 3 (omega arith) (inl (omega arith))) (reads room w x e t a 3) (kept 3 (omega arith) (inl (omega arith)));
        loops = loops-same;
        fins = fins-same;
        edges = edges-same;
        vertices = vertices-same;
        curves = table_same carrier_of 8 (omega arith) (used-else room w x e t a 8 (omega arith) (inr (omega arith))) (reads room w x e t a 8) (kept 8 (omega arith) (inr (omega arith)));
        surfaces = table_same carrier_of 9 (omega arith) (used-else room w x e t a 9 (omega arith) (inr (omega arith))) (reads room w x e t a 9) (kept 9 (omega arith) (inr (omega arith)));
      }
    where
      apart : (k : ℕ) → (k < 6) ⊎ (7 < k) → (6 ≡ k) ⊎ (7 ≡ k) → ⊥
      apart k (inl b) (inl d) = omega arith
      apart k (inl b) (inr d) = omega arith
      apart k (inr b) (inl d) = omega arith
      apart k (inr b) (inr d) = omega arith
