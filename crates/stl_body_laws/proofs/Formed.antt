-- 01, "Well formed": the model behind a reading is well formed where the model before it is. Assumes nothing.
use Prim.Native.Nat.{ℕ, zero, suc, ◌+◌, ◌*◌, ◌/◌, ◌-◌, ◌≤◌, ◌<◌}
use Rattle.std.proofs.Common.{arith, ◌∙◌}
use Rattle.std.proofs.Math.Decide.{dec_lt}
use Rattle.std.specs.Prelude.{◌≡◌, Bool}
use Rattle.std.proofs.Math.Path.{refl, sym, ap, ap₂}
use Rattle.std.proofs.Math.Bool.{true, false, not, ◌&&◌, ◌||◌}
use mathlib.Core.List.{List, [], ◌∷◌}
use Rattle.std.proofs.Math.Option.{Option, none, some}
use Rattle.std.proofs.Math.Dec.{eqb, ltb}
use Rattle.std.proofs.Math.ListN.{length, get_or}
use borrow.Author.Tests.{lt-ltb, ltb-true, eq-eqb, eqb-true, eqb-false, ne_eqb}
use Rattle.meaning.specs.Lists.{run, all, count, rotated, is, same}
use Rattle.meaning.specs.Model.{Model, Limits, Table, Office, Body, Region, Shell, Face, Loop, Fin, Edge, extended, has, body, region, shell, face, loop, fin, edge}
use Rattle.meaning.specs.Walks.{Ends, directed, ends_of}
use Rattle.meaning.specs.Formed.{below_maybe, has_all, has_maybe, StoredIds, bit, Listed, closed, loop_closes, WellFormed}
use Rattle.meaning_list_laws.specs.Tests.{and_both, maybe-weaken}
use Rattle.meaning_list_laws.specs.Lists.{count_none, count-cons, count-above, count-run-before, count-run-in, count-run-after, all_none, all_one, all-run, all-weaken, all_append}
use Rattle.meaning_list_laws.specs.Tables.{extended-old, extended-new}
use Rattle.stl_body.specs.Read.{step, Mesh, has_room, new_body, new_region, new_shell, new_face, new_loop, new_fin, new_edge, built}
use Rattle.stl_body.proofs.Laws.{fins-before, fin-once}
use Rattle.stl_body.specs.Meshes.{Ranged}
use Rattle.stl_body.proofs.Meshes.{ends-both}
use Rattle.stl_body.proofs.Records.{built-grown}
use Rattle.stl_body.proofs.Sound.{meets-there}
use Rattle.stl_body.proofs.Room.{old-and-new, room-kept}
use Rattle.stl_body_laws.specs.Walked.{fins-of}
use Rattle.stl_body_laws.proofs.Uses.{fins-below}

-- ---- "Every stored id names a record"

module _ (m : Model) (o : Office) (t : Mesh) (r : Ranged t) where
  abbrev behind : Model
  behind = built m o t

  ids-kept : StoredIds m → StoredIds behind
  unfolding built extended
  ids-kept s =
      record {
        body-regions = old-and-new (λ (a : Body). has_all behind.regions a.regions ≡ true) m.bodies 1 (λ k. new_body m o) (λ i h. all-weaken m.regions.used (m.regions.used + 2) (body m i).regions (omega arith) (s.body-regions i h)) (λ k h. all-run m.regions.used 2);
        region-body = old-and-new (λ (a : Region). a.body < m.bodies.used + 1) m.regions 2 (new_region m) (λ i h. let z = s.region-body i h in omega arith) (λ k h. omega arith);
        region-shells = old-and-new (λ (a : Region). has_all behind.shells a.shells ≡ true) m.regions 2 (new_region m) (λ i h. all-weaken m.shells.used (m.shells.used + 2) (region m i).shells (omega arith) (s.region-shells i h)) (λ k h. all_one (has behind.shells) (m.shells.used + k) (lt-ltb (m.shells.used + k) (m.shells.used + 2) (omega arith)));
        shell-region = old-and-new (λ (a : Shell). a.region < m.regions.used + 2) m.shells 2 (new_shell m t) (λ i h. let z = s.shell-region i h in omega arith) (λ k h. omega arith);
        shell-faces = old-and-new (λ (a : Shell). has_all behind.faces a.faces ≡ true) m.shells 2 (new_shell m t) (λ i h. all-weaken m.faces.used (m.faces.used + t.triangles) (shell m i).faces (omega arith) (s.shell-faces i h)) (λ k h. all-run m.faces.used t.triangles);
        shell-wire-edges = old-and-new (λ (a : Shell). has_all behind.edges a.wire_edges ≡ true) m.shells 2 (new_shell m t) (λ i h. all-weaken m.edges.used (m.edges.used + length t.edges) (shell m i).wire_edges (omega arith) (s.shell-wire-edges i h)) (λ k h. all_none (has behind.edges));
        shell-acorn-vertices = old-and-new (λ (a : Shell). has_all behind.vertices a.acorn_vertices ≡ true) m.shells 2 (new_shell m t) (λ i h. all-weaken m.vertices.used (m.vertices.used + length t.points) (shell m i).acorn_vertices (omega arith) (s.shell-acorn-vertices i h)) (λ k h. all_none (has behind.vertices));
        face-front = old-and-new (λ (a : Face). has_maybe behind.shells a.front ≡ true) m.faces t.triangles (new_face m) (λ i h. maybe-weaken m.shells.used (m.shells.used + 2) (face m i).front (omega arith) (s.face-front i h)) (λ k h. lt-ltb m.shells.used (m.shells.used + 2) (omega arith));
        face-back = old-and-new (λ (a : Face). has_maybe behind.shells a.back ≡ true) m.faces t.triangles (new_face m) (λ i h. maybe-weaken m.shells.used (m.shells.used + 2) (face m i).back (omega arith) (s.face-back i h)) (λ k h. lt-ltb (m.shells.used + 1) (m.shells.used + 2) (omega arith));
        face-loops = old-and-new (λ (a : Face). has_all behind.loops a.loops ≡ true) m.faces t.triangles (new_face m) (λ i h. all-weaken m.loops.used (m.loops.used + t.triangles) (face m i).loops (omega arith) (s.face-loops i h)) (λ k h. all_one (has behind.loops) (m.loops.used + k) (lt-ltb (m.loops.used + k) (m.loops.used + t.triangles) (omega arith)));
        face-surface = old-and-new (λ (a : Face). has_maybe m.surfaces a.surface ≡ true) m.faces t.triangles (new_face m) s.face-surface (λ k h. refl);
        loop-face = old-and-new (λ (a : Loop). a.face < m.faces.used + t.triangles) m.loops t.triangles (new_loop m) (λ i h. let z = s.loop-face i h in omega arith) (λ k h. omega arith);
        loop-fins = old-and-new (λ (a : Loop). has_all behind.fins a.fins ≡ true) m.loops t.triangles (new_loop m) (λ i h. all-weaken m.fins.used (m.fins.used + 3 * t.triangles) (loop m i).fins (omega arith) (s.loop-fins i h)) (λ k h. all-weaken (m.fins.used + 3 * k + 3) (m.fins.used + 3 * t.triangles) (run (m.fins.used + 3 * k) 3) (omega arith) (all-run (m.fins.used + 3 * k) 3));
        fin-owner = old-and-new (λ (a : Fin). a.owner < m.loops.used + t.triangles) m.fins (3 * t.triangles) (new_fin m t) (λ i h. let z = s.fin-owner i h in omega arith) (λ k h. omega arith);
        fin-edge = old-and-new (λ (a : Fin). a.edge < m.edges.used + length t.edges) m.fins (3 * t.triangles) (new_fin m t) (λ i h. let z = s.fin-edge i h in omega arith) (λ k h. let z = r.fin-edge k h in omega arith);
        edge-fins = old-and-new (λ (a : Edge). has_all behind.fins a.fins ≡ true) m.edges (length t.edges) (new_edge m t) (λ i h. all-weaken m.fins.used (m.fins.used + 3 * t.triangles) (edge m i).fins (omega arith) (s.edge-fins i h)) (λ k h. rw r.numbers at (fins-below k m.fins.used t.edge_numbers));
        edge-start = old-and-new (λ (a : Edge). has_maybe behind.vertices a.start ≡ true) m.edges (length t.edges) (new_edge m t) (λ i h. maybe-weaken m.vertices.used (m.vertices.used + length t.points) (edge m i).start (omega arith) (s.edge-start i h)) first;
        edge-end = old-and-new (λ (a : Edge). has_maybe behind.vertices a.end ≡ true) m.edges (length t.edges) (new_edge m t) (λ i h. maybe-weaken m.vertices.used (m.vertices.used + length t.points) (edge m i).end (omega arith) (s.edge-end i h)) last;
        edge-curve = old-and-new (λ (a : Edge). has_maybe m.curves a.curve ≡ true) m.edges (length t.edges) (new_edge m t) s.edge-curve (λ k h. refl);
      }
    where
      first : (k : ℕ) → k < length t.edges → ltb (m.vertices.used + (get_or t.edges k (step 0 0)).from) (m.vertices.used + length t.points) ≡ true
      first k h = let ends = ends-both (length t.points) (get_or t.edges k (step 0 0)) (r.ends k h) in lt-ltb (m.vertices.used + (get_or t.edges k (step 0 0)).from) (m.vertices.used + length t.points) (omega (arith, ends.0))

      last : (k : ℕ) → k < length t.edges → ltb (m.vertices.used + (get_or t.edges k (step 0 0)).to) (m.vertices.used + length t.points) ≡ true
      last k h = let ends = ends-both (length t.points) (get_or t.edges k (step 0 0)) (r.ends k h) in lt-ltb (m.vertices.used + (get_or t.edges k (step 0 0)).to) (m.vertices.used + length t.points) (omega (arith, ends.1))

-- ---- who lists whom: where neither the old records name the new ones nor the new ones the old

module _ {A B : Type 0} (parents : Table A) (children : Table B) (p c : ℕ) (new_a : ℕ → A) (new_b : ℕ → B) (list : A → List ℕ) (names : B → ℕ → Bool) where
  listed_more :
      Listed parents.used children.used (λ i. list (parents.slot i)) (λ k i. names (children.slot k) i)
      → ((i : ℕ) → i < parents.used → all (λ x. ltb x children.used) (list (parents.slot i)) ≡ true)
      → ((k i : ℕ) → k < children.used → parents.used ≤ i → names (children.slot k) i ≡ false)
      → ((j k : ℕ) → k < children.used → count k (list (new_a j)) ≡ 0)
      → ((k i : ℕ) → i < parents.used → names (new_b k) i ≡ false)
      → ((j k : ℕ) → j < p → k < c → count (children.used + k) (list (new_a j)) ≡ bit (names (new_b k) (parents.used + j)))
      → Listed (parents.used + p) (children.used + c) (λ i. list ((extended parents p new_a).slot i)) (λ k i. names ((extended children c new_b).slot k) i)
  listed_more was below away nothing no_old fresh = record { once = each }
    where
      each : (i k : ℕ) → i < parents.used + p → k < children.used + c → count k (list ((extended parents p new_a).slot i)) ≡ bit (names ((extended children c new_b).slot k) i)
      each i k a b =
          elim (dec_lt i parents.used) [
            | yes old ↦ elim (dec_lt k children.used) [
              | yes here ↦ rw (extended-old parents p new_a i old, extended-old children c new_b k here) (was.once i k old here)
              | no new ↦
                  rw (extended-old parents p new_a i old, extended-new children c new_b k (omega arith), no_old (k - children.used) i old)
                  (count-above children.used k (list (parents.slot i)) (below i old) (omega arith))
            ]
            | no later ↦ elim (dec_lt k children.used) [
              | yes here ↦ rw (extended-new parents p new_a i (omega arith), extended-old children c new_b k here, away k i here (omega arith)) (nothing (i - parents.used) k here)
              | no new ↦
                  let q : children.used + (k - children.used) ≡ k = omega arith in
                  let s : parents.used + (i - parents.used) ≡ i = omega arith in
                  rw (extended-new parents p new_a i (omega arith), extended-new children c new_b k (omega arith))
                  (ap (λ x. count x (list (new_a (i - parents.used)))) (sym q)
                  ∙ fresh (i - parents.used) (k - children.used) (omega arith) (omega arith)
                  ∙ ap (λ x. bit (names (new_b (k - children.used)) x)) s)
            ]
          ]

-- one entry
one-listed : (u v k j : ℕ) → count (u + k) ((u + j) ∷ []) ≡ bit (eqb (v + k) (v + j))
one-listed u v k j = by (eqb k j) refl
  where
    by : (b : Bool) → eqb k j ≡ b → count (u + k) ((u + j) ∷ []) ≡ bit (eqb (v + k) (v + j))
    by true e =
        let z : k ≡ j = eqb-true k j e in
        rw (eq-eqb (v + k) (v + j) (omega arith)) (count-cons (u + k) (u + j) [] ∙ rw (eq-eqb (u + k) (u + j) (omega arith), count_none (u + k)))
    by false e =
        let z = eqb-false k j e in
        rw (ne_eqb (v + k) (v + j) (λ q. z (omega arith))) (count-cons (u + k) (u + j) [] ∙ rw (ne_eqb (u + k) (u + j) (λ q. z (omega arith)), count_none (u + k)))

-- an optional id below n is none of those from n on
is_below : (n i : ℕ) (a : Option ℕ) → below_maybe n a ≡ true → n ≤ i → is a i ≡ false
is_below n i none h b = refl
is_below n i (some x) h b = let z : x < n = ltb-true x n h in ne_eqb x i (λ q. omega arith)

module _ (m : Model) (o : Office) (t : Mesh) (r : Ranged t) (x : Limits) (w : WellFormed x m) where
  abbrev now : Model
  now = built m o t

  regions-kept : Listed now.bodies.used now.regions.used (λ b. (body now b).regions) (λ c b. eqb (region now c).body b)
  unfolding built extended
  regions-kept =
      listed_more m.bodies m.regions 1 2 (λ k. new_body m o) (new_region m) (λ a. a.regions) (λ a i. eqb a.body i) w.regions w.ids.body-regions
      (λ k i h b. let z = w.ids.region-body k h in ne_eqb (region m k).body i (λ q. omega arith))
      (λ j k h. count-run-before m.regions.used 2 k h)
      (λ k i h. ne_eqb m.bodies.used i (λ q. omega arith))
      (λ j k a b. count-run-in m.regions.used 2 (m.regions.used + k) (omega arith) (omega arith) ∙ ap bit (sym (eq-eqb m.bodies.used (m.bodies.used + j) (omega arith))))

  shells-kept : Listed now.regions.used now.shells.used (λ b. (region now b).shells) (λ c b. eqb (shell now c).region b)
  unfolding built extended
  shells-kept =
      listed_more m.regions m.shells 2 2 (new_region m) (new_shell m t) (λ a. a.shells) (λ a i. eqb a.region i) w.shells w.ids.region-shells
      (λ k i h b. let z = w.ids.shell-region k h in ne_eqb (shell m k).region i (λ q. omega arith))
      (λ j k h. count-cons k (m.shells.used + j) [] ∙ rw (ne_eqb k (m.shells.used + j) (λ q. omega arith), count_none k))
      (λ k i h. ne_eqb (m.regions.used + k) i (λ q. omega arith))
      (λ j k a b. one-listed m.shells.used m.regions.used k j)

  loops-kept : Listed now.faces.used now.loops.used (λ b. (face now b).loops) (λ c b. eqb (loop now c).face b)
  unfolding built extended
  loops-kept =
      listed_more m.faces m.loops t.triangles t.triangles (new_face m) (new_loop m) (λ a. a.loops) (λ a i. eqb a.face i) w.loops w.ids.face-loops
      (λ k i h b. let z = w.ids.loop-face k h in ne_eqb (loop m k).face i (λ q. omega arith))
      (λ j k h. count-cons k (m.loops.used + j) [] ∙ rw (ne_eqb k (m.loops.used + j) (λ q. omega arith), count_none k))
      (λ k i h. ne_eqb (m.faces.used + k) i (λ q. omega arith))
      (λ j k a b. one-listed m.loops.used m.faces.used k j)

  fins-kept : Listed now.loops.used now.fins.used (λ b. (loop now b).fins) (λ c b. eqb (fin now c).owner b)
  unfolding built extended
  fins-kept =
      listed_more m.loops m.fins t.triangles (3 * t.triangles) (new_loop m) (new_fin m t) (λ a. a.fins) (λ a i. eqb a.owner i) w.fins w.ids.loop-fins
      (λ k i h b. let z = w.ids.fin-owner k h in ne_eqb (fin m k).owner i (λ q. omega arith))
      (λ j k h. count-run-before (m.fins.used + 3 * j) 3 k (omega arith))
      (λ k i h. ne_eqb (m.loops.used + k / 3) i (λ q. omega arith))
      (λ j k a b. by j k (eqb (k / 3) j) refl)
    where
      by : (j k : ℕ) (b : Bool) → eqb (k / 3) j ≡ b → count (m.fins.used + k) (run (m.fins.used + 3 * j) 3) ≡ bit (eqb (m.loops.used + k / 3) (m.loops.used + j))
      by j k true e =
          let z : k / 3 ≡ j = eqb-true (k / 3) j e in
          rw (eq-eqb (m.loops.used + k / 3) (m.loops.used + j) (omega arith)) (count-run-in (m.fins.used + 3 * j) 3 (m.fins.used + k) (omega arith) (omega arith))
      by j k false e =
          let z = eqb-false (k / 3) j e in
          rw (ne_eqb (m.loops.used + k / 3) (m.loops.used + j) (λ q. z (omega arith)))
          (elim (dec_lt (k / 3) j) [
            | yes f ↦ count-run-before (m.fins.used + 3 * j) 3 (m.fins.used + k) (omega arith)
            | no f ↦ elim (dec_lt j (k / 3)) [
              | yes g ↦ count-run-after (m.fins.used + 3 * j) 3 (m.fins.used + k) (omega arith)
              | no g ↦ absurd (z (omega arith))
            ]
          ])

  faces-kept : Listed now.shells.used now.faces.used (λ b. (shell now b).faces) (λ c b. is (face now c).front b || is (face now c).back b)
  unfolding built extended
  faces-kept =
      listed_more m.shells m.faces 2 t.triangles (new_shell m t) (new_face m) (λ a. a.faces) (λ a i. is a.front i || is a.back i) w.faces w.ids.shell-faces
      (λ k i h b. ap₂ ◌||◌ (is_below m.shells.used i (face m k).front (w.ids.face-front k h) b) (is_below m.shells.used i (face m k).back (w.ids.face-back k h) b))
      (λ j k h. count-run-before m.faces.used t.triangles k h)
      (λ k i h. rw (ne_eqb m.shells.used i (λ q. omega arith)) (ne_eqb (m.shells.used + 1) i (λ q. omega arith)))
      (λ j k a b. count-run-in m.faces.used t.triangles (m.faces.used + k) (omega arith) (omega arith) ∙ ap bit (sym (both j a)))
    where
      both : (j : ℕ) → j < 2 → (eqb m.shells.used (m.shells.used + j) || eqb (m.shells.used + 1) (m.shells.used + j)) ≡ true
      both zero h = rw (eq-eqb m.shells.used (m.shells.used + 0) (omega arith))
      both (suc zero) h = rw (ne_eqb m.shells.used (m.shells.used + 1) (λ q. omega arith)) (eq-eqb (m.shells.used + 1) (m.shells.used + 1) refl)
      both (suc (suc j)) h = absurd (omega arith)

  edges-kept : Listed now.edges.used now.fins.used (λ b. (edge now b).fins) (λ c b. eqb (fin now c).edge b)
  unfolding built extended
  edges-kept =
      listed_more m.edges m.fins (length t.edges) (3 * t.triangles) (new_edge m t) (new_fin m t) (λ a. a.fins) (λ a i. eqb a.edge i) w.edges w.ids.edge-fins
      (λ k i h b. let z = w.ids.fin-edge k h in ne_eqb (fin m k).edge i (λ q. omega arith))
      (λ j k h. fins-before j m.fins.used k t.edge_numbers h)
      (λ k i h. ne_eqb (m.edges.used + get_or t.edge_numbers k 0) i (λ q. omega arith))
      (λ j k a b. fin-once j m.fins.used k t.edge_numbers (rw r.numbers b) ∙ ap bit (turned j (get_or t.edge_numbers k 0)))
    where
      turned : (j i : ℕ) → eqb j i ≡ eqb (m.edges.used + i) (m.edges.used + j)
      turned j i = by (eqb j i) refl
        where
          by : (b : Bool) → eqb j i ≡ b → b ≡ eqb (m.edges.used + i) (m.edges.used + j)
          by true e = let z : j ≡ i = eqb-true j i e in sym (eq-eqb (m.edges.used + i) (m.edges.used + j) (omega arith))
          by false e = let z = eqb-false j i e in sym (ne_eqb (m.edges.used + i) (m.edges.used + j) (λ q. z (omega arith)))

  -- ---- "No loop is empty, and every fin ends where the next starts"

  same_ends : (i : ℕ) → i < m.fins.used → ends_of now i ≡ ends_of m i
  same_ends i h =
      let g = built-grown m o t in
      ap (λ (f : Fin). directed f.sense (edge now f.edge)) (g.fins i h) ∙ ap (λ (d : Edge). directed (fin m i).sense d) (g.edges (fin m i).edge (w.ids.fin-edge i h))

  same-closed : (k l : List ℕ) → all (has m.fins) k ≡ true → all (has m.fins) l ≡ true → closed now k l ≡ closed m k l
  unfolding closed all
  same-closed [] l a b = refl
  same-closed (i ∷ k) [] a b = refl
  same-closed (i ∷ k) (j ∷ l) a b =
      let first = and_both (has m.fins i) (all (has m.fins) k) a in
      let second = and_both (has m.fins j) (all (has m.fins) l) b in
      ap₂ ◌&&◌
      (ap₂ (λ (d g : Ends). same d.end g.start) (same_ends i (ltb-true i m.fins.used first.0)) (same_ends j (ltb-true j m.fins.used second.0)))
      (same-closed k l first.1 second.1)

  all-rotated : (l : List ℕ) → all (has m.fins) l ≡ true → all (has m.fins) (rotated l) ≡ true
  unfolding all
  all-rotated [] h = refl
  all-rotated (i ∷ l) h = let both = and_both (has m.fins i) (all (has m.fins) l) h in all_append (has m.fins) l (i ∷ []) both.1 (all_one (has m.fins) i both.0)

  old-closes : (l : List ℕ) → all (has m.fins) l ≡ true → loop_closes m l ≡ true → loop_closes now l ≡ true
  unfolding loop_closes
  old-closes l a h = ap (λ b. not (eqb (length l) 0) && b) (same-closed l (rotated l) a (all-rotated l a)) ∙ h

  new-closes : (j : ℕ) → j < t.triangles → loop_closes now (new_loop m j).fins ≡ true
  unfolding loop_closes closed
  new-closes j h =
      let go = r.loops j h in
      rw (
        fins-of m j,
        meets-there m o t r (3 * j + 0) (3 * j + 1) (omega arith) (omega arith) go.first,
        meets-there m o t r (3 * j + 1) (3 * j + 2) (omega arith) (omega arith) go.second,
        meets-there m o t r (3 * j + 2) (3 * j + 0) (omega arith) (omega arith) go.third,
      )

  closes_kept : (l : ℕ) → l < now.loops.used → loop_closes now (loop now l).fins ≡ true
  unfolding built extended
  closes_kept = old-and-new (λ (d : Loop). loop_closes now d.fins ≡ true) m.loops t.triangles (new_loop m) (λ i h. old-closes (loop m i).fins (w.ids.loop-fins i h) (w.closes i h)) new-closes

  wires-kept : (s e : ℕ) → s < now.shells.used → count e (shell now s).wire_edges ≤ 1
  unfolding built extended
  wires-kept s e h = old-and-new (λ (d : Shell). (e : ℕ) → count e d.wire_edges ≤ 1) m.shells 2 (new_shell m t) (λ i b e. w.wires i e b) (λ k b e. rw (count_none e) (omega arith)) s h e

  pub formed-kept : has_room x m t ≡ true → WellFormed x now
  formed-kept h =
      record {
        tables = room-kept x m o t h w.tables;
        ids = ids-kept m o t r w.ids;
        regions = regions-kept;
        shells = shells-kept;
        loops = loops-kept;
        fins = fins-kept;
        faces = faces-kept;
        edges = edges-kept;
        closes = closes_kept;
        wires = wires-kept;
      }
