-- What the checker finds of a body that was read, without geometry: "There are no surfaces or curves yet", so that each face lacks its surface; and "An edge used once or
-- thrice is left to the checker". It finds nothing else: every list, back pointer, sense and end is as a sound body has it. Assumes nothing.
use Prim.Native.Nat.{ℕ, zero, suc, ◌+◌, ◌*◌, ◌<◌}
use Rattle.std.proofs.Common.{arith, sym, ◌∙◌}
use Rattle.std.proofs.Math.Nat.{add_assoc}
use Rattle.std.specs.Prelude.{◌≡◌, false, ◌&&◌, get_or}
use Rattle.std.proofs.Math.Path.{refl, ap}
use Rattle.std.proofs.Math.Bool.{true}
use mathlib.Core.List.{List, [], ◌∷◌, ◌++◌, map, append-nil}
use Rattle.std.proofs.Math.Option.{some}
use Rattle.std.proofs.Math.ListN.{length}
use borrow.Author.Tests.{lt-ltb, eq-eqb, ne_eqb}
use Rattle.meaning.specs.Lists.{run, member, count, joined}
use Rattle.meaning.specs.Formed.{bit}
use Rattle.meaning.specs.Model.{Model, Office, Fin, Edge, Loop, extended, has, face, loop, fin, edge}
use Rattle.meaning.specs.Walks.{readable_fin}
use Rattle.meaning.specs.Faults.{CheckOptions, fault, fin_findings, open_at, opens, meets_next, loop_findings, face_findings, shell_findings, region_findings, manifold, manifold_edge, manifold_edges, findings}
use Rattle.meaning_list_laws.specs.Tests.{and-false}
use Rattle.meaning_list_laws.specs.Lists.{member-counted, joined_snoc}
use Rattle.stl_body.specs.Read.{step, Mesh, fins_on, new_fin, new_edge, new_loop, built}
use Rattle.stl_body.proofs.Laws.{fins-length, fin-once}
use Rattle.stl_body.specs.Meshes.{Ranged}
use Rattle.stl_body.proofs.Meshes.{ends-both}
use Rattle.stl_body.proofs.Records.{body_new, region-new, shell-new, face-new, loop-new, fin-new, edge-new, fin-ends}
use Rattle.stl_body.specs.Sound.{topology}

-- ---- joined over a run

module _ {A : Type 0} where
  runs_same : (f g : ℕ → List A) (u n : ℕ) → ((j : ℕ) → j < n → f (u + j) ≡ g (u + j)) → joined f (run u n) ≡ joined g (run u n)
  unfolding run
  runs_same f g u zero h = unfold joined in refl
  runs_same f g u (suc n) h = rw (joined_snoc f (run u n) (u + n), joined_snoc g (run u n) (u + n), runs_same f g u n (λ j b. h j (omega arith)), h n (omega arith))

  joined-one : (f : ℕ → A) (l : List ℕ) → joined (λ y. f y ∷ []) l ≡ map f l
  unfolding joined
  joined-one f [] = refl
  joined-one f (y ∷ l) = ap (λ r. f y ∷ r) (joined-one f l)

  joined-empty : (l : List ℕ) → ◌≡◌ {A = List A} (joined (λ y. []) l) []
  unfolding joined
  joined-empty [] = refl
  joined-empty (y ∷ l) = joined-empty l

-- ---- a fin and a loop of which nothing is found, in any model

fin-quiet : (n : Model) (l i : ℕ) (f : Fin) (d : Edge) (u v : ℕ) → fin n i ≡ f → edge n f.edge ≡ d → has n.fins i ≡ true → f.owner ≡ l → has n.edges f.edge ≡ true
    → member i d.fins ≡ true → d.start ≡ some u → d.end ≡ some v → has n.vertices u ≡ true → has n.vertices v ≡ true → fin_findings n l i ≡ []
unfolding fin_findings joined
fin-quiet n l i f d u v a b here owner there listed start end first last = rw (here, a, eq-eqb f.owner l owner, there, b, listed, start, end, first, last)

open-quiet : (n : Model) (i j : ℕ) → meets_next n i j ≡ true → open_at n i j ≡ []
open-quiet n i j h = rw (h, and-false (readable_fin n i && readable_fin n j))

loop-quiet : (n : Model) (f l x y z : ℕ) (d : Loop) → loop n l ≡ d → has n.loops l ≡ true → d.face ≡ f → d.fins ≡ x ∷ y ∷ z ∷ []
    → fin_findings n l x ≡ [] → fin_findings n l y ≡ [] → fin_findings n l z ≡ [] → meets_next n x y ≡ true → meets_next n y z ≡ true → meets_next n z x ≡ true → loop_findings n topology f l ≡ []
unfolding loop_findings joined opens
loop-quiet n f l x y z d a here owner fins p q r s t u = rw (here, a, eq-eqb d.face f owner, fins, p, q, r, open-quiet n x y s, open-quiet n y z t, open-quiet n z x u)

-- an edge whose fins are not two, in any model
not-two : (n : Model) (e : ℕ) (l : List ℕ) → (length l ≡ 2 → ⊥) → manifold n e l ≡ fault 19 e ∷ []
unfolding manifold
not-two n e [] h = refl
not-two n e (i ∷ []) h = refl
not-two n e (i ∷ j ∷ []) h = absurd (h refl)
not-two n e (i ∷ j ∷ k ∷ l) h = refl

-- ---- the body that was read

module _ (m : Model) (o : Office) (t : Mesh) (r : Ranged t) where
  abbrev behind : Model
  behind = built m o t

  abbrev fin_id : ℕ → ℕ
  fin_id k = m.fins.used + k

  has-fin : (k : ℕ) → k < 3 * t.triangles → has behind.fins (fin_id k) ≡ true
  unfolding built extended
  has-fin k h = lt-ltb (m.fins.used + k) (m.fins.used + 3 * t.triangles) (omega arith)

  pub has-edge : (e : ℕ) → e < length t.edges → has behind.edges (m.edges.used + e) ≡ true
  unfolding built extended
  has-edge e h = lt-ltb (m.edges.used + e) (m.edges.used + length t.edges) (omega arith)

  has-vertex : (v : ℕ) → v < length t.points → has behind.vertices (m.vertices.used + v) ≡ true
  unfolding built extended
  has-vertex v h = lt-ltb (m.vertices.used + v) (m.vertices.used + length t.points) (omega arith)

  -- a fin is in its edge's list
  listed-there : (k : ℕ) → k < 3 * t.triangles → member (fin_id k) (fins_on (get_or t.edge_numbers k 0) m.fins.used t.edge_numbers) ≡ true
  listed-there k h =
      let e = get_or t.edge_numbers k 0 in
      let inside : k < length t.edge_numbers = rw r.numbers h in
      let once : count (fin_id k) (fins_on e m.fins.used t.edge_numbers) ≡ 1 = fin-once e m.fins.used k t.edge_numbers inside ∙ ap bit (eq-eqb e e refl) in
      member-counted (fin_id k) (fins_on e m.fins.used t.edge_numbers) (omega arith)

  new-fin-quiet : (j q : ℕ) → j < t.triangles → q < 3 → fin_findings behind (m.loops.used + j) (fin_id (3 * j + q)) ≡ []
  new-fin-quiet j q a b =
      let k = 3 * j + q in
      let e = get_or t.edge_numbers k 0 in
      let s = get_or t.edges e (step 0 0) in
      let h : k < 3 * t.triangles = omega arith in
      let in-edges = r.fin-edge k h in
      let ends = ends-both (length t.points) s (r.ends e in-edges) in
      fin-quiet behind (m.loops.used + j) (fin_id k) (new_fin m t k) (new_edge m t e) (m.vertices.used + s.from) (m.vertices.used + s.to)
      (fin-new m o t k) (edge-new m o t e) (has-fin k h) (omega arith) (has-edge e in-edges) (listed-there k h) refl refl
      (has-vertex s.from ends.0) (has-vertex s.to ends.1)

  -- a fin ends where the next starts
  pub meets-there : (k i : ℕ) → k < 3 * t.triangles → i < 3 * t.triangles → (get_or t.steps k (step 0 0)).to ≡ (get_or t.steps i (step 0 0)).from → meets_next behind (fin_id k) (fin_id i) ≡ true
  meets-there k i a b h = rw (fin-ends m o t r k a, fin-ends m o t r i b) (eq-eqb _ _ (ap (λ v. m.vertices.used + v) h))

  new-loop-quiet : (j : ℕ) → j < t.triangles → loop_findings behind topology (m.faces.used + j) (m.loops.used + j) ≡ []
  new-loop-quiet j h =
      let x = fin_id (3 * j + 0) in
      let y = fin_id (3 * j + 1) in
      let z = fin_id (3 * j + 2) in
      let go = r.loops j h in
      loop-quiet behind (m.faces.used + j) (m.loops.used + j) x y z (new_loop m j) (loop-new m o t j) has-loop refl names
      (new-fin-quiet j 0 h (omega arith)) (new-fin-quiet j 1 h (omega arith)) (new-fin-quiet j 2 h (omega arith))
      (meets-there (3 * j + 0) (3 * j + 1) (omega arith) (omega arith) go.first)
      (meets-there (3 * j + 1) (3 * j + 2) (omega arith) (omega arith) go.second)
      (meets-there (3 * j + 2) (3 * j + 0) (omega arith) (omega arith) go.third)
    where
      has-loop : has behind.loops (m.loops.used + j) ≡ true
      has-loop = unfold built extended in lt-ltb (m.loops.used + j) (m.loops.used + t.triangles) (omega arith)

      names : (new_loop m j).fins ≡ fin_id (3 * j + 0) ∷ fin_id (3 * j + 1) ∷ fin_id (3 * j + 2) ∷ []
      names = unfold run in simp add_assoc

  -- seen from the void's shell, a face lacks its surface; from the solid's, nothing is looked at
  front-face : (j : ℕ) → j < t.triangles → face_findings behind topology (m.shells.used + 0) (m.faces.used + j) ≡ fault 9 (m.faces.used + j) ∷ []
  unfolding face_findings joined
  front-face j h = rw (has-face, face-new m o t j, eq-eqb m.shells.used (m.shells.used + 0) (omega arith), new-loop-quiet j h)
    where
      has-face : has behind.faces (m.faces.used + j) ≡ true
      has-face = unfold built extended in lt-ltb (m.faces.used + j) (m.faces.used + t.triangles) (omega arith)

  back-face : (j : ℕ) → j < t.triangles → face_findings behind topology (m.shells.used + 1) (m.faces.used + j) ≡ []
  unfolding face_findings
  back-face j h = rw (has-face, face-new m o t j, ne_eqb m.shells.used (m.shells.used + 1) (λ e. omega arith), eq-eqb (m.shells.used + 1) (m.shells.used + 1) refl)
    where
      has-face : has behind.faces (m.faces.used + j) ≡ true
      has-face = unfold built extended in lt-ltb (m.faces.used + j) (m.faces.used + t.triangles) (omega arith)

  void-shell : shell_findings behind topology (m.regions.used + 0) (m.shells.used + 0) ≡ map (fault 9) (run m.faces.used t.triangles)
  unfolding shell_findings
  void-shell =
      rw (has-shell, shell-new m o t 0, eq-eqb (m.regions.used + 0) (m.regions.used + 0) refl)
      (runs_same (face_findings behind topology (m.shells.used + 0)) (λ f. fault 9 f ∷ []) m.faces.used t.triangles front-face
      ∙ joined-one (fault 9) (run m.faces.used t.triangles))
    where
      has-shell : has behind.shells (m.shells.used + 0) ≡ true
      has-shell = unfold built extended in lt-ltb (m.shells.used + 0) (m.shells.used + 2) (omega arith)

  solid-shell : shell_findings behind topology (m.regions.used + 1) (m.shells.used + 1) ≡ []
  unfolding shell_findings
  solid-shell =
      rw (has-shell, shell-new m o t 1, eq-eqb (m.regions.used + 1) (m.regions.used + 1) refl)
      (runs_same (face_findings behind topology (m.shells.used + 1)) (λ f. []) m.faces.used t.triangles back-face
      ∙ joined-empty (run m.faces.used t.triangles))
    where
      has-shell : has behind.shells (m.shells.used + 1) ≡ true
      has-shell = unfold built extended in lt-ltb (m.shells.used + 1) (m.shells.used + 2) (omega arith)

  -- the k-th region's findings are those of its shell
  region-shell : (k : ℕ) → k < 2 → region_findings behind topology m.bodies.used (m.regions.used + k) ≡ shell_findings behind topology (m.regions.used + k) (m.shells.used + k)
  unfolding region_findings joined
  region-shell k h = rw (has-region, region-new m o t k, eq-eqb m.bodies.used m.bodies.used refl) (append-nil _)
    where
      has-region : has behind.regions (m.regions.used + k) ≡ true
      has-region = unfold built extended in lt-ltb (m.regions.used + k) (m.regions.used + 2) (omega arith)

  -- a face's missing surface, and what the manifold edges of a solid show
  pub read-findings : findings behind topology m.bodies.used ≡ map (fault 9) (run m.faces.used t.triangles) ++ manifold_edges behind m.bodies.used
  unfolding findings joined run
  read-findings =
      rw (body_new m o t, region-new m o t 0, region-shell 0 (omega arith), region-shell 1 (omega arith), void-shell, solid-shell, and-false (has behind.regions (m.regions.used + 0)), append-nil (map (fault 9) (run m.faces.used t.triangles)))

  -- "An edge used once or thrice is left to the checker": by as many fins as steps go along it
  pub not-used-twice : (e : ℕ) → e < length t.edges → (count e t.edge_numbers ≡ 2 → ⊥) → manifold_edge behind (m.edges.used + e) ≡ fault 19 (m.edges.used + e) ∷ []
  unfolding manifold_edge
  not-used-twice e h other =
      rw (has-edge e h, edge-new m o t e)
      (not-two behind (m.edges.used + e) (fins_on e m.fins.used t.edge_numbers) (λ q. other (sym (fins-length e m.fins.used t.edge_numbers) ∙ q)))
