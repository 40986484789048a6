-- The walks of a body that was read (01, "Walks"): they are not refused, and list the new faces, edges and vertices in the order met. Assumes nothing.
use Prim.Native.Nat.{ℕ, zero, suc, ◌+◌, ◌*◌, ◌<◌}
use Rattle.std.proofs.Common.{arith, add_assoc, sym, ◌∙◌}
use Rattle.std.specs.Prelude.{◌≡◌, Bool, length, get_or}
use Rattle.std.proofs.Math.Path.{refl, ap}
use Rattle.std.proofs.Math.Bool.{true}
use mathlib.Core.List.{List, [], ◌∷◌, ◌++◌, map, append-nil}
use borrow.Author.Tests.{lt-ltb}
use Rattle.meaning.specs.Lists.{run, all, member, meets, firsts, joined}
use Rattle.meaning.specs.Model.{Model, Office, extended, has, shell}
use Rattle.meaning.specs.Walks.{shells_of, face_walk, faces_refusal, face_edges, edge_walk, edges_refusal, vertices_refusal, face_followed}
use Rattle.meaning_list_laws.specs.Lists.{meets-append}
use Rattle.stl_format.specs.Stl.{Triangle}
use Rattle.stl_body.specs.Read.{which_of, all_met, same_point, corners, Step, step, same_step, steps_of, edge_of, Mesh, mesh_of, new_loop, built, all_finite, all_apart}
use Rattle.stl_body.specs.Laws.{holds}
use Rattle.stl_body.proofs.Laws.{met_holds}
use Rattle.stl_body.specs.Meshes.{Ranged}
use Rattle.stl_body.proofs.Meshes.{all-themselves, mesh-ranged}
use Rattle.stl_body.proofs.Rising.{edges-rise}
use Rattle.stl_body.proofs.Records.{body_new, region-new, shell-new, face-new, loop-new, fin-new}
use Rattle.stl_body.proofs.Sound.{has-edge}
use Rattle.stl_body_laws.specs.Met.{member-run, run-front, run-met, met-before, all-over, met-run}

-- ---- the mesh of an accepted reading

pub record Proper (t : Mesh) : Type 0 where
  pub ranged : Ranged t
  -- "running from the lower id to the higher"
  pub rise : (k : ℕ) → k < length t.edges → (get_or t.edges k (step 0 0)).from < (get_or t.edges k (step 0 0)).to
  -- "Records are made in the order met"
  pub ordered : (u : ℕ) → firsts (map (λ k. u + k) t.edge_numbers) ≡ run u (length t.edges)
  -- no edge but those of steps
  pub of_steps : (p : Step → Bool) → holds p (map edge_of t.steps) ≡ true → holds p t.edges ≡ true

map-twice : {A : Type 0} (f : A → ℕ) (u : ℕ) (l : List A) → map (λ k. u + k) (map f l) ≡ map (λ a. u + f a) l
map-twice f u [] = refl
map-twice f u (a ∷ l) = ap (λ r. (u + f a) ∷ r) (map-twice f u l)

map-through : {A B : Type 0} (g : A → B) (f : B → ℕ) (l : List A) → map f (map g l) ≡ map (λ a. f (g a)) l
map-through g f [] = refl
map-through g f (a ∷ l) = ap (λ r. f (g a) ∷ r) (map-through g f l)

-- the triangles' steps and edges
abbrev steps_in : List Triangle → List Step
steps_in l = steps_of (all_met same_point (corners l)) l

in_order : (l : List Triangle) (u : ℕ) → firsts (map (λ k. u + k) (mesh_of l).edge_numbers) ≡ run u (length (mesh_of l).edges)
unfolding mesh_of
in_order l u =
    let steps = steps_in l in
    let edges = all_met same_step (map edge_of steps) in
    ap firsts (map-twice (λ s. which_of same_step (edge_of s) edges) u steps ∙ sym (map-through edge_of (λ e. u + which_of same_step e edges) steps))
    ∙ ap (λ s. meets s (map (λ e. u + which_of same_step e edges) (map edge_of steps))) (sym none)
    ∙ met-run same_step u [] (map edge_of steps) (all-themselves (map edge_of steps))
  where
    none : run u 0 ≡ []
    none = unfold run in refl

from-steps : (l : List Triangle) (p : Step → Bool) → holds p (map edge_of (mesh_of l).steps) ≡ true → holds p (mesh_of l).edges ≡ true
unfolding mesh_of
from-steps l p q = met_holds same_step p [] (map edge_of (steps_in l)) none q
  where
    none : holds p [] ≡ true
    none = unfold holds in refl

pub mesh-proper : (l : List Triangle) → all_finite (corners l) ≡ true → all_apart l ≡ true → Proper (mesh_of l)
mesh-proper l g h = record { ranged = mesh-ranged l g; rise = edges-rise l g h; ordered = in_order l; of_steps = from-steps l }

-- ---- three entries for each of a run are a list by threes

pub joined-threes : (f : ℕ → List ℕ) (e u n : ℕ) (l : List ℕ) → length l ≡ 3 * n
    → ((j : ℕ) → j < n → f (u + j) ≡ (e + get_or l (3 * j + 0) 0) ∷ (e + get_or l (3 * j + 1) 0) ∷ (e + get_or l (3 * j + 2) 0) ∷ []) → joined f (run u n) ≡ map (λ k. e + k) l
unfolding joined
joined-threes f e u zero [] h g = unfold run in refl
joined-threes f e u zero (a ∷ l) h g = absurd (omega arith)
joined-threes f e u (suc n) [] h g = absurd (omega arith)
joined-threes f e u (suc n) (a ∷ []) h g = absurd (omega arith)
joined-threes f e u (suc n) (a ∷ b ∷ []) h g = absurd (omega arith)
joined-threes f e u (suc n) (a ∷ b ∷ c ∷ l) h g = rw (run-front u n, first) (ap (λ r. (e + a) ∷ (e + b) ∷ (e + c) ∷ r) (joined-threes f e (suc u) n l (omega arith) later))
  where
    first : f u ≡ (e + a) ∷ (e + b) ∷ (e + c) ∷ []
    first = ap f (omega arith) ∙ g 0 (omega arith)

    three : (j q : ℕ) → 3 * suc j + q ≡ suc (suc (suc (3 * j + q)))
    three j q = omega arith

    later : (j : ℕ) → j < n → f (suc u + j) ≡ (e + get_or l (3 * j + 0) 0) ∷ (e + get_or l (3 * j + 1) 0) ∷ (e + get_or l (3 * j + 2) 0) ∷ []
    later j b = ap f (omega arith) ∙ (rw (three j 0, three j 1, three j 2) at (g (suc j) (omega arith)))

-- the fins of the j-th loop
pub fins-of : (m : Model) (j : ℕ) → (new_loop m j).fins ≡ (m.fins.used + (3 * j + 0)) ∷ (m.fins.used + (3 * j + 1)) ∷ (m.fins.used + (3 * j + 2)) ∷ []
unfolding run
fins-of m j = simp add_assoc

-- ---- the walks

module _ (m : Model) (o : Office) (t : Mesh) where
  abbrev behind : Model
  behind = built m o t

  pub new-shells : shells_of behind m.bodies.used ≡ (m.shells.used + 0) ∷ (m.shells.used + 1) ∷ []
  unfolding joined run
  new-shells = rw (body_new m o t, region-new m o t 0, region-new m o t 1)

  pub faces-walked : face_walk behind m.bodies.used ≡ run m.faces.used t.triangles
  unfolding face_walk
  faces-walked = ap firsts (ap (joined (λ s. (shell behind s).faces)) new-shells ∙ twice) ∙ meets-append [] faces (faces ++ []) ∙ ap (λ s. meets s (faces ++ [])) (run-met m.faces.used t.triangles) ∙ ap (meets faces) (append-nil faces) ∙ met-before faces faces again
    where
      faces : List ℕ
      faces = run m.faces.used t.triangles

      twice : joined (λ s. (shell behind s).faces) ((m.shells.used + 0) ∷ (m.shells.used + 1) ∷ []) ≡ faces ++ (faces ++ [])
      twice = unfold joined in rw (shell-new m o t 0, shell-new m o t 1)

      again : all (λ c. member c faces) faces ≡ true
      again = all-over (λ c. member c faces) m.faces.used t.triangles (λ j b. member-run m.faces.used t.triangles (m.faces.used + j) (omega arith) (omega arith))

  -- the edges of the j-th face's fins
  abbrev number_at : ℕ → ℕ
  number_at k = m.edges.used + get_or t.edge_numbers k 0

  face-edges : (j : ℕ) → face_edges behind (m.faces.used + j) ≡ number_at (3 * j + 0) ∷ number_at (3 * j + 1) ∷ number_at (3 * j + 2) ∷ []
  unfolding joined
  face-edges j =
      rw (face-new m o t j, loop-new m o t j, fins-of m j, fin-new m o t (3 * j + 0), fin-new m o t (3 * j + 1), fin-new m o t (3 * j + 2))

  module _ (p : Proper t) where
    pub edges-walked : edge_walk behind m.bodies.used ≡ run m.edges.used (length t.edges)
    unfolding edge_walk
    edges-walked =
        ap (λ l. firsts (joined (face_edges behind) l ++ joined (λ s. (shell behind s).wire_edges) (shells_of behind m.bodies.used))) faces-walked
        ∙ ap (λ l. firsts (l ++ joined (λ s. (shell behind s).wire_edges) (shells_of behind m.bodies.used)))
        (joined-threes (face_edges behind) m.edges.used m.faces.used t.triangles t.edge_numbers p.ranged.numbers (λ j b. face-edges j))
        ∙ ap (λ l. firsts (map (λ k. m.edges.used + k) t.edge_numbers ++ l)) no-wires
        ∙ ap firsts (append-nil (map (λ k. m.edges.used + k) t.edge_numbers))
        ∙ p.ordered m.edges.used
      where
        no-wires : joined (λ s. (shell behind s).wire_edges) (shells_of behind m.bodies.used) ≡ []
        no-wires = ap (joined (λ s. (shell behind s).wire_edges)) new-shells ∙ (unfold joined in rw (shell-new m o t 0, shell-new m o t 1))

  -- ---- not refused

  pub faces-followed : faces_refusal behind m.bodies.used ≡ 0
  unfolding faces_refusal run all
  faces-followed = rw (body_new m o t, has_body, has-region 0 (omega arith), has-region 1 (omega arith), region-new m o t 0, region-new m o t 1, has-shell 0 (omega arith), has-shell 1 (omega arith))
    where
      has_body : has behind.bodies m.bodies.used ≡ true
      has_body = unfold built extended in lt-ltb m.bodies.used (m.bodies.used + 1) (omega arith)

      has-region : (k : ℕ) → k < 2 → has behind.regions (m.regions.used + k) ≡ true
      has-region k h = unfold built extended in lt-ltb (m.regions.used + k) (m.regions.used + 2) (omega arith)

      has-shell : (k : ℕ) → k < 2 → has behind.shells (m.shells.used + k) ≡ true
      has-shell k h = unfold built extended in lt-ltb (m.shells.used + k) (m.shells.used + 2) (omega arith)

  face-followed : (j : ℕ) → j < t.triangles → face_followed behind (m.faces.used + j) ≡ true
  unfolding all
  face-followed j h = rw (has-face, face-new m o t j, has-loop, loop-new m o t j, fins-of m j, has-fin 0 (omega arith), has-fin 1 (omega arith), has-fin 2 (omega arith))
    where
      has-face : has behind.faces (m.faces.used + j) ≡ true
      has-face = unfold built extended in lt-ltb (m.faces.used + j) (m.faces.used + t.triangles) (omega arith)

      has-loop : has behind.loops (m.loops.used + j) ≡ true
      has-loop = unfold built extended in lt-ltb (m.loops.used + j) (m.loops.used + t.triangles) (omega arith)

      has-fin : (q : ℕ) → q < 3 → has behind.fins (m.fins.used + (3 * j + q)) ≡ true
      has-fin q b = unfold built extended in lt-ltb (m.fins.used + (3 * j + q)) (m.fins.used + 3 * t.triangles) (omega arith)

  pub edges-followed : edges_refusal behind m.bodies.used ≡ 0
  unfolding edges_refusal
  edges-followed = rw (faces-followed, faces-walked, all-over (face_followed behind) m.faces.used t.triangles face-followed)

  pub vertices-followed : Proper t → vertices_refusal behind m.bodies.used ≡ 0
  unfolding vertices_refusal
  vertices-followed p = rw (edges-followed, edges-walked p, all-over (has behind.edges) m.edges.used (length t.edges) (has-edge m o t p.ranged))
