-- The model after an accepted split, record by record. Assumes nothing.
use Rattle.std.specs.Prelude.{ℕ, zero, suc, ◌-◌, ◌≤◌, ◌<◌, ◌≡◌, Bool, cond, List, [], ◌∷◌, eqb, ltb, length, get_or, Float}
use Rattle.std.proofs.Common.{arith, ap, ◌∙◌}
use Rattle.std.proofs.Math.Path.{refl}
use Rattle.std.proofs.Math.Bool.{true, false}
use borrow.Author.Tests.{ltb-true, lt-ltb, le-ltb, ne_eqb, eq-eqb}
use Rattle.meaning.specs.Lists.{member, joined}
use Rattle.meaning.specs.Model.{Edge, Model, extended, changed, shell, loop, fin, edge, vertex, Limits}
use Rattle.meaning.specs.Split.{test13, split_tests, split_refusal, new_fin, with_new, first_half, second_half, fin_copy, after_split, where_accepted, model_after}
use Rattle.meaning_list_laws.specs.Tests.{unless-zero, none-refused}
use Rattle.meaning_list_laws.specs.Lists.{nth-place}
use Rattle.meaning_list_laws.specs.Tables.{extended-old, extended-new}

-- what stands for a wire edge: itself, and where it is e, the new edge after it
abbrev pub with_new_edge : Model → ℕ → ℕ → List ℕ
with_new_edge m e y = cond (eqb y e) (e ∷ m.edges.used ∷ []) (y ∷ [])

module _ (m : Model) (e : ℕ) (t : Float) where
  -- ---- fins: the old ones, and a copy of each fin of the edge

  pub fin-was : (c : ℕ) → c < m.fins.used → fin (after_split m e t) c ≡ fin m c
  unfolding after_split
  fin-was c h = extended-old m.fins (length (edge m e).fins) (λ k. fin_copy m (get_or (edge m e).fins k 0)) c h

  pub fin-fresh : (c : ℕ) → m.fins.used ≤ c → fin (after_split m e t) c ≡ fin_copy m (get_or (edge m e).fins (c - m.fins.used) 0)
  unfolding after_split
  fin-fresh c h = extended-new m.fins (length (edge m e).fins) (λ k. fin_copy m (get_or (edge m e).fins k 0)) c h

  pub fin-at-new : (f : ℕ) → member f (edge m e).fins ≡ true → fin (after_split m e t) (new_fin m e f) ≡ fin_copy m f
  fin-at-new f h =
      fin-fresh (new_fin m e f) (omega arith)
      ∙ ap (λ i. fin_copy m (get_or (edge m e).fins i 0)) (omega arith)
      ∙ ap (fin_copy m) (nth-place (edge m e).fins f h)

  -- ---- the lists that gain

  pub loop-after : (l : ℕ) → (loop (after_split m e t) l).fins ≡ joined (with_new m e l) (loop m l).fins
  unfolding after_split changed
  loop-after l = refl

  pub shell-after : (s : ℕ) → (shell (after_split m e t) s).wire_edges ≡ joined (with_new_edge m e) (shell m s).wire_edges
  unfolding after_split changed
  shell-after s = refl

  -- ---- edges: e is its first half, the new one the second, and the others are as they were

  pub edge-first : e < m.edges.used → edge (after_split m e t) e ≡ first_half m (edge m e)
  unfolding after_split extended changed
  edge-first he = rw (lt-ltb e m.edges.used he, eq-eqb e e refl)

  pub edge_other : (p : ℕ) → p < m.edges.used → (p ≡ e → ⊥) → edge (after_split m e t) p ≡ edge m p
  unfolding after_split extended changed
  edge_other p h d = rw (lt-ltb p m.edges.used h, ne_eqb p e d)

  pub edge_fresh : (p : ℕ) → m.edges.used ≤ p → edge (after_split m e t) p ≡ second_half m (edge m e)
  unfolding after_split extended changed
  edge_fresh p h = rw (le-ltb p m.edges.used h)

  -- whatever a first half has of the whole, every old edge has
  pub edge-was : {A : Type 0} (f : Edge → A) → ((r : Edge) → f (first_half m r) ≡ f r) → (p : ℕ) → p < m.edges.used → f (edge (after_split m e t) p) ≡ f (edge m p)
  unfolding after_split extended changed
  edge-was f s p h = rw (lt-ltb p m.edges.used h) (go (eqb p e))
    where
      go : (b : Bool) → f (cond b (first_half m (edge m p)) (edge m p)) ≡ f (edge m p)
      go true = s (edge m p)
      go false = refl

  pub edge-was-fins : (p : ℕ) → p < m.edges.used → (edge (after_split m e t) p).fins ≡ (edge m p).fins
  edge-was-fins = edge-was (λ r. r.fins) (λ r. refl)

  -- ---- vertices

  pub vertex-was : (p : ℕ) → p < m.vertices.used → vertex (after_split m e t) p ≡ vertex m p
  unfolding after_split extended
  vertex-was p h = rw (lt-ltb p m.vertices.used h)

-- ---- accepted or refused

-- a split that is not refused has an edge, and room
pub accepted : (x : Limits) (m : Model) (e : ℕ) (t : Float) → split_refusal x m e t ≡ 0 → (e < m.edges.used) × (test13 x m e ≡ 0)
unfolding split_refusal
accepted x m e t h =
    (ltb-true e m.edges.used (unless-zero 1 (ltb e m.edges.used) (none-refused (split_tests x m e t) h 1)), none-refused (split_tests x m e t) h 12)

-- the model after a split, by the split's number
pub went_to : (x : Limits) (m : Model) (e : ℕ) (t : Float) (n : ℕ) → split_refusal x m e t ≡ n → model_after x m e t ≡ where_accepted n m (after_split m e t)
unfolding model_after
went_to x m e t n h = rw h

-- what an accepted split leaves as it was, any split leaves
pub part-kept : {A : Type 0} (of : Model → A) (x : Limits) (m : Model) (e : ℕ) (t : Float) → of (after_split m e t) ≡ of m → of (model_after x m e t) ≡ of m
unfolding model_after
part-kept of x m e t h = go (split_refusal x m e t)
  where
    go : (n : ℕ) → of (where_accepted n m (after_split m e t)) ≡ of m
    go zero = h
    go (suc n) = refl

pub bodies_kept : (x : Limits) (m : Model) (e : ℕ) (t : Float) → (model_after x m e t).bodies ≡ m.bodies
unfolding after_split
bodies_kept x m e t = part-kept (λ n. n.bodies) x m e t refl

pub shells-kept : (x : Limits) (m : Model) (e : ℕ) (t : Float) → (model_after x m e t).shells.used ≡ m.shells.used
unfolding after_split changed
shells-kept x m e t = part-kept (λ n. n.shells.used) x m e t refl
