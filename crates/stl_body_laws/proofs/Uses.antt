-- "An edge used once or thrice is left to the checker", and nothing else is hidden: what the checker shows of an edge goes by how often its two directions are taken. Assumes nothing.
use Rattle.std.specs.Prelude.{ℕ, zero, suc, ◌+◌, ◌*◌, ◌<◌, ◌≡◌, Bool, cond, ◌&&◌, eqb, ltb, length, get_or}
use Rattle.std.proofs.Common.{arith, ◌∙◌}
use Rattle.std.proofs.Math.Decide.{dec_lt}
use Rattle.std.proofs.Math.Path.{refl, sym, ap, ap₂}
use Rattle.std.proofs.Math.Bool.{true, false, not}
use Rattle.std.proofs.lemmas.Bool.{false≢true}
use mathlib.Core.List.{List, [], ◌∷◌, ◌++◌, map}
use borrow.Author.Tests.{lt-ltb, eq-eqb, eqb-true, ne_eqb, leb-true, leb-false}
use Rattle.meaning.specs.Lists.{run, all, count, joined}
use Rattle.meaning.specs.Model.{Model, Office, Sense, positive, negative, Fin, extended, has, fin}
use Rattle.meaning.specs.Faults.{fault, only_if, same_sense, manifold, manifold_edge, manifold_edges, findings}
use Rattle.meaning_list_laws.specs.Tests.{and_both, and-true, and-false, both_ways}
use Rattle.meaning_list_laws.specs.Lists.{joined_snoc, joined-none}
use Rattle.stl_body.specs.Read.{Step, step, same_step, rising, edge_of, sense_of, Mesh, fins_on, built}
use Rattle.stl_body.proofs.Laws.{fins-length}
use Rattle.stl_body.proofs.Meshes.{step-itself, one-step}
use Rattle.stl_body.proofs.Records.{body_new, edge-new, fin-new}
use Rattle.stl_body.specs.Sound.{topology}
use Rattle.stl_body.proofs.Sound.{has-edge, read-findings}
use Rattle.stl_body_laws.specs.Terms.{turned, taken, shown_by, edge_shown, edges_shown, read_report}
use Rattle.stl_body_laws.specs.Walked.{Proper, edges-walked, edges-followed}

-- ---- by the senses of an edge's fins, in any model

abbrev up : Sense → ℕ
up positive = 1
up negative = 0

abbrev down : Sense → ℕ
down positive = 0
down negative = 1

unfoldable going_up : Model → List ℕ → ℕ
going_up n [] = 0
going_up n (i ∷ l) = up (fin n i).sense + going_up n l

unfoldable going_down : Model → List ℕ → ℕ
going_down n [] = 0
going_down n (i ∷ l) = down (fin n i).sense + going_down n l

each_goes : (n : Model) (l : List ℕ) → going_up n l + going_down n l ≡ length l
unfolding going_up going_down
each_goes n [] = refl
each_goes n (i ∷ l) = by (fin n i).sense (each_goes n l)
  where
    by : (s : Sense) → going_up n l + going_down n l ≡ length l → (up s + going_up n l) + (down s + going_down n l) ≡ suc (length l)
    by positive h = omega arith
    by negative h = omega arith

fins-show : (n : Model) (e : ℕ) (l : List ℕ) → all (has n.fins) l ≡ true → manifold n e l ≡ shown_by e (going_up n l) (going_down n l)
unfolding manifold shown_by going_up going_down all
fins-show n e [] h = refl
fins-show n e (i ∷ []) h = by (fin n i).sense
  where
    by : (s : Sense) → fault 19 e ∷ [] ≡ shown_by e (up s + 0) (down s + 0)
    by positive = refl
    by negative = refl
fins-show n e (i ∷ j ∷ []) h =
    let first = and_both (has n.fins i) _ h in
    let second = and_both (has n.fins j) _ first.1 in
    rw (first.0, second.0) (by (fin n i).sense (fin n j).sense)
  where
    by : (s t : Sense) → only_if (same_sense s t) (fault 20 e) ≡ shown_by e (up s + (up t + 0)) (down s + (down t + 0))
    by positive positive = refl
    by positive negative = refl
    by negative positive = refl
    by negative negative = refl
fins-show n e (i ∷ j ∷ k ∷ l) h = rw (ne_eqb (going_up n (i ∷ j ∷ k ∷ l) + going_down n (i ∷ j ∷ k ∷ l)) 2 (λ q. omega (arith, each_goes n (i ∷ j ∷ k ∷ l))))

-- ---- a step goes along its edge, or the other way

pub and-turned : (a b : Bool) → (a && b) ≡ (b && a)
and-turned true true = refl
and-turned true false = refl
and-turned false true = refl
and-turned false false = refl

-- not both
apart : (a b c d : ℕ) → (a ≡ b → c ≡ d → ⊥) → (eqb a b && eqb c d) ≡ false
apart a b c d h = by (eqb a b) refl (eqb c d) refl
  where
    by : (s : Bool) → eqb a b ≡ s → (t : Bool) → eqb c d ≡ t → (s && t) ≡ false
    by true e true f = absurd (h (eqb-true a b e) (eqb-true c d f))
    by true e false f = refl
    by false e t f = refl

module _ (e s : Step) (rise : e.from < e.to) where
  along : same_step e s ≡ (same_step e (edge_of s) && rising s)
  unfolding edge_of
  along = by (rising s) refl
    where
      by : (b : Bool) → rising s ≡ b → same_step e s ≡ (same_step e (cond b s (step s.to s.from)) && b)
      by true h = sym (and-true (same_step e s))
      by false h = apart e.from s.from e.to s.to (λ p q. omega (arith, leb-false s.from s.to h)) ∙ sym (and-false (same_step e (step s.to s.from)))

  against : same_step (turned e) s ≡ (same_step e (edge_of s) && not (rising s))
  unfolding edge_of
  against = by (rising s) refl
    where
      by : (b : Bool) → rising s ≡ b → same_step (turned e) s ≡ (same_step e (cond b s (step s.to s.from)) && not b)
      by true h = apart e.to s.from e.from s.to (λ p q. omega (arith, leb-true s.from s.to h)) ∙ sym (and-false (same_step e s))
      by false h = and-turned (eqb e.to s.from) (eqb e.from s.to) ∙ sym (and-true (same_step e (step s.to s.from)))

-- ---- the fins of an edge are its uses

record Uses (n : Model) (l : List ℕ) (e : Step) (steps : List Step) : Type 0 where
  upwards : going_up n l ≡ taken e steps
  downwards : going_down n l ≡ taken (turned e) steps

module _ (n : Model) (k : ℕ) (e : Step) (rise : e.from < e.to) where
  uses : (u : ℕ) (numbers : List ℕ) (steps : List Step) → length numbers ≡ length steps
      → ((i : ℕ) → i < length steps → (fin n (u + i)).sense ≡ sense_of (get_or steps i (step 0 0)))
      → ((i : ℕ) → i < length steps → eqb k (get_or numbers i 0) ≡ same_step e (edge_of (get_or steps i (step 0 0)))) → Uses n (fins_on k u numbers) e steps
  unfolding fins_on taken going_up going_down
  uses u [] [] h senses edges = record { upwards = refl; downwards = refl }
  uses u [] (s ∷ steps) h senses edges = absurd (omega arith)
  uses u (a ∷ numbers) [] h senses edges = absurd (omega arith)
  uses u (a ∷ numbers) (s ∷ steps) h senses edges =
      let rest = uses (suc u) numbers steps (omega arith) (λ i b. ap (λ j. (fin n j).sense) (omega arith) ∙ senses (suc i) (omega arith)) (λ i b. edges (suc i) (omega arith)) in
      rw (edges 0 (omega arith))
      (record {
        upwards = rw (along e s rise) (go-up (same_step e (edge_of s)) (rising s) its-sense rest);
        downwards = rw (against e s rise) (go-down (same_step e (edge_of s)) (rising s) its-sense rest);
      })
    where
      its-sense : (fin n u).sense ≡ sense_of s
      its-sense = ap (λ i. (fin n i).sense) (omega arith) ∙ senses 0 (omega arith)

      go-up : (b c : Bool) → (fin n u).sense ≡ cond c positive negative → Uses n (fins_on k (suc u) numbers) e steps
          → going_up n (cond b (u ∷ fins_on k (suc u) numbers) (fins_on k (suc u) numbers)) ≡ cond (b && c) (suc (taken e steps)) (taken e steps)
      go-up false c g r = r.upwards
      go-up true true g r = rw g (omega (arith, r.upwards))
      go-up true false g r = rw g (omega (arith, r.upwards))

      go-down : (b c : Bool) → (fin n u).sense ≡ cond c positive negative → Uses n (fins_on k (suc u) numbers) e steps
          → going_down n (cond b (u ∷ fins_on k (suc u) numbers) (fins_on k (suc u) numbers)) ≡ cond (b && not c) (suc (taken (turned e) steps)) (taken (turned e) steps)
      go-down false c g r = r.downwards
      go-down true true g r = rw g (omega (arith, r.downwards))
      go-down true false g r = rw g (omega (arith, r.downwards))

pub fins-below : (k u : ℕ) (l : List ℕ) → all (λ i. ltb i (u + length l)) (fins_on k u l) ≡ true
unfolding fins_on all
fins-below k u [] = refl
fins-below k u (a ∷ l) = go (eqb k a) (rw over at (fins-below k (suc u) l))
  where
    over : suc u + length l ≡ u + suc (length l)
    over = omega arith

    go : (b : Bool) → all (λ i. ltb i (u + suc (length l))) (fins_on k (suc u) l) ≡ true → all (λ i. ltb i (u + suc (length l))) (cond b (u ∷ fins_on k (suc u) l) (fins_on k (suc u) l)) ≡ true
    go true h = rw (lt-ltb u (u + suc (length l)) (omega arith)) h
    go false h = h

-- ---- the body that was read

-- the same from each of two runs
runs-beside : {A : Type 0} (f g : ℕ → List A) (u n : ℕ) → ((j : ℕ) → j < n → f (u + j) ≡ g j) → joined f (run u n) ≡ joined g (run 0 n)
unfolding run
runs-beside f g u zero h = joined-none f ∙ sym (joined-none g)
runs-beside f g u (suc n) h =
    joined_snoc f (run u n) (u + n) ∙ ap₂ ◌++◌ (runs-beside f g u n (λ j b. h j (omega arith))) (h n (omega arith) ∙ ap g (omega arith)) ∙ sym (joined_snoc g (run 0 n) (0 + n))

module _ (m : Model) (o : Office) (t : Mesh) (p : Proper t) where
  abbrev behind : Model
  behind = built m o t

  -- a fin's edge is the one that joins its ends
  its-edge : (k i : ℕ) → k < length t.edges → i < 3 * t.triangles → eqb k (get_or t.edge_numbers i 0) ≡ same_step (get_or t.edges k (step 0 0)) (edge_of (get_or t.steps i (step 0 0)))
  its-edge k i a b = both_ways (eqb k j) (same_step (get_or t.edges k (step 0 0)) (edge_of s)) there back
    where
      j : ℕ
      j = get_or t.edge_numbers i 0

      s : Step
      s = get_or t.steps i (step 0 0)

      joins : get_or t.edges j (step 0 0) ≡ edge_of s
      joins = p.ranged.fin-joins i b

      there : eqb k j ≡ true → same_step (get_or t.edges k (step 0 0)) (edge_of s) ≡ true
      there h = rw (eqb-true k j h, joins) (step-itself (edge_of s))

      itself : same_step (get_or t.edges k (step 0 0)) (edge_of s) ≡ true → get_or t.edges k (step 0 0) ≡ get_or t.edges j (step 0 0)
      itself h = one-step _ _ h ∙ sym joins

      different : (x y : ℕ) → x < y → y < length t.edges → get_or t.edges y (step 0 0) ≡ get_or t.edges x (step 0 0) → ⊥
      different x y c d q = false≢true (sym (p.ranged.edges-apart.apart x y c d) ∙ ap (λ e. same_step e (get_or t.edges x (step 0 0))) q ∙ step-itself (get_or t.edges x (step 0 0)))

      back : same_step (get_or t.edges k (step 0 0)) (edge_of s) ≡ true → eqb k j ≡ true
      back h =
          elim (dec_lt k j) [
            | yes c ↦ absurd (different k j c (p.ranged.fin-edge i b) (sym (itself h)))
            | no c ↦ elim (dec_lt j k) [
              | yes d ↦ absurd (different j k d a (itself h))
              | no d ↦ eq-eqb k j (omega arith)
            ]
          ]

  -- the fins of the k-th edge, the steps' uses of it
  abbrev fins_at : ℕ → List ℕ
  fins_at k = fins_on k m.fins.used t.edge_numbers

  abbrev edge_at : ℕ → Step
  edge_at k = get_or t.edges k (step 0 0)

  its-uses : (k : ℕ) → k < length t.edges → Uses behind (fins_at k) (edge_at k) t.steps
  its-uses k h =
      uses behind k (edge_at k) (p.rise k h) m.fins.used t.edge_numbers t.steps (p.ranged.numbers ∙ sym p.ranged.fins)
      (λ i b. ap (λ (f : Fin). f.sense) (fin-new m o t i))
      (λ i b. its-edge k i h (rw p.ranged.fins at b))

  -- an edge has a fin for each use, in either direction
  pub fins-are-uses : (k : ℕ) → k < length t.edges → count k t.edge_numbers ≡ taken (edge_at k) t.steps + taken (turned (edge_at k)) t.steps
  fins-are-uses k h = sym (fins-length k m.fins.used t.edge_numbers) ∙ sym (each_goes behind (fins_at k)) ∙ ap₂ ◌+◌ (its-uses k h).upwards (its-uses k h).downwards

  -- "An edge used once or thrice" and whatever else its uses show
  pub edge-shown : (k : ℕ) → k < length t.edges → manifold_edge behind (m.edges.used + k) ≡ edge_shown m t k
  unfolding manifold_edge edge_shown
  edge-shown k h =
      rw (has-edge m o t p.ranged k h, edge-new m o t k)
      (fins-show behind (m.edges.used + k) (fins_at k) all_there ∙ ap₂ (shown_by (m.edges.used + k)) (its-uses k h).upwards (its-uses k h).downwards)
    where
      all_there : all (has behind.fins) (fins_at k) ≡ true
      all_there = unfold built extended in (rw p.ranged.numbers at (fins-below k m.fins.used t.edge_numbers))

  pub manifold-shown : manifold_edges behind m.bodies.used ≡ edges_shown m t
  unfolding manifold_edges edges_shown
  manifold-shown =
      rw (body_new m o t, edges-followed m o t, edges-walked m o t p)
      (runs-beside (manifold_edge behind) (edge_shown m t) m.edges.used (length t.edges) edge-shown)

  -- the whole topological report
  pub report-is : findings behind topology m.bodies.used ≡ read_report m t
  unfolding read_report
  report-is = read-findings m o t p.ranged ∙ ap (λ l. map (fault 9) (run m.faces.used t.triangles) ++ l) manifold-shown
