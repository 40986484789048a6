-- A closed surface and the report: nothing is shown of its edges; and where nothing is shown, the surface is closed. Assumes nothing.
use Rattle.std.specs.Prelude.{ℕ, ◌+◌, ◌*◌, ◌<◌, ◌≡◌, refl, Bool, false, not, cond, ◌&&◌, eqb}
use Rattle.std.proofs.Common.{arith, ap₂, ◌∙◌, ltb-true, eqb-true, eq-eqb, ne_eqb}
use Rattle.std.proofs.Math.Path.{sym, ap}
use Rattle.std.proofs.Math.Bool.{true}
use Rattle.std.proofs.lemmas.Bool.{false≢true}
use mathlib.Core.List.{List, [], ◌∷◌, ◌++◌, map, append-nil}
use Rattle.std.proofs.Math.Dec.{ltb}
use Rattle.std.proofs.Math.ListN.{length, get_or}
use Rattle.meaning.specs.Lists.{run}
use Rattle.meaning.specs.Model.{Model}
use Rattle.meaning.specs.Faults.{fault, only_if}
use Rattle.meaning_list_laws.specs.Tests.{and_both}
use Rattle.meaning_list_laws.specs.Lists.{joined-nothing, all-run}
use Rattle.meaning_list_laws.specs.Findings.{NoFault, no-fault-at, one-fault, only-if-false}
use Rattle.stl_body.specs.Read.{Step, step, rising, edge_of, Mesh}
use Rattle.stl_body.specs.Laws.{holds}
use Rattle.stl_body.proofs.Laws.{holds-nth, holds-all}
use Rattle.stl_body_laws.specs.Terms.{turned, taken, both_ways, closed_surface, shown_by, edge_shown, edges_shown, read_report}
use Rattle.stl_body_laws.specs.Met.{member-run}
use Rattle.stl_body_laws.specs.Walked.{Proper}
use Rattle.stl_body_laws.proofs.Uses.{and-turned}

-- a pair's two directions are those of its edge
ways-edge : (l : List Step) (s : Step) → both_ways l (edge_of s) ≡ both_ways l s
unfolding both_ways edge_of
ways-edge l s = by (rising s)
  where
    by : (b : Bool) → both_ways l (cond b s (step s.to s.from)) ≡ both_ways l s
    by true = refl
    by false = and-turned (eqb (taken (turned s) l) 1) (eqb (taken s l) 1)

edges-ways : (l k : List Step) → holds (both_ways l) (map edge_of k) ≡ holds (both_ways l) k
unfolding holds
edges-ways l [] = refl
edges-ways l (s ∷ k) = ap₂ ◌&&◌ (ways-edge l s) (edges-ways l k)

once-each : (l : List Step) (s : Step) → both_ways l s ≡ true → (taken s l ≡ 1) × (taken (turned s) l ≡ 1)
unfolding both_ways
once-each l s h = let both = and_both (eqb (taken s l) 1) (eqb (taken (turned s) l) 1) h in (eqb-true (taken s l) 1 both.0, eqb-true (taken (turned s) l) 1 both.1)

each-once : (l : List Step) (s : Step) → (taken s l ≡ 1) × (taken (turned s) l ≡ 1) → both_ways l s ≡ true
unfolding both_ways
each-once l s both = rw (eq-eqb (taken s l) 1 both.0, eq-eqb (taken (turned s) l) 1 both.1)

shown-none : (e up down : ℕ) → NoFault (shown_by e up down) → (up ≡ 1) × (down ≡ 1)
unfolding shown_by
shown-none e up down h = by (eqb (up + down) 2) refl h
  where
    once : (b : Bool) → eqb up 1 ≡ b → not b ≡ false → up ≡ 1
    once true q r = eqb-true up 1 q
    once false q r = absurd (false≢true (sym r))

    by : (b : Bool) → eqb (up + down) 2 ≡ b → NoFault (cond b (only_if (not (eqb up 1)) (fault 20 e)) (fault 19 e ∷ [])) → (up ≡ 1) × (down ≡ 1)
    by true q r =
        let one : up ≡ 1 = once (eqb up 1) refl (only-if-false (not (eqb up 1)) 20 e r) in
        let two : up + down ≡ 2 = eqb-true (up + down) 2 q in
        (one, omega arith)
    by false q r = absurd (one-fault 19 e [] r)

module _ (m : Model) (t : Mesh) where
  abbrev edge_at : ℕ → Step
  edge_at k = get_or t.edges k (step 0 0)

  -- nothing of an edge that is used twice, once in each direction
  pub edge-quiet : (k : ℕ) → both_ways t.steps (edge_at k) ≡ true → edge_shown m t k ≡ []
  unfolding edge_shown shown_by
  edge-quiet k h = let both = once-each t.steps (edge_at k) h in rw (both.0, both.1)

  -- reason 19 of an edge that is not used twice
  pub edge-otherwise : (k : ℕ) → (taken (edge_at k) t.steps + taken (turned (edge_at k)) t.steps ≡ 2 → ⊥) → edge_shown m t k ≡ fault 19 (m.edges.used + k) ∷ []
  unfolding edge_shown shown_by
  edge-otherwise k h = rw (ne_eqb (taken (edge_at k) t.steps + taken (turned (edge_at k)) t.steps) 2 h)

  quiet-edge : (k : ℕ) → NoFault (edge_shown m t k) → both_ways t.steps (edge_at k) ≡ true
  unfolding edge_shown
  quiet-edge k h = each-once t.steps (edge_at k) (shown-none (m.edges.used + k) (taken (edge_at k) t.steps) (taken (turned (edge_at k)) t.steps) h)

  module _ (p : Proper t) where
    -- "a closed surface (every unordered pair used twice, once in each direction)"
    pub closed-quiet : closed_surface t ≡ true → edges_shown m t ≡ []
    unfolding closed_surface edges_shown
    closed-quiet h = joined-nothing (edge_shown m t) (λ k. ltb k (0 + length t.edges)) (run 0 (length t.edges)) quiet (all-run 0 (length t.edges))
      where
        ways : holds (both_ways t.steps) t.edges ≡ true
        ways = p.of_steps (both_ways t.steps) (edges-ways t.steps t.steps ∙ h)

        quiet : (k : ℕ) → ltb k (0 + length t.edges) ≡ true → edge_shown m t k ≡ []
        quiet k b =
            let inside : k < length t.edges = omega (arith, ltb-true k (0 + length t.edges) b) in
            edge-quiet k (holds-nth (both_ways t.steps) t.edges k (step 0 0) ways inside)

    -- where no edge shows a fault, the surface is closed
    pub quiet-closed : NoFault (edges_shown m t) → closed_surface t ≡ true
    unfolding closed_surface edges_shown
    quiet-closed h = holds-all (both_ways t.steps) t.steps (step 0 0) (λ i b. each i (rw p.ranged.fins at b))
      where
        each : (i : ℕ) → i < 3 * t.triangles → both_ways t.steps (get_or t.steps i (step 0 0)) ≡ true
        each i b =
            let k = get_or t.edge_numbers i 0 in
            let inside = p.ranged.fin-edge i b in
            let found = no-fault-at (edge_shown m t) (run 0 (length t.edges)) h k (member-run 0 (length t.edges) k (omega arith) (omega arith)) in
            sym (ways-edge t.steps (get_or t.steps i (step 0 0))) ∙ ap (both_ways t.steps) (sym (p.ranged.fin-joins i b)) ∙ quiet-edge k found

    -- "There are no surfaces or curves yet": only reason 9 is found, one for each face
    pub closed-report : closed_surface t ≡ true → read_report m t ≡ map (fault 9) (run m.faces.used t.triangles)
    unfolding read_report
    closed-report h = ap (λ l. map (fault 9) (run m.faces.used t.triangles) ++ l) (closed-quiet h) ∙ append-nil (map (fault 9) (run m.faces.used t.triangles))
