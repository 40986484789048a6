-- A body whose topological report is empty keeps an empty one. Assumes nothing.
use Rattle.std.specs.Prelude.{ℕ, zero, suc, ◌+◌, ◌≤◌, ◌<◌, ◌≡◌, Bool, true, cond, ◌&&◌, eqb, ltb, length, get_or, Float}
use Rattle.std.proofs.Common.{arith, sym, ◌∙◌, eqb-true, lt-ltb, eq-eqb}
use Rattle.std.proofs.Math.Path.{refl, ap}
use Rattle.std.proofs.Math.Bool.{false}
use mathlib.Core.List.{List, [], ◌∷◌, ◌++◌}
use Rattle.std.proofs.lemmas.Bool.{eqb-false}
use Rattle.meaning.specs.Lists.{run, all, member, count, joined}
use Rattle.meaning.specs.Model.{Model, has, extended, changed, body, fin, edge, Limits}
use Rattle.meaning.specs.Walks.{edge_walk, edges_refusal}
use Rattle.meaning.specs.Inquire.{is_solid}
use Rattle.meaning.specs.Split.{split_refusal, after_split, model_after, Cut, after_all}
use Rattle.meaning.specs.Faults.{Finding, fault, only_if, region_findings, layout, same_sense, manifold, manifold_edge, manifold_edges, findings, faults_of, report_of}
use Rattle.meaning.specs.Formed.{WellFormed, topological, topological_report, empty_report}
use Rattle.meaning_list_laws.specs.Tests.{bit-true}
use Rattle.meaning_list_laws.specs.Lists.{count-present, below-nth}
use Rattle.meaning_list_laws.specs.Findings.{NoFault, no-fault-append, no-fault-parts, no-fault-joined, no-fault-at, one-fault, only-if-false}
use Rattle.meaning_split_laws.specs.After.{fin-was, fin-fresh, edge_fresh, edge-was-fins, accepted, went_to, bodies_kept}
use Rattle.meaning_split_laws.specs.Clean.{surfaceless, regions-clean}
use Rattle.meaning_split_laws.specs.Kept.{well-formed-kept, split-keeps}
use Rattle.meaning_split_laws.specs.Walked.{edges-given}
use Rattle.meaning_split_laws.specs.Gained.{edge-walk-after, edge-walk-old, walked-below}

-- ---- the topological report, up to its manifold edges: what regions, shells, faces and loops give stays the same

layout-kept : (m : Model) (e : ℕ) (t : Float) (b : ℕ) (l : List ℕ) → layout (after_split m e t) b l ≡ layout m b l
unfolding after_split
layout-kept m e t b [] = refl
layout-kept m e t b (r ∷ l) = refl

pub regions-report-kept : (x : Limits) (m : Model) (e : ℕ) (t : Float) → WellFormed x m → split_refusal x m e t ≡ 0 → (b : ℕ) → b < m.bodies.used
    → layout (after_split m e t) b (body m b).regions ++ joined (region_findings (after_split m e t) topological b) (body m b).regions
    ≡ layout m b (body m b).regions ++ joined (region_findings m topological b) (body m b).regions
unfolding after_split changed surfaceless
regions-report-kept x m e t w h b hb =
    ap (λ l. l ++ joined (region_findings (after_split m e t) topological b) (body m b).regions) (layout-kept m e t b (body m b).regions)
    ∙ ap (λ l. layout m b (body m b).regions ++ l)
    (regions-clean x (after_split m e t) (well-formed-kept x m w e t (accepted x m e t h).0 (accepted x m e t h).1) b hb ∙ sym (regions-clean x m w b hb))

-- ---- manifold edges

-- an edge without a fault has two fins, of two senses
pub record TwoFins (m : Model) (l : List ℕ) : Type 0 where
  pub i : ℕ
  pub j : ℕ
  pub both : l ≡ (i ∷ j ∷ [])
  pub senses : (has m.fins i && has m.fins j && same_sense (fin m i).sense (fin m j).sense) ≡ false

pub two-fins : (m : Model) (e : ℕ) (l : List ℕ) → NoFault (manifold m e l) → TwoFins m l
unfolding manifold
two-fins m e [] h = absurd (one-fault 19 e [] h)
two-fins m e (i ∷ []) h = absurd (one-fault 19 e [] h)
two-fins m e (i ∷ j ∷ []) h = record { i = i; j = j; both = refl; senses = only-if-false (has m.fins i && has m.fins j && same_sense (fin m i).sense (fin m j).sense) 20 e h }
two-fins m e (i ∷ j ∷ k ∷ l) h = absurd (one-fault 19 e [] h)

fins-two : (m : Model) (e i j : ℕ) → same_sense (fin m i).sense (fin m j).sense ≡ false → NoFault (manifold m e (i ∷ j ∷ []))
unfolding manifold faults_of
fins-two m e i j h = rw h (go (has m.fins i && has m.fins j))
  where
    go : (b : Bool) → NoFault (only_if (b && false) (fault 20 e))
    go true = refl
    go false = refl

module _ (x : Limits) (m : Model) (w : WellFormed x m) (e : ℕ) (t : Float) (he : e < m.edges.used) where
  -- an old edge has the fins that it had, and these the senses
  manifold-kept : (p : ℕ) (l : List ℕ) → all (λ i. ltb i m.fins.used) l ≡ true → NoFault (manifold m p l) → NoFault (manifold (after_split m e t) p l)
  manifold-kept p l a h =
      let two : TwoFins m l = two-fins m p l h in
      rw two.both (go two.i two.j (rw two.both at a) two.senses)
    where
      go : (i j : ℕ) → all (λ i. ltb i m.fins.used) (i ∷ j ∷ []) ≡ true → (has m.fins i && has m.fins j && same_sense (fin m i).sense (fin m j).sense) ≡ false
          → NoFault (manifold (after_split m e t) p (i ∷ j ∷ []))
      go i j a s =
          let hi : i < m.fins.used = below-nth m.fins.used (i ∷ j ∷ []) 0 a (omega arith) in
          let hj : j < m.fins.used = below-nth m.fins.used (i ∷ j ∷ []) 1 a (omega arith) in
          fins-two (after_split m e t) p i j (rw (fin-was m e t i hi, fin-was m e t j hj) (rw (lt-ltb i m.fins.used hi, lt-ltb j m.fins.used hj) at s))

  -- the new edge has two fins of two senses where the old one has
  manifold-new : NoFault (manifold m e (edge m e).fins) → NoFault (manifold (after_split m e t) m.edges.used (run m.fins.used (length (edge m e).fins)))
  unfolding run
  manifold-new h = go (two-fins m e (edge m e).fins h)
    where
      sense-at : (l : List ℕ) → (edge m e).fins ≡ l → (k : ℕ) → (fin (after_split m e t) (m.fins.used + k)).sense ≡ (fin m (get_or l k 0)).sense
      sense-at l q k =
          ap (λ r. r.sense) (fin-fresh m e t (m.fins.used + k) (omega arith))
          ∙ ap (λ i. (fin m (get_or (edge m e).fins i 0)).sense) (omega arith)
          ∙ ap (λ l. (fin m (get_or l k 0)).sense) q

      go : TwoFins m (edge m e).fins → NoFault (manifold (after_split m e t) m.edges.used (run m.fins.used (length (edge m e).fins)))
      go two =
          let a : all (λ i. ltb i m.fins.used) (two.i ∷ two.j ∷ []) ≡ true = rw two.both at (w.ids.edge-fins e he) in
          let hi : two.i < m.fins.used = below-nth m.fins.used (two.i ∷ two.j ∷ []) 0 a (omega arith) in
          let hj : two.j < m.fins.used = below-nth m.fins.used (two.i ∷ two.j ∷ []) 1 a (omega arith) in
          let apart : same_sense (fin m two.i).sense (fin m two.j).sense ≡ false = rw (lt-ltb two.i m.fins.used hi, lt-ltb two.j m.fins.used hj) at two.senses in
          rw two.both
          (fins-two (after_split m e t) m.edges.used (m.fins.used + 0) (m.fins.used + 1)
          (rw (sense-at (two.i ∷ two.j ∷ []) two.both 0, sense-at (two.i ∷ two.j ∷ []) two.both 1) apart))

  module _ (b : ℕ) (hb : b < m.bodies.used) where
    edge-quiet : ((p : ℕ) → member p (edge_walk m b) ≡ true → NoFault (manifold_edge m p)) → (p : ℕ) → member p (edge_walk (after_split m e t) b) ≡ true → NoFault (manifold_edge (after_split m e t) p)
    edge-quiet h p q = by (eqb p m.edges.used) refl
      where
        quiet : (i : ℕ) → member i (edge_walk m b) ≡ true → i < m.edges.used → NoFault (manifold m i (edge m i).fins)
        quiet i r s = let z : NoFault (manifold_edge m i) = h i r in unfold manifold_edge in (rw (lt-ltb i m.edges.used s) at z)

        seen : (i : ℕ) → i < m.edges.used + 1 → NoFault (manifold (after_split m e t) i (edge (after_split m e t) i).fins) → NoFault (manifold_edge (after_split m e t) i)
        seen i s r = unfold manifold_edge after_split extended changed in (rw (lt-ltb i (m.edges.used + 1) s) r)

        by : (c : Bool) → eqb p m.edges.used ≡ c → NoFault (manifold_edge (after_split m e t) p)
        by true r =
            let last : p ≡ m.edges.used = eqb-true p m.edges.used r in
            let walked-new : 1 ≤ count m.edges.used (edge_walk (after_split m e t) b) = count-present m.edges.used (edge_walk (after_split m e t) b) (rw last at q) in
            let walked-old : member e (edge_walk m b) ≡ true = bit-true (member e (edge_walk m b)) (rw (edge-walk-after x m w e t he b hb).once at walked-new) in
            seen p (omega arith)
            (rw (last, edge_fresh m e t m.edges.used (omega arith)) (manifold-new (quiet e walked-old he)))
        by false r =
            let there : member p (edge_walk m b) ≡ true = sym (edge-walk-old x m w e t he b hb p (eqb-false p m.edges.used r)) ∙ q in
            let below : p < m.edges.used = walked-below x m w e t he b hb p there in
            seen p (omega arith)
            (rw (edge-was-fins m e t p below) (manifold-kept p (edge m p).fins (w.ids.edge-fins p below) (quiet p there below)))

    manifolds-kept : NoFault (manifold_edges m b) → NoFault (manifold_edges (after_split m e t) b)
    unfolding manifold_edges
    manifolds-kept h = by (is_solid (body m b).kind) refl
      where
        kind-same : (body (after_split m e t) b).kind ≡ (body m b).kind
        kind-same = unfold after_split in refl

        by : (c : Bool) → is_solid (body m b).kind ≡ c → NoFault (cond (is_solid (body (after_split m e t) b).kind && eqb (edges_refusal (after_split m e t) b) 0) (joined (manifold_edge (after_split m e t)) (edge_walk (after_split m e t) b)) [])
        by true q =
            let all_quiet : NoFault (joined (manifold_edge m) (edge_walk m b)) = rw (q, edges-given x m w b hb) at h in
            rw (kind-same, q)
            (go (eqb (edges_refusal (after_split m e t) b) 0)
            (no-fault-joined (manifold_edge (after_split m e t)) (edge_walk (after_split m e t) b) (edge-quiet (no-fault-at (manifold_edge m) (edge_walk m b) all_quiet))))
          where
            go : (d : Bool) → NoFault (joined (manifold_edge (after_split m e t)) (edge_walk (after_split m e t) b)) → NoFault (cond d (joined (manifold_edge (after_split m e t)) (edge_walk (after_split m e t) b)) [])
            go true z = z
            go false z = unfold faults_of in refl
        by false q = rw (kind-same, q) (unfold faults_of in refl)

-- ---- the whole report

empty-no-fault : (l : List Finding) → empty_report (report_of l) ≡ true → NoFault l
unfolding report_of
empty-no-fault l h = eqb-true (length (faults_of l)) 0 h

no-fault-empty : (l : List Finding) → NoFault l → empty_report (report_of l) ≡ true
unfolding report_of
no-fault-empty l h = eq-eqb (length (faults_of l)) 0 h

pub report-kept : (x : Limits) (m : Model) (e : ℕ) (t : Float) → WellFormed x m → split_refusal x m e t ≡ 0 → (b : ℕ) → b < m.bodies.used
    → empty_report (topological_report m b) ≡ true → empty_report (topological_report (after_split m e t) b) ≡ true
unfolding findings
report-kept x m e t w h b hb q =
    let parts : NoFault (layout m b (body m b).regions ++ joined (region_findings m topological b) (body m b).regions) × NoFault (manifold_edges m b) =
    no-fault-parts (layout m b (body m b).regions ++ joined (region_findings m topological b) (body m b).regions) (manifold_edges m b) (empty-no-fault (findings m topological b) q) in
    no-fault-empty (findings (after_split m e t) topological b)
    (no-fault-append (layout (after_split m e t) b (body (after_split m e t) b).regions ++ joined (region_findings (after_split m e t) topological b) (body (after_split m e t) b).regions) (manifold_edges (after_split m e t) b)
    (rw (same-regions, regions-report-kept x m e t w h b hb) parts.0) (manifolds-kept x m w e t (accepted x m e t h).0 b hb parts.1))
  where
    same-regions : (body (after_split m e t) b).regions ≡ (body m b).regions
    same-regions = unfold after_split in refl

pub reports-kept : (x : Limits) (m : Model) (l : List Cut) → WellFormed x m → (b : ℕ) → b < m.bodies.used
    → empty_report (topological_report m b) ≡ true → empty_report (topological_report (after_all x m l) b) ≡ true
unfolding after_all
reports-kept x m [] w b hb q = q
reports-kept x m (c ∷ l) w b hb q =
    reports-kept x (model_after x m c.edge c.fraction) l (split-keeps x m c.edge c.fraction w) b (rw (bodies_kept x m c.edge c.fraction) hb)
    (go (split_refusal x m c.edge c.fraction) refl)
  where
    go : (n : ℕ) → split_refusal x m c.edge c.fraction ≡ n → empty_report (topological_report (model_after x m c.edge c.fraction) b) ≡ true
    go zero h = rw (went_to x m c.edge c.fraction 0 h) (report-kept x m c.edge c.fraction w h b hb q)
    go (suc n) h = rw (went_to x m c.edge c.fraction (suc n) h) q
