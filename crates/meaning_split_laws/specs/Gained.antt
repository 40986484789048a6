-- What an accepted split does to the walks of each body. Assumes nothing.
use Prim.Native.Nat.{ℕ, suc, ◌+◌, ◌≤◌, ◌<◌}
use Rattle.std.proofs.Common.{arith, sym, ◌∙◌, subst}
use Rattle.std.specs.Prelude.{◌≡◌, Bool, ◌&&◌, ◌||◌, length, Float}
use Rattle.std.proofs.Math.Path.{refl, ap}
use Rattle.std.proofs.Math.Bool.{true, false, cond, not, or-true}
use Rattle.std.proofs.lemmas.Bool.{false≢true}
use mathlib.Core.List.{List, [], ◌∷◌, ◌++◌, map, map-append}
use Rattle.std.proofs.Math.Dec.{eqb, ltb}
use borrow.Author.Tests.{ltb-true, eqb-true, eqb-false, lt-ltb, ne_eqb, eq-eqb, not-true}
use Rattle.meaning.specs.Lists.{all, member, count, joined, listed, same}
use Rattle.meaning.specs.Model.{Sense, positive, negative, Edge, Model, changed, shell, face, loop, fin, edge, Limits}
use Rattle.meaning.specs.Refuse.{given}
use Rattle.meaning.specs.Walks.{shells_of, face_walk, face_edges, edge_walk, edge_vertices, vertex_walk}
use Rattle.meaning.specs.Split.{split_refusal, EdgeSplit, split_line_edge, new_fin, beside, with_new, first_half, second_half, after_split, model_after}
use Rattle.meaning.specs.Faults.{counts}
use Rattle.meaning.specs.Formed.{bit, WellFormed, has_edge}
use Rattle.meaning_split_laws.specs.Terms.{Walked, OneMore, SameWalks}
use Rattle.meaning_list_laws.specs.Tests.{and_both, or-first, both_ways}
use Rattle.meaning_list_laws.specs.Lists.{count-cons, count-append, count-above, member-counted, count-present, member-append, member-one, all-at, all-counted, joined-cons, joined-append, joined_same, count-firsts, member-firsts, count-once, length_more}
use Rattle.meaning_split_laws.specs.After.{with_new_edge, fin-was, fin-at-new, edge-first, edge_other, edge_fresh, accepted, went_to}
use Rattle.meaning_split_laws.specs.Clean.{own}
use Rattle.meaning_split_laws.specs.Kept.{in-fins, not-in-fins}
use Rattle.meaning_split_laws.specs.Refusals.{answered-given, given-value}
use Rattle.meaning_split_laws.specs.Doubled.{Doubled, ended, other, after, before, doubled-append, doubled-joined, doubled-mapped, member-without, without-none, length_without, Beside, firsts-doubled}
use Rattle.meaning_split_laws.specs.Walked.{shells-there, faces-there, edges-there, vertices-there, faces-given, edges-given, vertices-given, has-edge}

-- ---- in a joined list

module _ (v : ℕ) (f : ℕ → List ℕ) where
  pub joined-has : (l : List ℕ) (p : ℕ) → member p l ≡ true → member v (f p) ≡ true → member v (joined f l) ≡ true
  unfolding joined member
  joined-has [] p h q = absurd (false≢true h)
  joined-has (y ∷ l) p h q = rw (member-append v (f y) (joined f l)) (by (eqb p y) refl h (joined-has l p))
    where
      by : (b : Bool) → eqb p y ≡ b → (b || member p l) ≡ true → (member p l ≡ true → member v (f p) ≡ true → member v (joined f l) ≡ true) → (member v (f y) || member v (joined f l)) ≡ true
      by true r h g = rw (← eqb-true p y r, q)
      by false r h g = rw (g h q) (or-true (member v (f y)))

  pub joined-from : (l : List ℕ) → member v (joined f l) ≡ true → (p : ℕ) × (member p l ≡ true) × (member v (f p) ≡ true)
  unfolding joined member
  joined-from [] h = absurd (false≢true h)
  joined-from (y ∷ l) h = by (member v (f y)) refl (sym (member-append v (f y) (joined f l)) ∙ h) (joined-from l)
    where
      by : (b : Bool) → member v (f y) ≡ b → (b || member v (joined f l)) ≡ true → (member v (joined f l) ≡ true → (p : ℕ) × (member p l ≡ true) × (member v (f p) ≡ true))
          → (p : ℕ) × ((eqb p y || member p l) ≡ true) × (member v (f p) ≡ true)
      by true r h g = (y, rw (eq-eqb y y refl), r)
      by false r h g = let rest : (p : ℕ) × (member p l ≡ true) × (member v (f p) ≡ true) = g h in (rest.0, rw rest.1 (or-true (eqb rest.0 y)), rest.2)

-- the vertices that a body's edges have, then its acorn vertices
pub vertex-member : (m : Model) (b v : ℕ)
    → member v (vertex_walk m b) ≡ (member v (joined (λ p. edge_vertices (edge m p)) (edge_walk m b)) || member v (joined (λ s. (shell m s).acorn_vertices) (shells_of m b)))
unfolding vertex_walk
vertex-member m b v =
    member-firsts v (joined (λ p. edge_vertices (edge m p)) (edge_walk m b) ++ joined (λ s. (shell m s).acorn_vertices) (shells_of m b))
    ∙ member-append v (joined (λ p. edge_vertices (edge m p)) (edge_walk m b)) (joined (λ s. (shell m s).acorn_vertices) (shells_of m b))

-- the ends of the two halves of an edge
first-half-ends : (m : Model) (r : Edge) (v : ℕ) → member v (edge_vertices (first_half m r)) ≡ (member v (listed r.start) || eqb v m.vertices.used)
first-half-ends m r v = member-append v (listed r.start) (m.vertices.used ∷ []) ∙ ap (λ c. member v (listed r.start) || c) (member-one v m.vertices.used)

second-half-ends : (m : Model) (r : Edge) (v : ℕ) → member v (edge_vertices (second_half m r)) ≡ (eqb v m.vertices.used || member v (listed r.end))
second-half-ends m r v = member-append v (m.vertices.used ∷ []) (listed r.end) ∙ ap (λ c. c || member v (listed r.end)) (member-one v m.vertices.used)

whole-ends : (r : Edge) (v : ℕ) → member v (edge_vertices r) ≡ (member v (listed r.start) || member v (listed r.end))
whole-ends r v = member-append v (listed r.start) (listed r.end)

-- ---- the edges that the fins of a loop and the shells list: after the split the new edge stands beside the old one

module _ (x : Limits) (m : Model) (w : WellFormed x m) (e : ℕ) (t : Float) (he : e < m.edges.used) where
  halves-doubled : (s : Sense) (f n : ℕ) → (fin (after_split m e t) f).edge ≡ e → (fin (after_split m e t) n).edge ≡ m.edges.used
      → Doubled e m.edges.used (e ∷ []) (map (λ i. (fin (after_split m e t) i).edge) (beside s f n))
  halves-doubled positive f n p q = rw (p, q) (after ended)
  halves-doubled negative f n p q = rw (p, q) (before ended)

  fin-doubled : (l f : ℕ) → f < m.fins.used → (fin m f).owner ≡ l → Doubled e m.edges.used ((fin m f).edge ∷ []) (map (λ i. (fin (after_split m e t) i).edge) (with_new m e l f))
  fin-doubled l f h o = by (eqb (fin m f).edge e) refl
    where
      by : (b : Bool) → eqb (fin m f).edge e ≡ b → Doubled e m.edges.used ((fin m f).edge ∷ []) (map (λ i. (fin (after_split m e t) i).edge) (with_new m e l f))
      by true q =
          let on : (fin m f).edge ≡ e = eqb-true (fin m f).edge e q in
          let mem : member f (edge m e).fins ≡ true = in-fins x m w e t he f h on in
          rw (mem, eq-eqb (fin m f).owner l o, on)
          (halves-doubled (fin m f).sense f (new_fin m e f) (ap (λ r. r.edge) (fin-was m e t f h) ∙ on) (ap (λ r. r.edge) (fin-at-new m e t f mem)))
      by false q =
          let off : (fin m f).edge ≡ e → ⊥ = eqb-false (fin m f).edge e q in
          let old : (fin m f).edge < m.edges.used = w.ids.fin-edge f h in
          rw (not-in-fins x m w e t he f h off, fin-was m e t f h) (other off (λ z. omega arith) ended)

  loop-doubled : (l : ℕ) (L : List ℕ) → all (λ f. ltb f m.fins.used && eqb (fin m f).owner l) L ≡ true
      → Doubled e m.edges.used (map (λ i. (fin m i).edge) L) (map (λ i. (fin (after_split m e t) i).edge) (joined (with_new m e l) L))
  unfolding joined all
  loop-doubled l [] a = ended
  loop-doubled l (f ∷ L) a =
      let both : (ltb f m.fins.used && eqb (fin m f).owner l ≡ true) × (all (λ f. ltb f m.fins.used && eqb (fin m f).owner l) L ≡ true) = and_both _ _ a in
      let here : (ltb f m.fins.used ≡ true) × (eqb (fin m f).owner l ≡ true) = and_both _ _ both.0 in
      rw (map-append (λ i. (fin (after_split m e t) i).edge) (with_new m e l f) (joined (with_new m e l) L))
      (doubled-append e m.edges.used (fin-doubled l f (ltb-true f m.fins.used here.0) (eqb-true (fin m f).owner l here.1)) (loop-doubled l L both.1))

  face-doubled : (f : ℕ) → ltb f m.faces.used ≡ true → Doubled e m.edges.used (face_edges m f) (face_edges (after_split m e t) f)
  unfolding after_split changed
  face-doubled f h =
      doubled-mapped e m.edges.used (λ i. (fin m i).edge) (λ i. (fin (after_split m e t) i).edge) (λ l. (loop m l).fins) (λ l. joined (with_new m e l) (loop m l).fins) (λ l. ltb l m.loops.used) (face m f).loops
      (λ l q. loop-doubled l (loop m l).fins (own x m w l (ltb-true l m.loops.used q))) (w.ids.face-loops f (ltb-true f m.faces.used h))

  wires-doubled : (W : List ℕ) → all (λ y. ltb y m.edges.used) W ≡ true → Doubled e m.edges.used W (joined (with_new_edge m e) W)
  unfolding joined all
  wires-doubled [] a = ended
  wires-doubled (y ∷ W) a =
      let both : (ltb y m.edges.used ≡ true) × (all (λ y. ltb y m.edges.used) W ≡ true) = and_both _ _ a in
      let old : y < m.edges.used = ltb-true y m.edges.used both.0 in
      by (eqb y e) refl old (wires-doubled W both.1)
    where
      R : List ℕ
      R = joined (with_new_edge m e) W

      by : (b : Bool) → eqb y e ≡ b → y < m.edges.used → Doubled e m.edges.used W R → Doubled e m.edges.used (y ∷ W) (cond b (e ∷ m.edges.used ∷ []) (y ∷ []) ++ R)
      by true q h d = rw (eqb-true y e q) (after d)
      by false q h d = other (eqb-false y e q) (λ z. omega arith) d

  -- a list without the edge stays
  wires-same : (W : List ℕ) → count e W ≡ 0 → joined (with_new_edge m e) W ≡ W
  unfolding joined count
  wires-same [] h = refl
  wires-same (y ∷ W) h = by (eqb y e) refl (eqb e y) refl h (wires-same W)
    where
      by : (b : Bool) → eqb y e ≡ b → (c : Bool) → eqb e y ≡ c → cond c (suc (count e W)) (count e W) ≡ 0 → (count e W ≡ 0 → joined (with_new_edge m e) W ≡ W)
          → cond b (e ∷ m.edges.used ∷ []) (y ∷ []) ++ joined (with_new_edge m e) W ≡ (y ∷ W)
      by true q true r z f = absurd (omega arith)
      by true q false r z f = absurd (eqb-false e y r (sym (eqb-true y e q)))
      by false q true r z f = absurd (omega arith)
      by false q false r z f = rw (f z)

  -- the new wire edge stands after the old one
  pub wire-after : (s : ℕ) → s < m.shells.used → (k l : List ℕ) → (shell m s).wire_edges ≡ k ++ (e ∷ l) → (shell (after_split m e t) s).wire_edges ≡ k ++ (e ∷ m.edges.used ∷ l)
  unfolding after_split changed
  wire-after s hs k l q =
      let once : count e (k ++ (e ∷ l)) ≤ 1 = rw (← q) (w.wires s e hs) in
      let sum : count e (k ++ (e ∷ l)) ≡ count e k + (1 + count e l) = count-append e k (e ∷ l) ∙ ap (λ n. count e k + n) (count-cons e e l ∙ rw (eq-eqb e e refl)) in
      rw (
        q,
        joined-append (with_new_edge m e) k (e ∷ l),
        joined-cons (with_new_edge m e) e l,
        wires-same k (omega arith),
        wires-same l (omega arith),
        eq-eqb e e refl,
      )

  -- ---- the walks of a body

  module _ (b : ℕ) (hb : b < m.bodies.used) where
    pub face-walk-kept : face_walk (after_split m e t) b ≡ face_walk m b
    unfolding face_walk after_split changed
    face-walk-kept = refl

    pub edge-walk-after : Beside e m.edges.used (edge_walk m b) (edge_walk (after_split m e t) b)
    unfolding edge_walk
    edge-walk-after =
        rw face-walk-kept
        (firsts-doubled e m.edges.used (λ z. omega arith)
        (doubled-append e m.edges.used
        (doubled-joined e m.edges.used (face_edges m) (face_edges (after_split m e t)) (λ f. ltb f m.faces.used) (face_walk m b) face-doubled (faces-there x m w b hb))
        wires))
      where
        wires : Doubled e m.edges.used (joined (λ s. (shell m s).wire_edges) (shells_of m b)) (joined (λ s. (shell (after_split m e t) s).wire_edges) (shells_of (after_split m e t) b))
        wires =
            unfold after_split changed in
            doubled-joined e m.edges.used (λ s. (shell m s).wire_edges) (λ s. joined (with_new_edge m e) (shell m s).wire_edges) (λ s. ltb s m.shells.used) (shells_of m b)
            (λ s h. wires-doubled (shell m s).wire_edges (w.ids.shell-wire-edges s (ltb-true s m.shells.used h))) (shells-there x m w b hb)

    -- an edge but the new one is walked as before
    pub edge-walk-old : (p : ℕ) → (p ≡ m.edges.used → ⊥) → member p (edge_walk (after_split m e t) b) ≡ member p (edge_walk m b)
    edge-walk-old p h = sym (member-without p m.edges.used (edge_walk (after_split m e t) b) h) ∙ ap (member p) edge-walk-after.back

    pub walked-below : (p : ℕ) → member p (edge_walk m b) ≡ true → p < m.edges.used
    walked-below p h = ltb-true p m.edges.used (all-at (λ i. ltb i m.edges.used) (edge_walk m b) p (edges-there x m w b hb) (count-present p (edge_walk m b) h))

    acorns-same : joined (λ s. (shell (after_split m e t) s).acorn_vertices) (shells_of (after_split m e t) b) ≡ joined (λ s. (shell m s).acorn_vertices) (shells_of m b)
    unfolding after_split changed
    acorns-same = refl

    -- ---- a body that does not have the edge

    module _ (no_edge : member e (edge_walk m b) ≡ false) where
      pub edge-walk-same : edge_walk (after_split m e t) b ≡ edge_walk m b
      edge-walk-same =
          sym (without-none m.edges.used (edge_walk (after_split m e t) b) (rw no_edge at edge-walk-after.once))
          ∙ edge-walk-after.back

      elsewhere : all (λ p. ltb p m.edges.used && not (eqb p e)) (edge_walk m b) ≡ true
      elsewhere = all-counted (λ p. ltb p m.edges.used && not (eqb p e)) (edge_walk m b) each
        where
          each : (p : ℕ) → 1 ≤ count p (edge_walk m b) → (ltb p m.edges.used && not (eqb p e)) ≡ true
          each p h =
              let there : member p (edge_walk m b) ≡ true = member-counted p (edge_walk m b) h in
              rw (lt-ltb p m.edges.used (walked-below p there), ne_eqb p e (λ z. false≢true (sym no_edge ∙ ap (λ i. member i (edge_walk m b)) (sym z) ∙ there)))

      same_ends : (p : ℕ) → (ltb p m.edges.used && not (eqb p e)) ≡ true → edge_vertices (edge (after_split m e t) p) ≡ edge_vertices (edge m p)
      same_ends p h =
          let both : (ltb p m.edges.used ≡ true) × (not (eqb p e) ≡ true) = and_both (ltb p m.edges.used) (not (eqb p e)) h in
          ap edge_vertices (edge_other m e t p (ltb-true p m.edges.used both.0) (eqb-false p e (not-true (eqb p e) both.1)))

      pub vertex-walk-same : vertex_walk (after_split m e t) b ≡ vertex_walk m b
      unfolding vertex_walk
      vertex-walk-same =
          rw (
            edge-walk-same,
            acorns-same,
            joined_same (λ p. edge_vertices (edge (after_split m e t) p)) (λ p. edge_vertices (edge m p)) (λ p. ltb p m.edges.used && not (eqb p e)) (edge_walk m b) same_ends elsewhere,
          )

    -- ---- a body that has the edge

    module _ (has-it : member e (edge_walk m b) ≡ true) where
      pub new-edge-walked : count m.edges.used (edge_walk (after_split m e t) b) ≡ 1
      new-edge-walked = edge-walk-after.once ∙ ap bit has-it

      new-there : member m.edges.used (edge_walk (after_split m e t) b) ≡ true
      new-there = member-counted m.edges.used (edge_walk (after_split m e t) b) (rw new-edge-walked (omega arith))

      old-there : member e (edge_walk (after_split m e t) b) ≡ true
      old-there = edge-walk-old e (λ z. omega arith) ∙ has-it

      pub edge-walk-longer : length (edge_walk (after_split m e t) b) ≡ length (edge_walk m b) + 1
      edge-walk-longer = length_without m.edges.used (edge_walk (after_split m e t) b) ∙ rw (edge-walk-after.back, new-edge-walked)

      -- the ends of the edges: one list before, one after
      Before : List ℕ
      Before = joined (λ p. edge_vertices (edge m p)) (edge_walk m b)

      After : List ℕ
      After = joined (λ p. edge_vertices (edge (after_split m e t) p)) (edge_walk (after_split m e t) b)

      new-vertex-met : member m.vertices.used After ≡ true
      unfolding After
      new-vertex-met =
          joined-has m.vertices.used (λ p. edge_vertices (edge (after_split m e t) p)) (edge_walk (after_split m e t) b) e old-there
          (ap (λ r. member m.vertices.used (edge_vertices r)) (edge-first m e t he)
          ∙ first-half-ends m (edge m e) m.vertices.used
          ∙ rw (eq-eqb m.vertices.used m.vertices.used refl) (or-true (member m.vertices.used (listed (edge m e).start))))

      -- an end of an edge stays one
      still-met : (v : ℕ) → member v Before ≡ true → member v After ≡ true
      unfolding Before After
      still-met v h = by (eqb from.0 e) refl
        where
          from : (p : ℕ) × (member p (edge_walk m b) ≡ true) × (member v (edge_vertices (edge m p)) ≡ true)
          from = joined-from v (λ p. edge_vertices (edge m p)) (edge_walk m b) h

          put : (p : ℕ) → member p (edge_walk (after_split m e t) b) ≡ true → member v (edge_vertices (edge (after_split m e t) p)) ≡ true → member v After ≡ true
          put p = joined-has v (λ p. edge_vertices (edge (after_split m e t) p)) (edge_walk (after_split m e t) b) p

          side : (c : Bool) → member v (listed (edge m e).start) ≡ c → (c || member v (listed (edge m e).end)) ≡ true → member v After ≡ true
          side true q r =
              put e old-there
              (ap (λ i. member v (edge_vertices i)) (edge-first m e t he) ∙ first-half-ends m (edge m e) v ∙ rw q)
          side false q r =
              put m.edges.used new-there
              (ap (λ i. member v (edge_vertices i)) (edge_fresh m e t m.edges.used (omega arith)) ∙ second-half-ends m (edge m e) v ∙ rw r (or-true (eqb v m.vertices.used)))

          by : (c : Bool) → eqb from.0 e ≡ c → member v After ≡ true
          by true q =
              let here : member v (edge_vertices (edge m e)) ≡ true = ap (λ p. member v (edge_vertices (edge m p))) (sym (eqb-true from.0 e q)) ∙ from.2 in
              side (member v (listed (edge m e).start)) refl (sym (whole-ends (edge m e) v) ∙ here)
          by false q =
              let below : from.0 < m.edges.used = walked-below from.0 from.1 in
              put from.0 (edge-walk-old from.0 (λ z. omega arith) ∙ from.1)
              (ap (λ i. member v (edge_vertices i)) (edge_other m e t from.0 below (eqb-false from.0 e q)) ∙ from.2)

      -- and no vertex but the new one came in
      was-met : (v : ℕ) → (v ≡ m.vertices.used → ⊥) → member v After ≡ true → member v Before ≡ true
      unfolding Before After
      was-met v old h = by (eqb from.0 m.edges.used) refl (eqb from.0 e) refl
        where
          from : (p : ℕ) × (member p (edge_walk (after_split m e t) b) ≡ true) × (member v (edge_vertices (edge (after_split m e t) p)) ≡ true)
          from = joined-from v (λ p. edge_vertices (edge (after_split m e t) p)) (edge_walk (after_split m e t) b) h

          put : (p : ℕ) → member p (edge_walk m b) ≡ true → member v (edge_vertices (edge m p)) ≡ true → member v Before ≡ true
          put p = joined-has v (λ p. edge_vertices (edge m p)) (edge_walk m b) p

          by : (c : Bool) → eqb from.0 m.edges.used ≡ c → (d : Bool) → eqb from.0 e ≡ d → member v Before ≡ true
          by true q d r =
              let last : edge (after_split m e t) from.0 ≡ second_half m (edge m e) = edge_fresh m e t from.0 (omega (arith, eqb-true from.0 m.edges.used q)) in
              let at-end : (eqb v m.vertices.used || member v (listed (edge m e).end)) ≡ true = sym (second-half-ends m (edge m e) v) ∙ ap (λ i. member v (edge_vertices i)) (sym last) ∙ from.2 in
              let there : member v (listed (edge m e).end) ≡ true = rw (ne_eqb v m.vertices.used old) at at-end in
              put e has-it (whole-ends (edge m e) v ∙ rw there (or-true (member v (listed (edge m e).start))))
          by false q true r =
              let same : from.0 ≡ e = eqb-true from.0 e r in
              let half : edge (after_split m e t) from.0 ≡ first_half m (edge m e) = ap (edge (after_split m e t)) same ∙ edge-first m e t he in
              let at-start : (member v (listed (edge m e).start) || eqb v m.vertices.used) ≡ true = sym (first-half-ends m (edge m e) v) ∙ ap (λ i. member v (edge_vertices i)) (sym half) ∙ from.2 in
              put e has-it (whole-ends (edge m e) v ∙ rw (or-first (member v (listed (edge m e).start)) (eqb v m.vertices.used) at-start (ne_eqb v m.vertices.used old)))
          by false q false r =
              let there : member from.0 (edge_walk m b) ≡ true = sym (edge-walk-old from.0 (eqb-false from.0 m.edges.used q)) ∙ from.1 in
              put from.0 there
              (ap (λ i. member v (edge_vertices i)) (sym (edge_other m e t from.0 (walked-below from.0 there) (eqb-false from.0 e r))) ∙ from.2)

      -- every vertex stands in the walk as often as before, and the new one once
      pub vertex-walk-counts : (v : ℕ) → count v (vertex_walk (after_split m e t) b) ≡ count v (vertex_walk m b) + bit (eqb v m.vertices.used)
      unfolding Before After
      vertex-walk-counts v = by (eqb v m.vertices.used) refl
        where
          once_after : count v (vertex_walk (after_split m e t) b) ≡ bit (member v (vertex_walk (after_split m e t) b))
          once_after = unfold vertex_walk in count-once v (vertex_walk (after_split m e t) b) (count-firsts _ v)

          once-before : count v (vertex_walk m b) ≡ bit (member v (vertex_walk m b))
          once-before = unfold vertex_walk in count-once v (vertex_walk m b) (count-firsts _ v)

          by : (c : Bool) → eqb v m.vertices.used ≡ c → count v (vertex_walk (after_split m e t) b) ≡ count v (vertex_walk m b) + bit c
          by true q =
              let same : v ≡ m.vertices.used = eqb-true v m.vertices.used q in
              let new : member v After ≡ true = rw same new-vertex-met in
              let absent : count v (vertex_walk m b) ≡ 0 = count-above m.vertices.used v (vertex_walk m b) (vertices-there x m w b hb) (omega arith) in
              let there : member v (vertex_walk (after_split m e t) b) ≡ true = vertex-member (after_split m e t) b v ∙ rw new in
              once_after ∙ rw (there, absent)
          by false q =
              let old : v ≡ m.vertices.used → ⊥ = eqb-false v m.vertices.used q in
              let ends : member v After ≡ member v Before = both_ways (member v After) (member v Before) (was-met v old) (still-met v) in
              let same : member v (vertex_walk (after_split m e t) b) ≡ member v (vertex_walk m b) = vertex-member (after_split m e t) b v ∙ rw (ends, acorns-same) (sym (vertex-member m b v)) in
              once_after ∙ ap bit same ∙ sym once-before ∙ omega arith

      pub vertex-walk-longer : length (vertex_walk (after_split m e t) b) ≡ length (vertex_walk m b) + 1
      vertex-walk-longer = length_more m.vertices.used (vertex_walk m b) (vertex_walk (after_split m e t) b) vertex-walk-counts

-- ---- as the statements say it

pub walked : (x : Limits) (m : Model) → WellFormed x m → (b : ℕ) → b < m.bodies.used → Walked m b
walked x m w b hb =
    record {
      faces = rw (faces-given x m w b hb);
      edges = rw (edges-given x m w b hb);
      vertices = rw (vertices-given x m w b hb);
    }

module _ (x : Limits) (m : Model) (w : WellFormed x m) (e : ℕ) (t : Float) (h : split_refusal x m e t ≡ 0) (b : ℕ) (hb : b < m.bodies.used) where
  he : e < m.edges.used
  he = (accepted x m e t h).0

  pub one_more : has_edge m b e ≡ true → OneMore m (model_after x m e t) b m.edges.used m.vertices.used
  one_more q =
      let has-it : member e (edge_walk m b) ≡ true = sym (has-edge x m w b hb e) ∙ q in
      let counts : (v : ℕ) → count v (vertex_walk (after_split m e t) b) ≡ count v (vertex_walk m b) + bit (eqb v m.vertices.used) = vertex-walk-counts x m w e t he b hb has-it in
      let absent : count m.vertices.used (vertex_walk m b) ≡ 0 = count-above m.vertices.used m.vertices.used (vertex_walk m b) (vertices-there x m w b hb) (omega arith) in
      rw (went_to x m e t 0 h)
      (record {
        faces = face-walk-kept x m w e t he b hb;
        new-edge = new-edge-walked x m w e t he b hb has-it;
        old-edges = (edge-walk-after x m w e t he b hb).back;
        edges = edge-walk-longer x m w e t he b hb has-it;
        new-vertex = counts m.vertices.used ∙ rw (absent, eq-eqb m.vertices.used m.vertices.used refl);
        old-vertices = λ v d. counts v ∙ rw (ne_eqb v m.vertices.used d) (omega arith);
        vertices = vertex-walk-longer x m w e t he b hb has-it;
      })

  pub same_walks : has_edge m b e ≡ false → SameWalks m (model_after x m e t) b
  same_walks q =
      let no_edge : member e (edge_walk m b) ≡ false = sym (has-edge x m w b hb e) ∙ q in
      rw (went_to x m e t 0 h)
      (record {
        faces = face-walk-kept x m w e t he b hb;
        edges = edge-walk-same x m w e t he b hb no_edge;
        vertices = vertex-walk-same x m w e t he b hb no_edge;
      })

pub new-wire-after : (x : Limits) (m : Model) (e : ℕ) (t : Float) (r : EdgeSplit) → WellFormed x m → split_line_edge x m e t ≡ given r → (s : ℕ) → s < m.shells.used
    → (k l : List ℕ) → (shell m s).wire_edges ≡ k ++ (e ∷ l) → (shell (model_after x m e t) s).wire_edges ≡ k ++ (e ∷ r.new_edge ∷ l)
new-wire-after x m e t r w a s hs k l q =
    let h : split_refusal x m e t ≡ 0 = answered-given (split_refusal x m e t) _ _ a in
    subst (λ i. (shell (model_after x m e t) s).wire_edges ≡ k ++ (e ∷ i.new_edge ∷ l)) (given-value (split_refusal x m e t) (record { original_edge = e; new_edge = m.edges.used; vertex = m.vertices.used }) r a)
    (rw (went_to x m e t 0 h) (wire-after x m w e t (accepted x m e t h).0 s hs k l q))

pub split-leaves-others : (x : Limits) (m : Model) (e : ℕ) (t : Float) (s : EdgeSplit) → WellFormed x m → split_line_edge x m e t ≡ given s → (b : ℕ) → b < m.bodies.used
    → has_edge m b e ≡ false → SameWalks m (model_after x m e t) b
split-leaves-others x m e t s w a b hb q = same_walks x m w e t (answered-given (split_refusal x m e t) _ _ a) b hb q
