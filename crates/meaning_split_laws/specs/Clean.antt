-- What well-formedness says of the topological report. Assumes nothing.
-- What can be left is layout (1, 2), a face without a surface (9) and manifold edges (19, 20): `regions-clean`.
use Rattle.std.specs.Prelude.{ℕ, ◌≤◌, ◌<◌, ◌≡◌, refl, Bool, false, cond, not, ◌&&◌, length}
use Rattle.std.proofs.Common.{arith}
use Rattle.std.proofs.Math.Decide.{dec_lt}
use Rattle.std.proofs.Math.Bool.{true}
use mathlib.Core.List.{List, [], ◌∷◌, ◌++◌, append-nil}
use Rattle.std.proofs.Math.Option.{Option, none, some}
use Rattle.std.proofs.Math.Dec.{eqb, ltb}
use borrow.Author.Tests.{ltb-true, eqb-true, lt-ltb, eq-eqb, not-true}
use Rattle.meaning.specs.Lists.{all, member, count, joined, rotated, listed, is_some}
use Rattle.meaning.specs.Model.{Model, body, region, shell, face, loop, fin, edge, Limits}
use Rattle.meaning.specs.Walks.{readable_fin}
use Rattle.meaning.specs.Faults.{Finding, fault, only_if, fin_findings, meets_next, opens, loop_findings, checked_from, face_findings, shell_findings, region_findings}
use Rattle.meaning.specs.Formed.{below_maybe, Listed, region_names, shell_names, loop_names, fin_names, face_names, closed, loop_closes, WellFormed, topological}
use Rattle.meaning_list_laws.specs.Tests.{and_both, bit-true}
use Rattle.meaning_list_laws.specs.Lists.{count-above, member-counted, all-counted, joined-nothing, joined_same}

-- whatever a parent lists exists and names it
pub owned : (n k : ℕ) (list : ℕ → List ℕ) (names : ℕ → ℕ → Bool) → Listed n k list names → (p : ℕ) → p < n → all (λ c. ltb c k) (list p) ≡ true
    → all (λ c. ltb c k && names c p) (list p) ≡ true
owned n k list names s p hp a = all-counted (λ c. ltb c k && names c p) (list p) each
  where
    each : (c : ℕ) → 1 ≤ count c (list p) → (ltb c k && names c p) ≡ true
    each c h =
        elim (dec_lt c k) [
          | yes was ↦ rw (lt-ltb c k was) (bit-true (names c p) (rw (s.once p c hp was) at h))
          | no new ↦ absurd (omega (arith, count-above k c (list p) a (omega arith)))
        ]

-- what is left of a face: reason 9
unfoldable pub surfaceless : Model → ℕ → ℕ → List Finding
surfaceless m s f = cond (checked_from (face m f).front s) (only_if (not (is_some (face m f).surface)) (fault 9 f)) []

-- vertices that exist give no finding
ends-exist : (n e : ℕ) (a b : Option ℕ) → below_maybe n a ≡ true → below_maybe n b ≡ true → joined (λ v. only_if (not (ltb v n)) (fault 17 e)) (listed a ++ listed b) ≡ []
unfolding joined
ends-exist n e none none h k = refl
ends-exist n e none (some v) h k = rw k
ends-exist n e (some u) none h k = rw h
ends-exist n e (some u) (some v) h k = rw (h, k)

-- fins that meet give no finding
closed-opens : (m : Model) (k l : List ℕ) → closed m k l ≡ true → opens m k l ≡ []
unfolding closed opens
closed-opens m [] l h = refl
closed-opens m (i ∷ k) [] h = refl
closed-opens m (i ∷ k) (j ∷ l) h =
    let both : (meets_next m i j ≡ true) × (closed m k l ≡ true) = and_both (meets_next m i j) (closed m k l) h in
    rw both.0 (go (readable_fin m i && readable_fin m j) (closed-opens m k l both.1))
  where
    go : (b : Bool) → opens m k l ≡ [] → only_if (b && false) (fault 18 i) ++ opens m k l ≡ []
    go true q = q
    go false q = q

module _ (x : Limits) (m : Model) (w : WellFormed x m) where
  -- what a loop lists exists, and names it
  pub own : (l : ℕ) → l < m.loops.used → all (λ f. ltb f m.fins.used && eqb (fin m f).owner l) (loop m l).fins ≡ true
  own l hl = owned m.loops.used m.fins.used (λ l. (loop m l).fins) (fin_names m) w.fins l hl (w.ids.loop-fins l hl)

  pub fin-clean : (l i : ℕ) → ltb i m.fins.used && eqb (fin m i).owner l ≡ true → fin_findings m l i ≡ []
  unfolding fin_findings
  fin-clean l i h =
      let both : (ltb i m.fins.used ≡ true) × (eqb (fin m i).owner l ≡ true) = and_both (ltb i m.fins.used) (eqb (fin m i).owner l) h in
      let hi : i < m.fins.used = ltb-true i m.fins.used both.0 in
      let he : (fin m i).edge < m.edges.used = w.ids.fin-edge i hi in
      let mem : member i (edge m (fin m i).edge).fins ≡ true = member-counted i (edge m (fin m i).edge).fins (rw (w.edges.once (fin m i).edge i he hi, eq-eqb (fin m i).edge (fin m i).edge refl) (omega arith)) in
      rw (both.0, both.1, lt-ltb (fin m i).edge m.edges.used he, mem)
      (ends-exist m.vertices.used (fin m i).edge (edge m (fin m i).edge).start (edge m (fin m i).edge).end (w.ids.edge-start (fin m i).edge he) (w.ids.edge-end (fin m i).edge he))

  -- a loop of the face that it names
  pub loop-clean : (f l : ℕ) → l < m.loops.used → (loop m l).face ≡ f → loop_findings m topological f l ≡ []
  unfolding loop_findings loop_closes
  loop-clean f l hl q =
      let both : (not (eqb (length (loop m l).fins) 0) ≡ true) × (closed m (loop m l).fins (rotated (loop m l).fins) ≡ true) =
      and_both (not (eqb (length (loop m l).fins) 0)) (closed m (loop m l).fins (rotated (loop m l).fins)) (w.closes l hl) in
      rw (
        lt-ltb l m.loops.used hl,
        eq-eqb (loop m l).face f q,
        not-true (eqb (length (loop m l).fins) 0) both.0,
        joined-nothing (fin_findings m l) (λ i. ltb i m.fins.used && eqb (fin m i).owner l) (loop m l).fins (fin-clean l) (own l hl),
        closed-opens m (loop m l).fins (rotated (loop m l).fins) both.1,
      )

  -- a face, from a shell that is its front or back
  pub face-clean : (s f : ℕ) → ltb f m.faces.used && face_names m f s ≡ true → face_findings m topological s f ≡ surfaceless m s f
  unfolding face_findings surfaceless
  face-clean s f h =
      let both : (ltb f m.faces.used ≡ true) × (face_names m f s ≡ true) = and_both (ltb f m.faces.used) (face_names m f s) h in
      let hf : f < m.faces.used = ltb-true f m.faces.used both.0 in
      rw (
        both.0,
        both.1,
        joined-nothing (loop_findings m topological f) (λ l. ltb l m.loops.used && loop_names m l f) (face m f).loops
            (λ l q. let two : (ltb l m.loops.used ≡ true) × (loop_names m l f ≡ true) = and_both (ltb l m.loops.used) (loop_names m l f) q in loop-clean f l (ltb-true l m.loops.used two.0) (eqb-true (loop m l).face f two.1))
            (owned m.faces.used m.loops.used (λ f. (face m f).loops) (loop_names m) w.loops f hf (w.ids.face-loops f hf)),
        append-nil (only_if (not (is_some (face m f).surface)) (fault 9 f)),
      )

  pub shell-clean : (r s : ℕ) → ltb s m.shells.used && shell_names m s r ≡ true → shell_findings m topological r s ≡ joined (surfaceless m s) (shell m s).faces
  unfolding shell_findings
  shell-clean r s h =
      let both : (ltb s m.shells.used ≡ true) × (shell_names m s r ≡ true) = and_both (ltb s m.shells.used) (shell_names m s r) h in
      let hs : s < m.shells.used = ltb-true s m.shells.used both.0 in
      rw (both.0, both.1)
      (joined_same (face_findings m topological s) (surfaceless m s) (λ f. ltb f m.faces.used && face_names m f s) (shell m s).faces (face-clean s)
      (owned m.shells.used m.faces.used (λ s. (shell m s).faces) (face_names m) w.faces s hs (w.ids.shell-faces s hs)))

  pub region-clean : (b r : ℕ) → ltb r m.regions.used && region_names m r b ≡ true
      → region_findings m topological b r ≡ joined (λ s. joined (surfaceless m s) (shell m s).faces) (region m r).shells
  unfolding region_findings
  region-clean b r h =
      let both : (ltb r m.regions.used ≡ true) × (region_names m r b ≡ true) = and_both (ltb r m.regions.used) (region_names m r b) h in
      let hr : r < m.regions.used = ltb-true r m.regions.used both.0 in
      rw (both.0, both.1)
      (joined_same (shell_findings m topological r) (λ s. joined (surfaceless m s) (shell m s).faces) (λ s. ltb s m.shells.used && shell_names m s r) (region m r).shells (shell-clean r)
      (owned m.regions.used m.shells.used (λ r. (region m r).shells) (shell_names m) w.shells r hr (w.ids.region-shells r hr)))

  -- all that regions, shells, faces and loops can give, in a well-formed model: faces without a surface
  pub regions-clean : (b : ℕ) → b < m.bodies.used
      → joined (region_findings m topological b) (body m b).regions ≡ joined (λ r. joined (λ s. joined (surfaceless m s) (shell m s).faces) (region m r).shells) (body m b).regions
  regions-clean b hb =
      joined_same (region_findings m topological b) (λ r. joined (λ s. joined (surfaceless m s) (shell m s).faces) (region m r).shells) (λ r. ltb r m.regions.used && region_names m r b) (body m b).regions (region-clean b)
      (owned m.bodies.used m.regions.used (λ b. (body m b).regions) (region_names m) w.regions b hb (w.ids.body-regions b hb))
