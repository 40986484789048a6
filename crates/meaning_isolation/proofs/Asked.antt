-- Models which differ in the other's records only are alike from every own body on. This rests on those of specs/Asked.antt. Assumes nothing.
use Rattle.std.specs.Prelude.{ℕ, ◌≡◌}
use Rattle.std.proofs.Common.{sym, ap, ◌∙◌}
use Rattle.std.proofs.Math.Path.{ap₂}
use Rattle.std.proofs.Math.Bool.{true}
use mathlib.Core.List.{[], List, ◌∷◌, ◌++◌}
use borrow.Author.Tests.{eqb-true}
use Rattle.meaning.specs.Lists.{member, listed}
use Rattle.meaning.specs.Model.{Model, Table, has}
use Rattle.meaning.specs.Walks.{edge_vertices}
use Rattle.meaning_list_laws.specs.Tests.{and_both}
use Rattle.meaning_list_laws.specs.Lists.{member-one}
use Rattle.meaning_isolation.specs.Reached.{named, regions_met, shells_met, faces_met, loops_met, fins_met, fins_seen, edges_met, vertices_met, curves_met, surfaces_met, Agree, Alike}
use Rattle.meaning_isolation.specs.Laws.{named-same}
use Rattle.meaning_isolation.specs.Walked.{fin-seen}
use Rattle.meaning_isolation.specs.Offices.{own, OfficeAlike, OnlyTheirs, OthersDiffer}
use Rattle.meaning_isolation.specs.Asked.{agreed}

-- and what their records name is the same
named-alike : {A : Type 0} (t u : Table A) (of : A → List ℕ) (k l : List ℕ) → Agree k t u → k ≡ l → named t of k ≡ named u of l
named-alike t u of k l a e = named-same t u of k a ∙ ap (named u of) e

module _ (m n : Model) (o : ℕ) (d : OthersDiffer m n o) (b : ℕ) (h : own m o b ≡ true) where
  too : own n o b ≡ true
  too = sym (d.own_same b) ∙ h

  -- all that is met of a table
  whole : {A : Type 0} (table : Model → Table A) (met : Model → ℕ → List ℕ) → OnlyTheirs table met m n o → met m b ≡ met n b → Agree (met m b) (table m) (table n)
  whole table met t e = agreed table met m n o b t h too (met m b) (λ i a. a) (λ i a. sym (ap (member i) e) ∙ a)

  bodies-agree : Agree (b ∷ []) m.bodies n.bodies
  bodies-agree =
      record {
        there = λ i a. rw (is-it i a) ((and_both (has m.bodies b) _ h).0 ∙ sym (and_both (has n.bodies b) _ too).0);
        same = λ i a t. rw (is-it i a) (d.bodies b h);
      }
    where
      is-it : (i : ℕ) → member i (b ∷ []) ≡ true → i ≡ b
      is-it i a = eqb-true i b (sym (member-one i b) ∙ a)

  regions-met : regions_met m b ≡ regions_met n b
  unfolding regions_met
  regions-met = named-same m.bodies n.bodies (λ r. r.regions) (b ∷ []) bodies-agree

  regions-agree : Agree (regions_met m b) m.regions n.regions
  regions-agree = whole (λ w. w.regions) regions_met d.regions regions-met

  shells-met : shells_met m b ≡ shells_met n b
  unfolding shells_met
  shells-met = named-alike m.regions n.regions (λ r. r.shells) (regions_met m b) (regions_met n b) regions-agree regions-met

  shells-agree : Agree (shells_met m b) m.shells n.shells
  shells-agree = whole (λ w. w.shells) shells_met d.shells shells-met

  faces-met : faces_met m b ≡ faces_met n b
  unfolding faces_met
  faces-met = named-alike m.shells n.shells (λ s. s.faces) (shells_met m b) (shells_met n b) shells-agree shells-met

  faces-agree : Agree (faces_met m b) m.faces n.faces
  faces-agree = whole (λ w. w.faces) faces_met d.faces faces-met

  loops-met : loops_met m b ≡ loops_met n b
  unfolding loops_met
  loops-met = named-alike m.faces n.faces (λ f. f.loops) (faces_met m b) (faces_met n b) faces-agree faces-met

  loops-agree : Agree (loops_met m b) m.loops n.loops
  loops-agree = whole (λ w. w.loops) loops_met d.loops loops-met

  fins-met : fins_met m b ≡ fins_met n b
  unfolding fins_met
  fins-met = named-alike m.loops n.loops (λ l. l.fins) (loops_met m b) (loops_met n b) loops-agree loops-met

  -- the fins of loops first: the edges that they name are what shows which fins are seen
  fins-agree : Agree (fins_met m b) m.fins n.fins
  fins-agree =
      agreed (λ w. w.fins) fins_seen m n o b d.fins h too (fins_met m b)
      (λ i a. fin-seen m b i a)
      (λ i a. fin-seen n b i (sym (ap (member i) fins-met) ∙ a))

  edges-met : edges_met m b ≡ edges_met n b
  unfolding edges_met
  edges-met =
      ap₂ ◌++◌ (named-alike m.fins n.fins (λ i. i.edge ∷ []) (fins_met m b) (fins_met n b) fins-agree fins-met)
      (named-alike m.shells n.shells (λ s. s.wire_edges) (shells_met m b) (shells_met n b) shells-agree shells-met)

  edges-agree : Agree (edges_met m b) m.edges n.edges
  edges-agree = whole (λ w. w.edges) edges_met d.edges edges-met

  seen-met : fins_seen m b ≡ fins_seen n b
  unfolding fins_seen
  seen-met = ap₂ ◌++◌ fins-met (named-alike m.edges n.edges (λ e. e.fins) (edges_met m b) (edges_met n b) edges-agree edges-met)

  vertices-met : vertices_met m b ≡ vertices_met n b
  unfolding vertices_met
  vertices-met =
      ap₂ ◌++◌ (named-alike m.edges n.edges edge_vertices (edges_met m b) (edges_met n b) edges-agree edges-met)
      (named-alike m.shells n.shells (λ s. s.acorn_vertices) (shells_met m b) (shells_met n b) shells-agree shells-met)

  curves-met : curves_met m b ≡ curves_met n b
  unfolding curves_met
  curves-met = named-alike m.edges n.edges (λ e. listed e.curve) (edges_met m b) (edges_met n b) edges-agree edges-met

  surfaces-met : surfaces_met m b ≡ surfaces_met n b
  unfolding surfaces_met
  surfaces-met = named-alike m.faces n.faces (λ f. listed f.surface) (faces_met m b) (faces_met n b) faces-agree faces-met

  body_alike : Alike m n b
  body_alike =
      record {
        version = d.version;
        precision = d.precision;
        bodies = bodies-agree;
        regions = regions-agree;
        shells = shells-agree;
        faces = faces-agree;
        loops = loops-agree;
        fins = whole (λ w. w.fins) fins_seen d.fins seen-met;
        edges = edges-agree;
        vertices = whole (λ w. w.vertices) vertices_met d.vertices vertices-met;
        curves = whole (λ w. w.curves) curves_met d.curves curves-met;
        surfaces = whole (λ w. w.surfaces) surfaces_met d.surfaces surfaces-met;
      }

pub others-alike : (m n : Model) (o : ℕ) → OthersDiffer m n o → OfficeAlike m n o
others-alike m n o d = record { own_same = d.own_same; each = body_alike m n o d }
