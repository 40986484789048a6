-- What is reached, computed; and that models are alike from a body on can be met: by a model and itself, and by one in which another body's record, or a vertex that is not met, is another. Assumes nothing.
use Rattle.std.specs.Prelude.{ℕ, ◌≡◌, Bool, List, [], ◌∷◌, map, eqb}
use Rattle.std.proofs.Math.Path.{refl, ap}
use Rattle.std.proofs.Common.{sym, ◌∙◌, eqb-true}
use Rattle.std.proofs.Math.Bool.{true, false, cond}
use Rattle.std.proofs.lemmas.Bool.{false≢true}
use Rattle.std.proofs.Math.Option.{some}
use Rattle.meaning.specs.Lists.{member}
use Rattle.meaning.specs.Model.{Model, Table, Body, Vertex, changed}
use Rattle.meaning.specs.Edits.{edited}
use Rattle.meaning.specs.Blade.{blade, with_body, with_vertex, face_is, loops_are, shell_is}
use Rattle.meaning.specs.Computing.{computing}
use Rattle.meaning_list_laws.specs.Lists.{member-one}
use Rattle.meaning_isolation.specs.Reached.{named, regions_met, shells_met, faces_met, loops_met, fins_met, fins_seen, edges_met, vertices_met, curves_met, surfaces_met, Agree, Alike}

-- ---- what is reached

abbrev reached : Model → List (List ℕ)
reached m =
    regions_met m 0 ∷ shells_met m 0 ∷ faces_met m 0 ∷ loops_met m 0 ∷ fins_met m 0 ∷ edges_met m 0 ∷ vertices_met m 0 ∷ curves_met m 0 ∷ surfaces_met m 0 ∷ fins_seen m 0 ∷ []

-- the blade; with a wire edge that is missing and an acorn vertex; a face that names another shell than the one that lists it, which is not followed; a loop that is missing
reached-computed : map reached (blade ∷ shell_is 0 (0 ∷ []) (7 ∷ []) (8 ∷ []) blade ∷ face_is (some 9) (some 9) (0 ∷ []) (some 0) blade ∷ loops_are (6 ∷ []) blade ∷ [])
    ≡ ((0 ∷ []) ∷ (0 ∷ []) ∷ (0 ∷ []) ∷ (0 ∷ []) ∷ (0 ∷ 1 ∷ []) ∷ (0 ∷ 0 ∷ []) ∷ (0 ∷ 1 ∷ 0 ∷ 1 ∷ []) ∷ (0 ∷ 0 ∷ []) ∷ (0 ∷ []) ∷ (0 ∷ 1 ∷ 0 ∷ 1 ∷ 0 ∷ 1 ∷ []) ∷ [])
    ∷ ((0 ∷ []) ∷ (0 ∷ []) ∷ (0 ∷ []) ∷ (0 ∷ []) ∷ (0 ∷ 1 ∷ []) ∷ (0 ∷ 0 ∷ 7 ∷ []) ∷ (0 ∷ 1 ∷ 0 ∷ 1 ∷ 8 ∷ []) ∷ (0 ∷ 0 ∷ []) ∷ (0 ∷ []) ∷ (0 ∷ 1 ∷ 0 ∷ 1 ∷ 0 ∷ 1 ∷ []) ∷ [])
    ∷ ((0 ∷ []) ∷ (0 ∷ []) ∷ (0 ∷ []) ∷ (0 ∷ []) ∷ (0 ∷ 1 ∷ []) ∷ (0 ∷ 0 ∷ []) ∷ (0 ∷ 1 ∷ 0 ∷ 1 ∷ []) ∷ (0 ∷ 0 ∷ []) ∷ (0 ∷ []) ∷ (0 ∷ 1 ∷ 0 ∷ 1 ∷ 0 ∷ 1 ∷ []) ∷ [])
    ∷ ((0 ∷ []) ∷ (0 ∷ []) ∷ (0 ∷ []) ∷ (6 ∷ []) ∷ [] ∷ [] ∷ [] ∷ [] ∷ (0 ∷ []) ∷ [] ∷ [])
    ∷ []
unfolding computing named regions_met shells_met faces_met loops_met fins_met edges_met vertices_met curves_met surfaces_met fins_seen
reached-computed = refl

-- ---- models that are alike

module _ {A : Type 0} (l : List ℕ) (t : Table A) where
  agree-itself : Agree l t t
  agree-itself = record { there = λ i h. refl; same = λ i h g. refl }

  -- a record that is not among them is another
  agree-edited : (k : ℕ) (r : A) → member k l ≡ false → Agree l t (edited t k (λ old. r))
  unfolding changed
  agree-edited k r out = record { there = λ i h. refl; same = λ i h g. kept i h (eqb i k) (eqb-true i k) }
    where
      kept : (i : ℕ) → member i l ≡ true → (c : Bool) → (c ≡ true → i ≡ k) → t.slot i ≡ cond c r (t.slot i)
      kept i h true e = absurd (false≢true (sym out ∙ ap (λ j. member j l) (sym (e refl)) ∙ h))
      kept i h false e = refl

module _ (m : Model) (b : ℕ) where
  pub alike-itself : Alike m m b
  alike-itself =
      record {
        version = refl;
        precision = refl;
        bodies = agree-itself (b ∷ []) m.bodies;
        regions = agree-itself (regions_met m b) m.regions;
        shells = agree-itself (shells_met m b) m.shells;
        faces = agree-itself (faces_met m b) m.faces;
        loops = agree-itself (loops_met m b) m.loops;
        fins = agree-itself (fins_seen m b) m.fins;
        edges = agree-itself (edges_met m b) m.edges;
        vertices = agree-itself (vertices_met m b) m.vertices;
        curves = agree-itself (curves_met m b) m.curves;
        surfaces = agree-itself (surfaces_met m b) m.surfaces;
      }

  -- another body's record
  pub body-apart : (c : ℕ) (r : Body) → eqb c b ≡ false → Alike m (with_body c r m) b
  body-apart c r e =
      record {
        version = refl;
        precision = refl;
        bodies = agree-edited (b ∷ []) m.bodies c r (member-one c b ∙ e);
        regions = agree-itself (regions_met m b) m.regions;
        shells = agree-itself (shells_met m b) m.shells;
        faces = agree-itself (faces_met m b) m.faces;
        loops = agree-itself (loops_met m b) m.loops;
        fins = agree-itself (fins_seen m b) m.fins;
        edges = agree-itself (edges_met m b) m.edges;
        vertices = agree-itself (vertices_met m b) m.vertices;
        curves = agree-itself (curves_met m b) m.curves;
        surfaces = agree-itself (surfaces_met m b) m.surfaces;
      }

  -- a vertex that is not met
  pub vertex-apart : (v : ℕ) (r : Vertex) → member v (vertices_met m b) ≡ false → Alike m (with_vertex v r m) b
  vertex-apart v r e =
      record {
        version = refl;
        precision = refl;
        bodies = agree-itself (b ∷ []) m.bodies;
        regions = agree-itself (regions_met m b) m.regions;
        shells = agree-itself (shells_met m b) m.shells;
        faces = agree-itself (faces_met m b) m.faces;
        loops = agree-itself (loops_met m b) m.loops;
        fins = agree-itself (fins_seen m b) m.fins;
        edges = agree-itself (edges_met m b) m.edges;
        vertices = agree-edited (vertices_met m b) m.vertices v r e;
        curves = agree-itself (curves_met m b) m.curves;
        surfaces = agree-itself (surfaces_met m b) m.surfaces;
      }
