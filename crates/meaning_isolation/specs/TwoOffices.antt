-- That what is asked of two models can be met where both offices have bodies: two blades, one of each office, and the same with the other's records changed. Assumes nothing.
use Rattle.std.specs.Prelude.{[], ℕ, ◌≡◌, refl, Bool, true, false, cond, not, ◌&&◌, List, ◌∷◌, map, eqb}
use Rattle.std.proofs.Common.{sym, ap, ◌∙◌, eqb-true, ltb-true}
use Rattle.std.proofs.lemmas.Bool.{false≢true}
use Rattle.std.proofs.Math.Option.{none, some}
use Rattle.geom_lines_planes.specs.declared.tolerance.Version.TheVariants.{First}
use Rattle.meaning.specs.Lists.{all_below}
use Rattle.meaning.specs.Model.{sheet, solid, office-0, office-1, positive, negative, Face, Model, Table, has, changed}
use Rattle.meaning.specs.Refuse.{Answer, refused, given}
use Rattle.meaning.specs.Walks.{body_edges}
use Rattle.meaning.specs.Edits.{edited}
use Rattle.meaning.specs.Offices.{office_number, body_for}
use Rattle.meaning.specs.Stone.{milli, line, plane, right, up, table_of, vertex_at, an_edge, a_fin, a_loop, a_shell, a_region, corner}
use Rattle.meaning.specs.Blade.{with_body, with_region, with_vertex}
use Rattle.meaning.specs.Computing.{computing}
use Rattle.meaning_list_laws.specs.Tests.{all_below-at}
use Rattle.meaning_isolation.specs.Reached.{named, regions_met, shells_met, faces_met, loops_met, fins_met, fins_seen, edges_met, vertices_met, curves_met, surfaces_met}
use Rattle.meaning_isolation.specs.Offices.{own, ours, theirs, OnlyTheirs, OthersDiffer}

-- ---- the two models

-- a sheet of one face, whose loop runs along an edge and back
abbrev sheet_face : ℕ → Face
sheet_face i = record { front = some i; back = none; loops = i ∷ []; surface = some i; sense = positive }

-- body 0 is office 0's, and body 1 is office 1's
abbrev pub blades : Model
blades =
    record {
      version = First;
      precision = milli;
      bodies = table_of (record { kind = sheet; office = office-0; regions = 0 ∷ [] }) (record { kind = sheet; office = office-1; regions = 1 ∷ [] } ∷ []);
      regions = table_of (a_region 0 false (0 ∷ [])) (a_region 1 false (1 ∷ []) ∷ []);
      shells = table_of (a_shell 0 (0 ∷ [])) (a_shell 1 (1 ∷ []) ∷ []);
      faces = table_of (sheet_face 0) (sheet_face 1 ∷ []);
      loops = table_of (a_loop 0 (0 ∷ 1 ∷ [])) (a_loop 1 (2 ∷ 3 ∷ []) ∷ []);
      fins = table_of (a_fin 0 0 positive) (a_fin 0 0 negative ∷ a_fin 1 1 positive ∷ a_fin 1 1 negative ∷ []);
      edges = table_of (an_edge 0 0 1 (0 ∷ 1 ∷ [])) (an_edge 1 2 3 (2 ∷ 3 ∷ []) ∷ []);
      vertices = table_of (vertex_at (corner 0)) (vertex_at (corner 1) ∷ vertex_at (corner 2) ∷ vertex_at (corner 3) ∷ []);
      curves = table_of (line (corner 0) right) (line (corner 2) right ∷ []);
      surfaces = table_of (plane (corner 0) up) (plane (corner 0) up ∷ []);
    }

-- office 1's body a solid, its region with a shell that is missing, its vertex 2 elsewhere
abbrev pub other_blades : Model
other_blades =
    with_body 1 (record { kind = solid; office = office-1; regions = 1 ∷ [] })
    (with_region 1 (a_region 1 false (1 ∷ 7 ∷ [])) (with_vertex 2 (vertex_at (corner 5)) blades))

-- what each office is told of the bodies 0, 1 and 2
abbrev walks_of : Model → ℕ → List (Answer (List ℕ))
walks_of m o = map (λ b. body_edges m (body_for m o b)) (0 ∷ 1 ∷ 2 ∷ [])

told-of-blades : map (walks_of blades) (0 ∷ 1 ∷ []) ≡ (given (0 ∷ []) ∷ refused 2 ∷ refused 2 ∷ []) ∷ (refused 2 ∷ given (1 ∷ []) ∷ refused 2 ∷ []) ∷ []
unfolding computing
told-of-blades = refl

told-of-others : map (walks_of other_blades) (0 ∷ 1 ∷ []) ≡ (given (0 ∷ []) ∷ refused 2 ∷ refused 2 ∷ []) ∷ (refused 2 ∷ refused 2 ∷ refused 2 ∷ []) ∷ []
unfolding computing
told-of-others = refl

-- ---- they differ in office 1's records only

-- no record below the used count is reached from both
abbrev parted : {A : Type 0} → (Model → Table A) → (Model → ℕ → List ℕ) → Model → Bool
parted table met m = all_below (λ i. not (ours met m 0 i && theirs met m 0 i)) (table m).used

parted-apart : {A : Type 0} (table : Model → Table A) (met : Model → ℕ → List ℕ) (m : Model) → parted table met m ≡ true
    → (i : ℕ) → has (table m) i ≡ true → ours met m 0 i ≡ true → theirs met m 0 i ≡ false
parted-apart table met m p i h g = off (theirs met m 0 i) (rw g at (all_below-at (λ i. not (ours met m 0 i && theirs met m 0 i)) (table m).used i p (ltb-true i (table m).used h)))
  where
    off : (t : Bool) → not t ≡ true → t ≡ false
    off true q = absurd (false≢true q)
    off false q = refl

-- a record that is the other's is another
changed-same : {A : Type 0} (t : Table A) (k : ℕ) (r : A) (mine : ℕ → Bool) → mine k ≡ true → (i : ℕ) → mine i ≡ false → t.slot i ≡ (edited t k (λ old. r)).slot i
unfolding changed
changed-same t k r mine h i g = by (eqb i k) (eqb-true i k)
  where
    by : (c : Bool) → (c ≡ true → i ≡ k) → t.slot i ≡ cond c r (t.slot i)
    by true e = absurd (false≢true (sym g ∙ ap mine (e refl) ∙ h))
    by false e = refl

-- whatever the new record has of the old one stays
changed-part : {A B : Type 0} (of : A → B) (t : Table A) (k : ℕ) (r : A) → of (t.slot k) ≡ of r → (i : ℕ) → of (t.slot i) ≡ of ((edited t k (λ old. r)).slot i)
unfolding changed
changed-part of t k r h i = by (eqb i k) (eqb-true i k)
  where
    by : (c : Bool) → (c ≡ true → i ≡ k) → of (t.slot i) ≡ of (cond c r (t.slot i))
    by true e = ap (λ j. of (t.slot j)) (e refl) ∙ h
    by false e = refl

-- a table that is the same in both
unchanged : {A : Type 0} (table : Model → Table A) (met : Model → ℕ → List ℕ) → table blades ≡ table other_blades → parted table met blades ≡ true → parted table met other_blades ≡ true
    → OnlyTheirs table met blades other_blades 0
unchanged table met e p q =
    record {
      apart = parted-apart table met blades p;
      apart-too = parted-apart table met other_blades q;
      there = λ i h. ap (λ (t : Table _). has t i) e;
      same = λ i h g a b. ap (λ (t : Table _). t.slot i) e;
    }

pub blades-differ : OthersDiffer blades other_blades 0
unfolding computing named regions_met shells_met faces_met loops_met fins_met edges_met vertices_met curves_met surfaces_met fins_seen ours theirs
blades-differ =
    record {
      version = refl;
      precision = refl;
      own_same = λ b. ap (λ k. has blades.bodies b && eqb k 0) (changed-part (λ r. office_number r.office) blades.bodies 1 (record { kind = solid; office = office-1; regions = 1 ∷ [] }) refl b);
      bodies = λ b h. changed-same blades.bodies 1 (record { kind = solid; office = office-1; regions = 1 ∷ [] }) (λ c. not (own blades 0 c)) refl b (ap not h);
      regions = record {
        apart = parted-apart (λ w. w.regions) regions_met blades refl;
        apart-too = parted-apart (λ w. w.regions) regions_met other_blades refl;
        there = λ i h. refl;
        same = λ i h g p q. changed-same blades.regions 1 (a_region 1 false (1 ∷ 7 ∷ [])) (theirs regions_met blades 0) refl i p;
      };
      shells = unchanged (λ w. w.shells) shells_met refl refl refl;
      faces = unchanged (λ w. w.faces) faces_met refl refl refl;
      loops = unchanged (λ w. w.loops) loops_met refl refl refl;
      fins = unchanged (λ w. w.fins) fins_seen refl refl refl;
      edges = unchanged (λ w. w.edges) edges_met refl refl refl;
      vertices = record {
        apart = parted-apart (λ w. w.vertices) vertices_met blades refl;
        apart-too = parted-apart (λ w. w.vertices) vertices_met other_blades refl;
        there = λ i h. refl;
        same = λ i h g p q. changed-same blades.vertices 2 (vertex_at (corner 5)) (theirs vertices_met blades 0) refl i p;
      };
      curves = unchanged (λ w. w.curves) curves_met refl refl refl;
      surfaces = unchanged (λ w. w.surfaces) surfaces_met refl refl refl;
    }
