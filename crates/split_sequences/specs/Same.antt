-- A model with the same records in use as a well-formed one is well formed: `same-formed`. Nobody reads the other slots, since every stored id names a record. Assumes nothing.
use Rattle.std.specs.Prelude.{ℕ, ◌≤◌, ◌<◌, ◌≡◌, Bool, true, ◌||◌, eqb, length}
use Rattle.std.proofs.Math.Path.{refl}
use Rattle.std.proofs.Common.{sym, ap, ◌∙◌, subst, ltb-true}
use mathlib.Core.List.{List, [], ◌∷◌}
use Rattle.std.proofs.Math.Dec.{ltb}
use Rattle.meaning.specs.Lists.{all, count, rotated, is}
use Rattle.meaning.specs.Model.{Model, Limits, Table, fin, loop}
use Rattle.meaning.specs.Edits.{tolerance_ok}
use Rattle.meaning.specs.Walks.{ends_of}
use Rattle.meaning.specs.Formed.{Readable, below_maybe, StoredIds, Listed, closed, loop_closes, WellFormed}
use Rattle.meaning_list_laws.specs.Tests.{and_both}
use Rattle.meaning_list_laws.specs.Lists.{all_append, all_one}
use Rattle.memory_writes.specs.Change.{SameTable, SameModel}

-- ---- tables

module _ {A : Type 0} {t u : Table A} (s : SameTable t u) where
  in_use : (i : ℕ) → i < t.used → i < u.used
  in_use i h = rw (← s.used) h

  -- what a record in use has
  pub same_in : {C : Type 0} (f : A → C) (i : ℕ) → ltb i u.used ≡ true → f (t.slot i) ≡ f (u.slot i)
  same_in f i h = ap f (s.slots i (rw s.used (ltb-true i u.used h)))

  -- what holds of each record in use
  each : (P : A → Type 0) → ((i : ℕ) → i < u.used → P (u.slot i)) → (i : ℕ) → i < t.used → P (t.slot i)
  each P h i g = subst P (sym (s.slots i g)) (h i (in_use i g))

  module _ {B : Type 0} {b c : Table B} (r : SameTable b c) where
    -- what holds of each, and of the number of records of another table
    beneath : (P : ℕ → A → Type 0) → ((i : ℕ) → i < u.used → P c.used (u.slot i)) → (i : ℕ) → i < t.used → P b.used (t.slot i)
    beneath P h = each (P b.used) (λ i g. subst (λ n. P n (u.slot i)) (sym r.used) (h i g))

    -- who lists whom
    lists-same : (list : A → List ℕ) (names : B → ℕ → Bool) → Listed u.used c.used (λ p. list (u.slot p)) (λ i p. names (c.slot i) p)
        → Listed t.used b.used (λ p. list (t.slot p)) (λ i p. names (b.slot i) p)
    lists-same list names h =
        record { once = λ p i hp hi. rw (s.slots p hp, r.slots i hi) (h.once p i (in_use p hp) (subst (λ n. i < n) r.used hi)) }

  -- the same as what is the same
  table-trans : {v : Table A} → SameTable u v → SameTable t v
  table-trans r = record { used = s.used ∙ r.used; slots = λ i h. s.slots i h ∙ r.slots i (in_use i h) }

-- ---- models

pub same-trans : (m n o : Model) → SameModel m n → SameModel n o → SameModel m o
same-trans m n o s r =
    record {
      version = s.version ∙ r.version;
      precision = s.precision ∙ r.precision;
      bodies = table-trans s.bodies r.bodies;
      regions = table-trans s.regions r.regions;
      shells = table-trans s.shells r.shells;
      faces = table-trans s.faces r.faces;
      loops = table-trans s.loops r.loops;
      fins = table-trans s.fins r.fins;
      edges = table-trans s.edges r.edges;
      vertices = table-trans s.vertices r.vertices;
      curves = table-trans s.curves r.curves;
      surfaces = table-trans s.surfaces r.surfaces;
    }

module _ (x : Limits) (m n : Model) (s : SameModel m n) where
  tables-same : Readable x n → Readable x m
  tables-same r =
      record {
        bodies = rw s.bodies.used r.bodies;
        regions = rw s.regions.used r.regions;
        shells = rw s.shells.used r.shells;
        faces = rw s.faces.used r.faces;
        loops = rw s.loops.used r.loops;
        fins = rw s.fins.used r.fins;
        edges = rw s.edges.used r.edges;
        vertices = rw s.vertices.used r.vertices;
        curves = rw s.curves.used r.curves;
        surfaces = rw s.surfaces.used r.surfaces;
        body-regions = each s.bodies (λ a. length a.regions ≤ x.body_regions) r.body-regions;
        region-shells = each s.regions (λ a. length a.shells ≤ x.region_shells) r.region-shells;
        shell-faces = each s.shells (λ a. length a.faces ≤ x.shell_faces) r.shell-faces;
        shell-wire-edges = each s.shells (λ a. length a.wire_edges ≤ x.shell_wire_edges) r.shell-wire-edges;
        shell-acorn-vertices = each s.shells (λ a. length a.acorn_vertices ≤ x.shell_acorn_vertices) r.shell-acorn-vertices;
        face-loops = each s.faces (λ a. length a.loops ≤ x.face_loops) r.face-loops;
        loop-fins = each s.loops (λ a. length a.fins ≤ x.loop_fins) r.loop-fins;
        edge-fins = each s.edges (λ a. length a.fins ≤ x.edge_fins) r.edge-fins;
        precision = rw s.precision r.precision;
        edge-tolerance = each s.edges (λ a. tolerance_ok a.tolerance ≡ true) r.edge-tolerance;
        vertex-tolerance = each s.vertices (λ a. tolerance_ok a.tolerance ≡ true) r.vertex-tolerance;
      }

  ids-same : StoredIds n → StoredIds m
  ids-same r =
      record {
        body-regions = beneath s.bodies s.regions (λ k a. all (λ j. ltb j k) a.regions ≡ true) r.body-regions;
        region-body = beneath s.regions s.bodies (λ k a. a.body < k) r.region-body;
        region-shells = beneath s.regions s.shells (λ k a. all (λ j. ltb j k) a.shells ≡ true) r.region-shells;
        shell-region = beneath s.shells s.regions (λ k a. a.region < k) r.shell-region;
        shell-faces = beneath s.shells s.faces (λ k a. all (λ j. ltb j k) a.faces ≡ true) r.shell-faces;
        shell-wire-edges = beneath s.shells s.edges (λ k a. all (λ j. ltb j k) a.wire_edges ≡ true) r.shell-wire-edges;
        shell-acorn-vertices = beneath s.shells s.vertices (λ k a. all (λ j. ltb j k) a.acorn_vertices ≡ true) r.shell-acorn-vertices;
        face-front = beneath s.faces s.shells (λ k a. below_maybe k a.front ≡ true) r.face-front;
        face-back = beneath s.faces s.shells (λ k a. below_maybe k a.back ≡ true) r.face-back;
        face-loops = beneath s.faces s.loops (λ k a. all (λ j. ltb j k) a.loops ≡ true) r.face-loops;
        face-surface = beneath s.faces s.surfaces (λ k a. below_maybe k a.surface ≡ true) r.face-surface;
        loop-face = beneath s.loops s.faces (λ k a. a.face < k) r.loop-face;
        loop-fins = beneath s.loops s.fins (λ k a. all (λ j. ltb j k) a.fins ≡ true) r.loop-fins;
        fin-owner = beneath s.fins s.loops (λ k a. a.owner < k) r.fin-owner;
        fin-edge = beneath s.fins s.edges (λ k a. a.edge < k) r.fin-edge;
        edge-fins = beneath s.edges s.fins (λ k a. all (λ j. ltb j k) a.fins ≡ true) r.edge-fins;
        edge-start = beneath s.edges s.vertices (λ k a. below_maybe k a.start ≡ true) r.edge-start;
        edge-end = beneath s.edges s.vertices (λ k a. below_maybe k a.end ≡ true) r.edge-end;
        edge-curve = beneath s.edges s.curves (λ k a. below_maybe k a.curve ≡ true) r.edge-curve;
      }

  module _ (w : WellFormed x n) where
    -- a fin in use leads from and to the same vertices, since its edge is in use
    ends_same : (i : ℕ) → ltb i m.fins.used ≡ true → ends_of m i ≡ ends_of n i
    ends_same i h =
        let there : i < m.fins.used = ltb-true i m.fins.used h in
        let named : (fin n i).edge < m.edges.used = rw s.edges.used (w.ids.fin-edge i (in_use s.fins i there)) in
        rw (s.fins.slots i there, s.edges.slots (fin n i).edge named)

    closed_same : (k l : List ℕ) → all (λ j. ltb j m.fins.used) k ≡ true → all (λ j. ltb j m.fins.used) l ≡ true → closed m k l ≡ closed n k l
    unfolding closed all
    closed_same [] l a b = refl
    closed_same (i ∷ k) [] a b = refl
    closed_same (i ∷ k) (j ∷ l) a b =
        let c = and_both (ltb i m.fins.used) (all (λ j. ltb j m.fins.used) k) a in
        let d = and_both (ltb j m.fins.used) (all (λ j. ltb j m.fins.used) l) b in
        rw (ends_same i c.0, ends_same j d.0, closed_same k l c.1 d.1)

    all-rotated : (p : ℕ → Bool) (l : List ℕ) → all p l ≡ true → all p (rotated l) ≡ true
    unfolding all
    all-rotated p [] a = refl
    all-rotated p (i ∷ l) a = let c = and_both (p i) (all p l) a in all_append p l (i ∷ []) c.1 (all_one p i c.0)

    closes-same : (l : ℕ) → l < m.loops.used → loop_closes m (loop m l).fins ≡ true
    unfolding loop_closes
    closes-same l h =
        let there = (ids-same w.ids).loop-fins l h in
        rw (closed_same (loop m l).fins (rotated (loop m l).fins) there (all-rotated _ (loop m l).fins there))
        (each s.loops (λ a. loop_closes n a.fins ≡ true) w.closes l h)

    pub same-formed : WellFormed x m
    same-formed =
        record {
          tables = tables-same w.tables;
          ids = ids-same w.ids;
          regions = lists-same s.bodies s.regions (λ a. a.regions) (λ a p. eqb a.body p) w.regions;
          shells = lists-same s.regions s.shells (λ a. a.shells) (λ a p. eqb a.region p) w.shells;
          loops = lists-same s.faces s.loops (λ a. a.loops) (λ a p. eqb a.face p) w.loops;
          fins = lists-same s.loops s.fins (λ a. a.fins) (λ a p. eqb a.owner p) w.fins;
          faces = lists-same s.shells s.faces (λ a. a.faces) (λ a p. is a.front p || is a.back p) w.faces;
          edges = lists-same s.edges s.fins (λ a. a.fins) (λ a p. eqb a.edge p) w.edges;
          closes = closes-same;
          wires = λ i e h. each s.shells (λ a. count e a.wire_edges ≤ 1) (λ j g. w.wires j e g) i h;
        }
