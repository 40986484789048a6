-- 01, "Well formed", sentence by sentence: as facts (`WellFormed`), and as a test that computes (`well_formed`). Definitions only.
use Rattle.std.specs.Prelude.{ℕ, ◌≤◌, ◌<◌, ◌≡◌, Bool, true, false, not, ◌&&◌, ◌||◌, List, [], ◌∷◌, eqb, leb, ltb, length}
use Rattle.std.proofs.Math.Option.{Option, none, some}
use Rattle.meaning.specs.Lists.{all, all_below, every, member, count, rotated, is}
use Rattle.meaning.specs.Model.{Model, Limits, Table, has, body, region, shell, face, loop, fin, edge, vertex}
use Rattle.meaning.specs.Edits.{tolerance_ok, precision_ok}
use Rattle.meaning.specs.Walks.{edge_walk, edges_refusal}
use Rattle.meaning.specs.Faults.{CheckOptions, Report, findings, report_of, meets_next}

-- ---- "The tables pass the test of refusal 9": 01, "a used count above capacity, a list above its limit, .. a tolerance or precision that an
-- insert would refuse". (An unknown tag is a matter of the lent tables: here a tag is a constructor.)

abbrev pub table_tests : Limits → Model → List Bool
table_tests x m =
    leb m.bodies.used x.bodies
    ∷ leb m.regions.used x.regions
    ∷ leb m.shells.used x.shells
    ∷ leb m.faces.used x.faces
    ∷ leb m.loops.used x.loops
    ∷ leb m.fins.used x.fins
    ∷ leb m.edges.used x.edges
    ∷ leb m.vertices.used x.vertices
    ∷ leb m.curves.used x.curves
    ∷ leb m.surfaces.used x.surfaces
    ∷ all_below (λ i. leb (length (body m i).regions) x.body_regions) m.bodies.used
    ∷ all_below (λ i. leb (length (region m i).shells) x.region_shells) m.regions.used
    ∷ all_below (λ i. leb (length (shell m i).faces) x.shell_faces) m.shells.used
    ∷ all_below (λ i. leb (length (shell m i).wire_edges) x.shell_wire_edges) m.shells.used
    ∷ all_below (λ i. leb (length (shell m i).acorn_vertices) x.shell_acorn_vertices) m.shells.used
    ∷ all_below (λ i. leb (length (face m i).loops) x.face_loops) m.faces.used
    ∷ all_below (λ i. leb (length (loop m i).fins) x.loop_fins) m.loops.used
    ∷ all_below (λ i. leb (length (edge m i).fins) x.edge_fins) m.edges.used
    ∷ precision_ok m.precision
    ∷ all_below (λ i. tolerance_ok (edge m i).tolerance) m.edges.used
    ∷ all_below (λ i. tolerance_ok (vertex m i).tolerance) m.vertices.used
    ∷ []

unfoldable pub tables_pass : Limits → Model → Bool
tables_pass x m = every (table_tests x m)

-- the same as facts
pub record Readable (x : Limits) (m : Model) : Type 0 where
  pub bodies : m.bodies.used ≤ x.bodies
  pub regions : m.regions.used ≤ x.regions
  pub shells : m.shells.used ≤ x.shells
  pub faces : m.faces.used ≤ x.faces
  pub loops : m.loops.used ≤ x.loops
  pub fins : m.fins.used ≤ x.fins
  pub edges : m.edges.used ≤ x.edges
  pub vertices : m.vertices.used ≤ x.vertices
  pub curves : m.curves.used ≤ x.curves
  pub surfaces : m.surfaces.used ≤ x.surfaces
  pub body-regions : (i : ℕ) → i < m.bodies.used → length (body m i).regions ≤ x.body_regions
  pub region-shells : (i : ℕ) → i < m.regions.used → length (region m i).shells ≤ x.region_shells
  pub shell-faces : (i : ℕ) → i < m.shells.used → length (shell m i).faces ≤ x.shell_faces
  pub shell-wire-edges : (i : ℕ) → i < m.shells.used → length (shell m i).wire_edges ≤ x.shell_wire_edges
  pub shell-acorn-vertices : (i : ℕ) → i < m.shells.used → length (shell m i).acorn_vertices ≤ x.shell_acorn_vertices
  pub face-loops : (i : ℕ) → i < m.faces.used → length (face m i).loops ≤ x.face_loops
  pub loop-fins : (i : ℕ) → i < m.loops.used → length (loop m i).fins ≤ x.loop_fins
  pub edge-fins : (i : ℕ) → i < m.edges.used → length (edge m i).fins ≤ x.edge_fins
  pub precision : precision_ok m.precision ≡ true
  pub edge-tolerance : (i : ℕ) → i < m.edges.used → tolerance_ok (edge m i).tolerance ≡ true
  pub vertex-tolerance : (i : ℕ) → i < m.vertices.used → tolerance_ok (vertex m i).tolerance ≡ true

-- ---- "Every stored id names a record"

-- none names nothing
abbrev pub below_maybe : ℕ → Option ℕ → Bool
below_maybe n none = true
below_maybe n (some i) = ltb i n

module _ {A : Type 0} where
  abbrev pub has_all : Table A → List ℕ → Bool
  has_all t l = all (has t) l

  abbrev pub has_maybe : Table A → Option ℕ → Bool
  has_maybe t o = below_maybe t.used o

abbrev pub id_tests : Model → List Bool
id_tests m =
    all_below (λ i. has_all m.regions (body m i).regions) m.bodies.used
    ∷ all_below (λ i. has m.bodies (region m i).body) m.regions.used
    ∷ all_below (λ i. has_all m.shells (region m i).shells) m.regions.used
    ∷ all_below (λ i. has m.regions (shell m i).region) m.shells.used
    ∷ all_below (λ i. has_all m.faces (shell m i).faces) m.shells.used
    ∷ all_below (λ i. has_all m.edges (shell m i).wire_edges) m.shells.used
    ∷ all_below (λ i. has_all m.vertices (shell m i).acorn_vertices) m.shells.used
    ∷ all_below (λ i. has_maybe m.shells (face m i).front) m.faces.used
    ∷ all_below (λ i. has_maybe m.shells (face m i).back) m.faces.used
    ∷ all_below (λ i. has_all m.loops (face m i).loops) m.faces.used
    ∷ all_below (λ i. has_maybe m.surfaces (face m i).surface) m.faces.used
    ∷ all_below (λ i. has m.faces (loop m i).face) m.loops.used
    ∷ all_below (λ i. has_all m.fins (loop m i).fins) m.loops.used
    ∷ all_below (λ i. has m.loops (fin m i).owner) m.fins.used
    ∷ all_below (λ i. has m.edges (fin m i).edge) m.fins.used
    ∷ all_below (λ i. has_all m.fins (edge m i).fins) m.edges.used
    ∷ all_below (λ i. has_maybe m.vertices (edge m i).start) m.edges.used
    ∷ all_below (λ i. has_maybe m.vertices (edge m i).end) m.edges.used
    ∷ all_below (λ i. has_maybe m.curves (edge m i).curve) m.edges.used
    ∷ []

unfoldable pub ids_ok : Model → Bool
ids_ok m = every (id_tests m)

-- the same as facts
pub record StoredIds (m : Model) : Type 0 where
  pub body-regions : (i : ℕ) → i < m.bodies.used → has_all m.regions (body m i).regions ≡ true
  pub region-body : (i : ℕ) → i < m.regions.used → (region m i).body < m.bodies.used
  pub region-shells : (i : ℕ) → i < m.regions.used → has_all m.shells (region m i).shells ≡ true
  pub shell-region : (i : ℕ) → i < m.shells.used → (shell m i).region < m.regions.used
  pub shell-faces : (i : ℕ) → i < m.shells.used → has_all m.faces (shell m i).faces ≡ true
  pub shell-wire-edges : (i : ℕ) → i < m.shells.used → has_all m.edges (shell m i).wire_edges ≡ true
  pub shell-acorn-vertices : (i : ℕ) → i < m.shells.used → has_all m.vertices (shell m i).acorn_vertices ≡ true
  pub face-front : (i : ℕ) → i < m.faces.used → has_maybe m.shells (face m i).front ≡ true
  pub face-back : (i : ℕ) → i < m.faces.used → has_maybe m.shells (face m i).back ≡ true
  pub face-loops : (i : ℕ) → i < m.faces.used → has_all m.loops (face m i).loops ≡ true
  pub face-surface : (i : ℕ) → i < m.faces.used → has_maybe m.surfaces (face m i).surface ≡ true
  pub loop-face : (i : ℕ) → i < m.loops.used → (loop m i).face < m.faces.used
  pub loop-fins : (i : ℕ) → i < m.loops.used → has_all m.fins (loop m i).fins ≡ true
  pub fin-owner : (i : ℕ) → i < m.fins.used → (fin m i).owner < m.loops.used
  pub fin-edge : (i : ℕ) → i < m.fins.used → (fin m i).edge < m.edges.used
  pub edge-fins : (i : ℕ) → i < m.edges.used → has_all m.fins (edge m i).fins ≡ true
  pub edge-start : (i : ℕ) → i < m.edges.used → has_maybe m.vertices (edge m i).start ≡ true
  pub edge-end : (i : ℕ) → i < m.edges.used → has_maybe m.vertices (edge m i).end ≡ true
  pub edge-curve : (i : ℕ) → i < m.edges.used → has_maybe m.curves (edge m i).curve ≡ true

-- ---- who lists whom. These sentences have one shape: a parent p lists a child c once where c names p, and else not at all

abbrev pub bit : Bool → ℕ
bit true = 1
bit false = 0

-- for all p below the number of parents and all c below the number of children
pub record Listed (parents children : ℕ) (list : ℕ → List ℕ) (names : ℕ → ℕ → Bool) : Type 0 where
  pub once : (p c : ℕ) → p < parents → c < children → count c (list p) ≡ bit (names c p)

unfoldable pub listed_ok : ℕ → ℕ → (ℕ → List ℕ) → (ℕ → ℕ → Bool) → Bool
listed_ok parents children list names = all_below (λ p. all_below (λ c. eqb (count c (list p)) (bit (names c p))) children) parents

-- "Each region, shell, loop and fin is listed exactly once, by the parent it names"
abbrev pub region_names : Model → ℕ → ℕ → Bool
region_names m r b = eqb (region m r).body b

abbrev pub shell_names : Model → ℕ → ℕ → Bool
shell_names m s r = eqb (shell m s).region r

abbrev pub loop_names : Model → ℕ → ℕ → Bool
loop_names m l f = eqb (loop m l).face f

abbrev pub fin_names : Model → ℕ → ℕ → Bool
fin_names m i l = eqb (fin m i).owner l

-- "A shell lists a face once exactly when it is the face's front or back"
abbrev pub face_names : Model → ℕ → ℕ → Bool
face_names m f s = is (face m f).front s || is (face m f).back s

-- "Every fin is listed once by its edge, and an edge lists only fins naming it"
abbrev pub fin_names_edge : Model → ℕ → ℕ → Bool
fin_names_edge m i e = eqb (fin m i).edge e

-- ---- "No loop is empty, and every fin ends where the next starts"

unfoldable pub closed : Model → List ℕ → List ℕ → Bool
closed m [] l = true
closed m (i ∷ k) [] = true
closed m (i ∷ k) (j ∷ l) = meets_next m i j && closed m k l

unfoldable pub loop_closes : Model → List ℕ → Bool
loop_closes m fins = not (eqb (length fins) 0) && closed m fins (rotated fins)

-- ---- all sentences, as facts

pub record WellFormed (x : Limits) (m : Model) : Type 0 where
  pub tables : Readable x m
  pub ids : StoredIds m
  pub regions : Listed m.bodies.used m.regions.used (λ b. (body m b).regions) (region_names m)
  pub shells : Listed m.regions.used m.shells.used (λ r. (region m r).shells) (shell_names m)
  pub loops : Listed m.faces.used m.loops.used (λ f. (face m f).loops) (loop_names m)
  pub fins : Listed m.loops.used m.fins.used (λ l. (loop m l).fins) (fin_names m)
  pub faces : Listed m.shells.used m.faces.used (λ s. (shell m s).faces) (face_names m)
  pub edges : Listed m.edges.used m.fins.used (λ e. (edge m e).fins) (fin_names_edge m)
  pub closes : (l : ℕ) → l < m.loops.used → loop_closes m (loop m l).fins ≡ true
  -- "No shell repeats a wire edge"
  pub wires : (s e : ℕ) → s < m.shells.used → count e (shell m s).wire_edges ≤ 1

-- ---- the same as a test

-- no entry of a list of wire edges stands twice
abbrev pub wires_ok : List ℕ → Bool
wires_ok l = all (λ e. leb (count e l) 1) l

abbrev pub formed_tests : Limits → Model → List Bool
formed_tests x m =
    tables_pass x m
    ∷ ids_ok m
    ∷ listed_ok m.bodies.used m.regions.used (λ b. (body m b).regions) (region_names m)
    ∷ listed_ok m.regions.used m.shells.used (λ r. (region m r).shells) (shell_names m)
    ∷ listed_ok m.faces.used m.loops.used (λ f. (face m f).loops) (loop_names m)
    ∷ listed_ok m.loops.used m.fins.used (λ l. (loop m l).fins) (fin_names m)
    ∷ listed_ok m.shells.used m.faces.used (λ s. (shell m s).faces) (face_names m)
    ∷ listed_ok m.edges.used m.fins.used (λ e. (edge m e).fins) (fin_names_edge m)
    ∷ all_below (λ l. loop_closes m (loop m l).fins) m.loops.used
    ∷ all_below (λ s. wires_ok (shell m s).wire_edges) m.shells.used
    ∷ []

unfoldable pub well_formed : Limits → Model → Bool
well_formed x m = every (formed_tests x m)

-- ---- reports and edges of a body

-- "A topological report is `check_body`'s with geometry off"
abbrev pub topological : CheckOptions
topological = record { geometry = false; edge_samples = 0 }

abbrev pub topological_report : Model → ℕ → Report
topological_report m b = report_of (findings m topological b)

-- "empty when it counts no fault"
abbrev pub empty_report : Report → Bool
empty_report r = eqb (length r.faults) 0

-- "A body has an edge when its edge walk lists it"
abbrev pub has_edge : Model → ℕ → ℕ → Bool
has_edge m b e = eqb (edges_refusal m b) 0 && member e (edge_walk m b)
