-- Which records the calls about a body may read: those that are reached from it, table by table (W-206, "no record is reached from both"; "an id met from its own bodies"). Definitions only.
-- An id that is met is followed where it names a record, and not else.
use Rattle.std.specs.Prelude.{ℕ, ◌≡◌, true, cond, List, [], ◌∷◌, ◌++◌}
use Rattle.meaning.specs.Lists.{joined, member, listed}
use Rattle.meaning.specs.Model.{Model, Table, has}
use Rattle.meaning.specs.Walks.{edge_vertices}

-- the ids that the records of a table name, of those under these ids that are there
unfoldable pub named : {A : Type 0} → Table A → (A → List ℕ) → List ℕ → List ℕ
named t of l = joined (λ i. cond (has t i) (of (t.slot i)) []) l

-- ---- the ids met from the body b

module _ (m : Model) (b : ℕ) where
  unfoldable pub regions_met : List ℕ
  regions_met = named m.bodies (λ r. r.regions) (b ∷ [])

  unfoldable pub shells_met : List ℕ
  shells_met = named m.regions (λ r. r.shells) regions_met

  unfoldable pub faces_met : List ℕ
  faces_met = named m.shells (λ s. s.faces) shells_met

  unfoldable pub loops_met : List ℕ
  loops_met = named m.faces (λ f. f.loops) faces_met

  unfoldable pub fins_met : List ℕ
  fins_met = named m.loops (λ l. l.fins) loops_met

  -- of the fins, then the wire edges
  unfoldable pub edges_met : List ℕ
  edges_met = named m.fins (λ i. i.edge ∷ []) fins_met ++ named m.shells (λ s. s.wire_edges) shells_met

  -- the ends, then the acorn vertices
  unfoldable pub vertices_met : List ℕ
  vertices_met = named m.edges edge_vertices edges_met ++ named m.shells (λ s. s.acorn_vertices) shells_met

  unfoldable pub curves_met : List ℕ
  curves_met = named m.edges (λ e. listed e.curve) edges_met

  unfoldable pub surfaces_met : List ℕ
  surfaces_met = named m.faces (λ f. listed f.surface) faces_met

  -- the fins that an edge lists are asked for their senses, and are not followed
  unfoldable pub fins_seen : List ℕ
  fins_seen = fins_met ++ named m.edges (λ e. e.fins) edges_met

-- ---- two models that are alike from the body b on

-- under these ids: "an id .. names a record in both cases or in neither", and where it does, the same
pub record Agree {A : Type 0} (l : List ℕ) (t u : Table A) : Type 0 where
  pub there : (i : ℕ) → member i l ≡ true → has t i ≡ has u i
  pub same : (i : ℕ) → member i l ≡ true → has t i ≡ true → t.slot i ≡ u.slot i

pub record Alike (m n : Model) (b : ℕ) : Type 0 where
  pub version : m.version ≡ n.version
  pub precision : m.precision ≡ n.precision
  pub bodies : Agree (b ∷ []) m.bodies n.bodies
  pub regions : Agree (regions_met m b) m.regions n.regions
  pub shells : Agree (shells_met m b) m.shells n.shells
  pub faces : Agree (faces_met m b) m.faces n.faces
  pub loops : Agree (loops_met m b) m.loops n.loops
  pub fins : Agree (fins_seen m b) m.fins n.fins
  pub edges : Agree (edges_met m b) m.edges n.edges
  pub vertices : Agree (vertices_met m b) m.vertices n.vertices
  pub curves : Agree (curves_met m b) m.curves n.curves
  pub surfaces : Agree (surfaces_met m b) m.surfaces n.surfaces
