-- The words of the statements, as definitions.
use Rattle.std.specs.Prelude.{ℕ, ◌+◌, ◌≤◌, ◌<◌, ◌≡◌, Bool, true, false, cond, not, List, [], ◌∷◌, ℤ, pos, ◌+ℤ◌, ◌-ℤ◌, eqb, ltb, length}
use Rattle.std.proofs.Math.Option.{some}
use Rattle.meaning.specs.Lists.{member, count}
use Rattle.meaning.specs.Model.{Model, body, region, shell, face, loop, fin, edge, vertex, Limits}
use Rattle.meaning.specs.Refuse.{given}
use Rattle.meaning.specs.Walks.{face_walk, body_faces, edge_walk, body_edges, vertex_walk, body_vertices}
use Rattle.meaning.specs.Split.{split_refusal, model_after, Cut}

-- ---- striking out

-- the entries that pass a test, in their order
unfoldable pub sifted : (ℕ → Bool) → List ℕ → List ℕ
sifted p [] = []
sifted p (x ∷ l) = let rest = sifted p l in cond (p x) (x ∷ rest) rest

-- a list without the ids from n on
abbrev pub struck_from : ℕ → List ℕ → List ℕ
struck_from n l = sifted (λ i. ltb i n) l

-- a list without the id n
abbrev pub without : ℕ → List ℕ → List ℕ
without n l = sifted (λ i. not (eqb i n)) l

-- the list itself
abbrev pub itself : ℕ → List ℕ → List ℕ
itself n l = l

-- ---- a sequence of splits

-- the edges of the accepted ones, in their order
unfoldable pub split_edges : Limits → Model → List Cut → List ℕ
split_edges x m [] = []
split_edges x m (c ∷ l) =
    let rest = split_edges x (model_after x m c.edge c.fraction) l in
    cond (eqb (split_refusal x m c.edge c.fraction) 0) (c.edge ∷ rest) rest

-- the model `after` has the records of m, and more; `split` are the edges that were split; `start n l` is what a list l of m is, as one of ids below n
pub record Restored (m after : Model) (split : List ℕ) (start : ℕ → List ℕ → List ℕ) : Type 0 where
  -- every old record is there
  pub bodies : after.bodies.used ≡ m.bodies.used
  pub regions : after.regions.used ≡ m.regions.used
  pub shells : after.shells.used ≡ m.shells.used
  pub faces : after.faces.used ≡ m.faces.used
  pub loops : after.loops.used ≡ m.loops.used
  pub fins : m.fins.used ≤ after.fins.used
  pub edges : m.edges.used ≤ after.edges.used
  pub vertices : m.vertices.used ≤ after.vertices.used
  pub curves : after.curves.used ≡ m.curves.used
  pub surfaces : after.surfaces.used ≡ m.surfaces.used
  -- "Striking out what was added gives back every stored list in its starting order"
  pub body-regions : (i : ℕ) → i < m.bodies.used → struck_from m.regions.used (body after i).regions ≡ start m.regions.used (body m i).regions
  pub region-shells : (i : ℕ) → i < m.regions.used → struck_from m.shells.used (region after i).shells ≡ start m.shells.used (region m i).shells
  pub shell-faces : (i : ℕ) → i < m.shells.used → struck_from m.faces.used (shell after i).faces ≡ start m.faces.used (shell m i).faces
  pub shell-wire-edges : (i : ℕ) → i < m.shells.used → struck_from m.edges.used (shell after i).wire_edges ≡ start m.edges.used (shell m i).wire_edges
  pub shell-acorn-vertices : (i : ℕ) → i < m.shells.used → struck_from m.vertices.used (shell after i).acorn_vertices ≡ start m.vertices.used (shell m i).acorn_vertices
  pub face-loops : (i : ℕ) → i < m.faces.used → struck_from m.loops.used (face after i).loops ≡ start m.loops.used (face m i).loops
  pub loop-fins : (i : ℕ) → i < m.loops.used → struck_from m.fins.used (loop after i).fins ≡ start m.fins.used (loop m i).fins
  pub edge-fins : (i : ℕ) → i < m.edges.used → struck_from m.fins.used (edge after i).fins ≡ start m.fins.used (edge m i).fins
  -- every other field is as it was
  pub version : after.version ≡ m.version
  pub precision : after.precision ≡ m.precision
  pub body-kind : (i : ℕ) → i < m.bodies.used → (body after i).kind ≡ (body m i).kind
  pub body-office : (i : ℕ) → i < m.bodies.used → (body after i).office ≡ (body m i).office
  pub region-body : (i : ℕ) → i < m.regions.used → (region after i).body ≡ (region m i).body
  pub region-solid : (i : ℕ) → i < m.regions.used → (region after i).solid ≡ (region m i).solid
  pub shell-region : (i : ℕ) → i < m.shells.used → (shell after i).region ≡ (shell m i).region
  pub face-front : (i : ℕ) → i < m.faces.used → (face after i).front ≡ (face m i).front
  pub face-back : (i : ℕ) → i < m.faces.used → (face after i).back ≡ (face m i).back
  pub face-surface : (i : ℕ) → i < m.faces.used → (face after i).surface ≡ (face m i).surface
  pub face-sense : (i : ℕ) → i < m.faces.used → (face after i).sense ≡ (face m i).sense
  pub loop-face : (i : ℕ) → i < m.loops.used → (loop after i).face ≡ (loop m i).face
  pub fin-whole : (i : ℕ) → i < m.fins.used → fin after i ≡ fin m i
  pub edge-start : (i : ℕ) → i < m.edges.used → (edge after i).start ≡ (edge m i).start
  pub edge-curve : (i : ℕ) → i < m.edges.used → (edge after i).curve ≡ (edge m i).curve
  pub edge-tolerance : (i : ℕ) → i < m.edges.used → (edge after i).tolerance ≡ (edge m i).tolerance
  pub vertex-whole : (i : ℕ) → i < m.vertices.used → vertex after i ≡ vertex m i
  pub curve-whole : (i : ℕ) → i < m.curves.used → after.curves.slot i ≡ m.curves.slot i
  pub surface-whole : (i : ℕ) → i < m.surfaces.used → after.surfaces.slot i ≡ m.surfaces.slot i
  -- "but for the end of a split edge", which is a new vertex
  pub edge-end : (i : ℕ) → i < m.edges.used → member i split ≡ false → (edge after i).end ≡ (edge m i).end
  pub edge-end-split : (i : ℕ) → i < m.edges.used → member i split ≡ true → (v : ℕ) × (m.vertices.used ≤ v) × ((edge after i).end ≡ some v)

-- ---- the walks of a body

-- no walk of a body is refused
pub record Walked (m : Model) (b : ℕ) : Type 0 where
  pub faces : body_faces m b ≡ given (face_walk m b)
  pub edges : body_edges m b ≡ given (edge_walk m b)
  pub vertices : body_vertices m b ≡ given (vertex_walk m b)

-- "exactly one more edge and vertex"
pub record OneMore (m after : Model) (b new_edge new_vertex : ℕ) : Type 0 where
  pub faces : face_walk after b ≡ face_walk m b
  -- the walk has the new edge once, and without it is the old one in its order
  pub new-edge : count new_edge (edge_walk after b) ≡ 1
  pub old-edges : without new_edge (edge_walk after b) ≡ edge_walk m b
  pub edges : length (edge_walk after b) ≡ length (edge_walk m b) + 1
  -- the walk has the new vertex once, and every other as often as the old one
  pub new-vertex : count new_vertex (vertex_walk after b) ≡ 1
  pub old-vertices : (v : ℕ) → (v ≡ new_vertex → ⊥) → count v (vertex_walk after b) ≡ count v (vertex_walk m b)
  pub vertices : length (vertex_walk after b) ≡ length (vertex_walk m b) + 1

pub record SameWalks (m after : Model) (b : ℕ) : Type 0 where
  pub faces : face_walk after b ≡ face_walk m b
  pub edges : edge_walk after b ≡ edge_walk m b
  pub vertices : vertex_walk after b ≡ vertex_walk m b

-- "vertices minus edges plus faces"
unfoldable pub euler_number : Model → ℕ → ℤ
euler_number m b = pos (length (vertex_walk m b)) -ℤ pos (length (edge_walk m b)) +ℤ pos (length (face_walk m b))
