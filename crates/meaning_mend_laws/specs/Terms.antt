-- The words of the statements about a mending: quoted are W-208 and what its issue asks to be shown. Definitions only.
use Rattle.std.specs.Prelude.{ℕ, ◌≤◌, ◌<◌, ◌≡◌, Bool, true, false, cond, ◌&&◌, List, [], ◌∷◌, ◌++◌, eqb, ltb, length, get_or}
use Rattle.meaning.specs.Lists.{all, member, count, joined, meets}
use Rattle.meaning.specs.Model.{Model, Limits, changed, has, body, region, shell, face, loop, fin, edge}
use Rattle.meaning.specs.Walks.{face_walk, faces_refusal, edge_walk, edges_refusal, vertex_walk, vertices_refusal}
use Rattle.meaning.specs.Inquire.{is_solid}
use Rattle.meaning.specs.Faults.{Finding, found, skipped, CheckOptions, region_findings, layout, same_sense, manifold}
use Rattle.meaning.specs.Formed.{Readable, has_all, has_maybe, bit, Listed, face_names, fin_names_edge, loop_closes}
use Rattle.meaning_mends.specs.Mends.{Child, a_region, a_shell, a_loop, a_fin, named, children, parents, Meeting, meetings, same_child, Change, renamed, enlisted}

-- ---- the pointers, and the model with others

-- `up` is the parent that each region, shell, loop and fin names, `along` the fins that each edge lists; all else is as it was
unfoldable pub linked : Model → (Child → ℕ → ℕ) → (ℕ → List ℕ) → Model
linked m up along =
    record {
      version = m.version;
      precision = m.precision;
      bodies = m.bodies;
      regions = changed m.regions (λ i r. record { body = up a_region i; solid = r.solid; shells = r.shells });
      shells = changed m.shells (λ i s. record { region = up a_shell i; faces = s.faces; wire_edges = s.wire_edges; acorn_vertices = s.acorn_vertices });
      faces = m.faces;
      loops = changed m.loops (λ i l. record { face = up a_loop i; fins = l.fins });
      fins = changed m.fins (λ i f. record { owner = up a_fin i; edge = f.edge; sense = f.sense; pcurve = f.pcurve });
      edges = changed m.edges (λ i e. record { fins = along i; start = e.start; end = e.end; curve = e.curve; tolerance = e.tolerance });
      vertices = m.vertices;
      curves = m.curves;
      surfaces = m.surfaces;
    }

-- the fins that an edge of the model lists
abbrev pub listing : Model → ℕ → List ℕ
listing m e = (edge m e).fins

-- ---- what the lists of a body ask for

-- the ids of one class among meetings, in walk order
unfoldable pub ids_of : Child → List Meeting → List ℕ
ids_of k [] = []
ids_of k (t ∷ l) = cond (same_child k t.child) (t.id ∷ []) [] ++ ids_of k l

-- the regions, shells, loops or fins that the lists of the body b name
abbrev pub reached : Model → ℕ → Child → List ℕ
reached m b k = ids_of k (meetings m b)

-- "rewrites, from the lists of one body, the parent": the parent whose list names the record i of class k (an accepted mending has one such), and p where none does
unfoldable pub parent_by : List Meeting → Child → ℕ → ℕ → ℕ
parent_by [] k i p = p
parent_by (t ∷ l) k i p = parent_by l k i (cond (same_child k t.child && eqb i t.id) t.parent p)

abbrev pub new_parent : Model → ℕ → Child → ℕ → ℕ
new_parent m b k i = parent_by (meetings m b) k i (named m k i)

-- "adds a fin to its edge's list where it is absent": of the fins l those that name the edge e; the list meets them one after the other
unfoldable pub naming : Model → ℕ → List ℕ → List ℕ
naming m e l = joined (λ i. cond (eqb e (fin m i).edge) (i ∷ []) []) l

abbrev pub new_listing : Model → ℕ → ℕ → List ℕ
new_listing m b e = meets (listing m e) (naming m e (reached m b a_fin))

-- ---- "nothing else is touched"

-- an edge's list l with its old entries in front, in order, and behind them only fins of the body's loops that name that edge and were absent, each once
pub record Added (m : Model) (b e : ℕ) (l : List ℕ) : Type 0 where
  pub new : List ℕ
  pub behind : l ≡ listing m e ++ new
  pub fins : (i : ℕ) → member i new ≡ true → (member i (reached m b a_fin) ≡ true) × ((fin m i).edge ≡ e) × (member i (listing m e) ≡ false)
  pub once : (i : ℕ) → count i new ≤ 1

-- pointers that are those of m but for the body's: a parent is as it was for a record that the body's lists do not name
pub record OnlyOf (m : Model) (b : ℕ) (up : Child → ℕ → ℕ) (along : ℕ → List ℕ) : Type 0 where
  pub parents : (k : Child) (i : ℕ) → member i (reached m b k) ≡ false → up k i ≡ named m k i
  pub lists : (e : ℕ) → Added m b e (along e)

-- ---- "the body's lists, and so its walks, are the same"

-- in m and in the model n behind a mending
pub record SameLists (m n : Model) : Type 0 where
  pub bodies : n.bodies ≡ m.bodies
  pub region-shells : (r : ℕ) → (region n r).shells ≡ (region m r).shells
  pub shell-faces : (s : ℕ) → (shell n s).faces ≡ (shell m s).faces
  pub shell-wire-edges : (s : ℕ) → (shell n s).wire_edges ≡ (shell m s).wire_edges
  pub shell-acorn-vertices : (s : ℕ) → (shell n s).acorn_vertices ≡ (shell m s).acorn_vertices
  pub faces : n.faces ≡ m.faces
  pub loop-fins : (l : ℕ) → (loop n l).fins ≡ (loop m l).fins

-- of any body, with the refusals
pub record SameWalks (m n : Model) (b : ℕ) : Type 0 where
  pub faces : face_walk n b ≡ face_walk m b
  pub edges : edge_walk n b ≡ edge_walk m b
  pub vertices : vertex_walk n b ≡ vertex_walk m b
  pub faces-refusal : faces_refusal n b ≡ faces_refusal m b
  pub edges-refusal : edges_refusal n b ≡ edges_refusal m b
  pub vertices-refusal : vertices_refusal n b ≡ vertices_refusal m b

-- ---- the changes

-- it holds of every entry
abbrev pub All : {A : Type 0} → (A → Type 0) → List A → Type 0
All P [] = Unit {0}
All P (c ∷ l) = P c × All P l

-- "old value, new value": a change between m and the model behind the mending that changes
pub record Renamed (m after : Model) (k : Child) (i old new : ℕ) : Type 0 where
  pub was : named m k i ≡ old
  pub is : named after k i ≡ new
  pub other : old ≡ new → ⊥

-- a fin that is added names the edge, was absent, and stands at its place behind the old entries
pub record Enlisted (m after : Model) (e place i : ℕ) : Type 0 where
  pub names : (fin m i).edge ≡ e
  pub absent : member i (listing m e) ≡ false
  pub behind : length (listing m e) ≤ place
  pub there : place < length (listing after e)
  pub is : get_or (listing after e) place 0 ≡ i

abbrev pub Real : Model → Model → Change → Type 0
Real m after (renamed k i old new) = Renamed m after k i old new
Real m after (enlisted e place i) = Enlisted m after e place i

-- "record, field": two changes are of one, an edge's list being a field for each place
abbrev pub same_field : Change → Change → Bool
same_field (renamed k i old new) (renamed c j was now) = same_child k c && eqb i j
same_field (renamed k i old new) (enlisted f q j) = false
same_field (enlisted e p i) (renamed c j was now) = false
same_field (enlisted e p i) (enlisted f q j) = eqb e f && eqb p q

-- no field is reported twice
abbrev pub Apart : List Change → Type 0
Apart [] = Unit {0}
Apart (c ∷ l) = All (λ d. same_field c d ≡ false) l × Apart l

-- ---- the report

-- "reasons 4, 6, 11, 14 and 16": a region, shell, loop or fin points wrongly, an edge lacks a fin
abbrev pub of_pointers : ℕ → Bool
of_pointers n = member n (4 ∷ 6 ∷ 11 ∷ 14 ∷ 16 ∷ [])

-- "a report without them"
unfoldable pub without : List Finding → List Finding
without [] = []
without (found f ∷ l) = let rest = without l in cond (of_pointers f.reason) rest (found f ∷ rest)
without (skipped ∷ l) = skipped ∷ without l

-- "region layout, regions, shells, faces, loops": all that the checker finds before the manifold edges of a solid
abbrev pub list_findings : Model → CheckOptions → ℕ → List Finding
list_findings m o b = layout m b (body m b).regions ++ joined (region_findings m o b) (body m b).regions

-- "then manifold edges of a solid", by other lists of the edges' fins
unfoldable pub manifold_by : Model → ℕ → (ℕ → List ℕ) → List Finding
manifold_by m b along = cond (is_solid (body m b).kind && eqb (edges_refusal m b) 0) (joined (λ e. cond (has m.edges e) (manifold m e (along e)) []) (edge_walk m b)) []

-- every fin of the body's loops is listed by its edge (a report without reason 16 does not say so: a face's loops are checked from its front shell alone, and mended from every shell that lists it)
abbrev pub FinsListed : Model → ℕ → Type 0
FinsListed m b = (i : ℕ) → member i (reached m b a_fin) ≡ true → member i (listing m (fin m i).edge) ≡ true

-- each edge of the body has, with the fins of the body's loops that name it, two fins of opposite sense
pub record TwoFins (m : Model) (b e : ℕ) : Type 0 where
  pub first : ℕ
  pub second : ℕ
  pub both : new_listing m b e ≡ first ∷ second ∷ []
  pub opposite : same_sense (fin m first).sense (fin m second).sense ≡ false

-- ---- "well formed but for those pointers"

-- how many records of a class there are
abbrev pub many : Model → Child → ℕ
many m a_region = m.regions.used
many m a_shell = m.shells.used
many m a_loop = m.loops.used
many m a_fin = m.fins.used

-- the sentences of 01's "Well formed" (`WellFormed`), each without what a wrong parent of a record that the body meets, or a fin of the body's loops that its edge lacks, breaks
pub record ButForPointers (x : Limits) (m : Model) (b : ℕ) : Type 0 where
  pub tables : Readable x m
  -- "Every stored id names a record": a parent's id where the body does not meet the record
  pub children-there : (k : Child) (p : ℕ) → p < parents m k → all (λ i. ltb i (many m k)) (children m k p) ≡ true
  pub parents-there : (k : Child) (i : ℕ) → i < many m k → member i (reached m b k) ≡ false → named m k i < parents m k
  pub shell-faces : (i : ℕ) → i < m.shells.used → has_all m.faces (shell m i).faces ≡ true
  pub shell-wire-edges : (i : ℕ) → i < m.shells.used → has_all m.edges (shell m i).wire_edges ≡ true
  pub shell-acorn-vertices : (i : ℕ) → i < m.shells.used → has_all m.vertices (shell m i).acorn_vertices ≡ true
  pub face-front : (i : ℕ) → i < m.faces.used → has_maybe m.shells (face m i).front ≡ true
  pub face-back : (i : ℕ) → i < m.faces.used → has_maybe m.shells (face m i).back ≡ true
  pub face-surface : (i : ℕ) → i < m.faces.used → has_maybe m.surfaces (face m i).surface ≡ true
  pub fin-edge : (i : ℕ) → i < m.fins.used → (fin m i).edge < m.edges.used
  pub edge-fins : (i : ℕ) → i < m.edges.used → has_all m.fins (edge m i).fins ≡ true
  pub edge-start : (i : ℕ) → i < m.edges.used → has_maybe m.vertices (edge m i).start ≡ true
  pub edge-end : (i : ℕ) → i < m.edges.used → has_maybe m.vertices (edge m i).end ≡ true
  pub edge-curve : (i : ℕ) → i < m.edges.used → has_maybe m.curves (edge m i).curve ≡ true
  -- "Each region, shell, loop and fin is listed exactly once, by the parent it names": where the body does not meet it
  pub listed : (k : Child) (p i : ℕ) → p < parents m k → i < many m k → member i (reached m b k) ≡ false → count i (children m k p) ≡ bit (eqb (named m k i) p)
  pub faces : Listed m.shells.used m.faces.used (λ s. (shell m s).faces) (face_names m)
  -- "Every fin is listed once by its edge, and an edge lists only fins naming it": a fin of the body's loops once or not at all
  pub fins : (e i : ℕ) → e < m.edges.used → i < m.fins.used → member i (reached m b a_fin) ≡ false → count i (listing m e) ≡ bit (fin_names_edge m i e)
  pub own-fins : (e i : ℕ) → e < m.edges.used → i < m.fins.used → count i (listing m e) ≤ bit (fin_names_edge m i e)
  pub closes : (l : ℕ) → l < m.loops.used → loop_closes m (loop m l).fins ≡ true
  pub wires : (s e : ℕ) → s < m.shells.used → count e (shell m s).wire_edges ≤ 1
