-- 01, "2: a named or needed record does not exist": where 2 is told, the record is missing, and the parent that is told names it. Definitions only.
use Rattle.std.specs.Prelude.{ℕ, Bool, true, false, not, ◌&&◌, ◌||◌, eqb}
use Rattle.meaning.specs.Lists.{member, is}
use Rattle.meaning.specs.Model.{Model, has, body, region, shell, face, loop, fin, edge}
use Rattle.meaning.specs.Walks.{edge_vertices}
use Rattle.meaning.specs.Faults.{Class, of_body, of_region, of_shell, of_face, of_loop, of_fin, of_edge, of_vertex}
use Rattle.meaning.specs.Offices.{body_for, edge_for}
use Rattle.meaning_stops.specs.Stops.{Entity, this, this_curve, this_surface, nothing, class_of}

-- the parent is of this class, and the test holds of it
abbrev pub by : Class → Entity → (ℕ → Bool) → Bool
by c (this d i) f = eqb (class_of c) (class_of d) && f i
by c (this_curve i) f = false
by c (this_surface i) f = false
by c nothing f = false

abbrev pub nobody : Entity → Bool
nobody (this d i) = false
nobody (this_curve i) = false
nobody (this_surface i) = false
nobody nothing = true

-- the record does not exist, and the parent names it; a body and an edge that were asked about do not exist for the office o
abbrev pub missing_on : Model → ℕ → Entity → Entity → Bool
missing_on m o (this of_body b) p = not (has m.bodies (body_for m o b)) && nobody p
missing_on m o (this of_region r) p = not (has m.regions r) && by of_body p (λ b. member r (body m b).regions)
missing_on m o (this of_shell s) p = not (has m.shells s) && by of_region p (λ r. member s (region m r).shells)
missing_on m o (this of_face f) p = not (has m.faces f) && (by of_shell p (λ s. member f (shell m s).faces) || by of_loop p (λ l. eqb (loop m l).face f))
missing_on m o (this of_loop l) p = not (has m.loops l) && (by of_face p (λ f. member l (face m f).loops) || by of_fin p (λ i. eqb (fin m i).owner l))
missing_on m o (this of_fin i) p = not (has m.fins i) && (by of_loop p (λ l. member i (loop m l).fins) || by of_edge p (λ e. member i (edge m e).fins))
missing_on m o (this of_edge e) p =
    not (has m.edges (edge_for m o e)) && (nobody p || by of_fin p (λ i. eqb (fin m i).edge e) || by of_shell p (λ s. member e (shell m s).wire_edges))
missing_on m o (this of_vertex v) p = not (has m.vertices v) && (by of_edge p (λ e. member v (edge_vertices (edge m e))) || by of_shell p (λ s. member v (shell m s).acorn_vertices))
missing_on m o (this_curve c) p = not (has m.curves c) && by of_edge p (λ e. is (edge m e).curve c)
missing_on m o (this_surface s) p = not (has m.surfaces s) && by of_face p (λ f. is (face m f).surface s)
missing_on m o nothing p = false
