-- What is unchecked: the doubts of a report, in the checker's order, each with the query and the record that it was about. Definitions only.
-- Only the geometry of a fin leaves a doubt (01, "Refusal 7 of a query adds one to `unchecked`"); the way to a fin is the checker's (meaning/specs/Faults.antt), and `Statements.antt` has that there are `unchecked` of them.
use Rattle.std.specs.Prelude.{ℕ, zero, suc, cond, ◌&&◌, List, [], ◌∷◌, ◌++◌, eqb, take, Float}
use Rattle.std.proofs.Math.Option.{Option, none, some}
use Rattle.interval_arithmetic.specs.declared.Sign.{Sign}
use Rattle.interval_arithmetic.specs.declared.Sign.TheVariants.{Negative, Zero, Positive, Unresolved}
use Rattle.geom_lines_planes.specs.Refuse.{◌then◌}
use Rattle.geom_lines_planes.specs.Geometry.{line_point, nearest, effective}
use Rattle.geom_carriers.specs.Queries.{the_line}
use Rattle.geom_queries.specs.Queries.{eval_refusal, project_refusal, distance_refusal}
use Rattle.geom_signs.specs.Signs.{off_curve_s}
use Rattle.meaning.specs.Lists.{run, joined, the}
use Rattle.meaning.specs.Model.{Model, has, body, region, shell, face, loop, fin, edge, vertex, point_of, curve, surface}
use Rattle.meaning.specs.Refuse.{Answer, answered}
use Rattle.meaning.specs.Walks.{edge_vertices, readable_fin}
use Rattle.meaning.specs.Faults.{of_fin, of_edge, of_vertex, Asked, about, projected, sample_at, other_ring, checked_from, CheckOptions, check_refusal}
use Rattle.meaning.specs.Offices.{office_refusal, body_for}
use Rattle.meaning_stops.specs.Stops.{class_of}

-- ---- a doubt

-- "the query (curve, surface, off curve, sample k, ring)"
pub data Query : Type 0 where
  on_curve on_surface off_curve : Query
  sample : ℕ → Query
  ring : Query

-- "the entity": what the query was about, as a fault of it would have it; and the fin whose geometry was checked, which tells the face
pub record Doubt : Type 0 where
  pub query : Query
  pub entity : Asked
  pub fin : ℕ

abbrev pub doubt : Query → Asked → ℕ → Doubt
doubt q a i = record { query = q; entity = a; fin = i }

-- "Refusal 7 of a query adds one to `unchecked`"; another refusal is a fault and ends it; where there is none, what follows
unfoldable pub queried : ℕ → Doubt → List Doubt → List Doubt
queried zero d l = l
queried (suc n) d l = cond (eqb n 6) (d ∷ []) []

-- "Off curve: .. unresolved adds one to `unchecked`"
abbrev pub unresolved : Sign → Doubt → List Doubt
unresolved Negative d = []
unresolved Zero d = []
unresolved Positive d = []
unresolved Unresolved d = d ∷ []

-- ---- the geometry of the fin i, whose edge e is on the curve c, in a face on the surface s

-- the curve test of the vertex v
unfoldable pub curve_doubts : Model → ℕ → ℕ → ℕ → ℕ → List Doubt
curve_doubts m i e c v =
    let p = point_of m v in
    let line = the_line (curve m c) in
    let sign = off_curve_s p (line_point line (nearest line p)) (effective m.version (vertex m v).tolerance m.precision) (effective m.version (edge m e).tolerance m.precision) in
    queried (project_refusal (curve m c) p) (doubt on_curve (about of_edge e) i) (unresolved sign (doubt off_curve (about of_vertex v) i))

-- "Then each end's curve test, then its surface test"; "A missing end vertex is passed over"
unfoldable pub end_doubts : Model → ℕ → ℕ → ℕ → ℕ → ℕ → List Doubt
end_doubts m i e c s v =
    cond (has m.vertices v)
    (curve_doubts m i e c v ++ queried (distance_refusal (surface m s) (point_of m v)) (doubt on_surface (about of_vertex v) i) [])
    []

-- sample k, at the parameter t: its point, then the point's distance
unfoldable pub sample_doubt : Model → ℕ → ℕ → ℕ → ℕ → ℕ → Float → List Doubt
sample_doubt m i e c s k t =
    let d = doubt (sample k) (about of_edge e) i in
    queried (eval_refusal (curve m c) t) d (queried (distance_refusal (surface m s) (line_point (the_line (curve m c)) t)) d [])

-- "then samples, only if both ends exist and projected"
unfoldable pub sample_doubts : Model → ℕ → ℕ → ℕ → ℕ → ℕ → List Doubt
sample_doubts m n i e c s =
    let t0 = nearest (the_line (curve m c)) (point_of m (the (edge m e).start)) in
    let t1 = nearest (the_line (curve m c)) (point_of m (the (edge m e).end)) in
    cond (projected m c (edge m e).start && projected m c (edge m e).end)
    (joined (λ k. sample_doubt m i e c s k (sample_at t0 t1 n k)) (run 1 n))
    []

-- "so does (added) a fin whose edge has neither end and whose curve or surface is 'other'"
unfoldable pub carried_doubts : Model → ℕ → ℕ → ℕ → Option ℕ → Option ℕ → List Doubt
carried_doubts m n i e none s = []
carried_doubts m n i e (some c) none = []
carried_doubts m n i e (some c) (some s) =
    joined (end_doubts m i e c s) (edge_vertices (edge m e)) ++ sample_doubts m n i e c s ++ cond (other_ring m e c s) (doubt ring (about of_fin i) i ∷ []) []

-- with n samples
unfoldable pub fin_doubts : Model → ℕ → ℕ → ℕ → List Doubt
fin_doubts m n f i = cond (readable_fin m i) (carried_doubts m n i (fin m i).edge (edge m (fin m i).edge).curve (face m f).surface) []

-- ---- "in the checker's order": of the regions, shells, faces and loops that are there

unfoldable pub loop_doubts : Model → ℕ → ℕ → ℕ → List Doubt
loop_doubts m n f l = cond (has m.loops l) (joined (fin_doubts m n f) (loop m l).fins) []

-- "A face's .. loops are checked only from its front shell, or from each shell listing it where front is none"
unfoldable pub face_doubts : Model → ℕ → ℕ → ℕ → List Doubt
face_doubts m n s f = cond (has m.faces f && checked_from (face m f).front s) (joined (loop_doubts m n f) (face m f).loops) []

unfoldable pub shell_doubts : Model → ℕ → ℕ → List Doubt
shell_doubts m n s = cond (has m.shells s) (joined (face_doubts m n s) (shell m s).faces) []

unfoldable pub region_doubts : Model → ℕ → ℕ → List Doubt
region_doubts m n r = cond (has m.regions r) (joined (shell_doubts m n) (region m r).shells) []

-- where geometry is checked
unfoldable pub doubts : Model → CheckOptions → ℕ → List Doubt
doubts m o b = cond o.geometry (joined (region_doubts m o.edge_samples) (body m b).regions) []

-- ---- the question: what `check_body` is refused with, or the doubts; "lent and kept as the faults are"

abbrev pub body_doubts : Model → CheckOptions → ℕ → Answer (List Doubt)
body_doubts m o b = answered (check_refusal m o b) (doubts m o b)

-- "the office first"
abbrev pub office_doubts : Model → ℕ → CheckOptions → ℕ → Answer (List Doubt)
office_doubts m o c b = answered (office_refusal o then check_refusal m c (body_for m o b)) (doubts m c (body_for m o b))

abbrev pub kept_doubts : ℕ → List Doubt → List Doubt
kept_doubts n l = take n l

-- a doubt in five words: the query and the sample's number, the class and the id, the fin
abbrev pub query_words : Query → List ℕ
query_words on_curve = 1 ∷ 0 ∷ []
query_words on_surface = 2 ∷ 0 ∷ []
query_words off_curve = 3 ∷ 0 ∷ []
query_words (sample k) = 4 ∷ k ∷ []
query_words ring = 5 ∷ 0 ∷ []

abbrev pub doubt_words : Doubt → List ℕ
doubt_words d = query_words d.query ++ (class_of d.entity.class ∷ d.entity.id ∷ d.fin ∷ [])
