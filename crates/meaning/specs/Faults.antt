-- The report of `check_body`, and fit to saw (gensolid-check, lib.rs; 01, "Faults"). Definitions only.
-- What the checker comes upon is one list of findings, in the source's order; the faults and `unchecked` are read off it.
use Rattle.std.specs.Prelude.{ℕ, zero, suc, ◌-◌, Bool, true, false, not, cond, ◌&&◌, ◌||◌, List, [], ◌∷◌, ◌++◌, eqb, leb, length, get_or, take, Float}
use Rattle.std.proofs.Math.Option.{Option, none, some}
use Rattle.std.specs.Float.Ieee.{lt}
use Rattle.interval_arithmetic.specs.declared.Sign.{Sign}
use Rattle.interval_arithmetic.specs.declared.Sign.TheVariants.{Negative, Zero, Positive, Unresolved}
use Rattle.float_vectors.specs.declared.vector.Point3.{Point3}
use Rattle.float_vectors.specs.Space.{◌+ᶠ◌, ◌-ᶠ◌, ◌*ᶠ◌}
use Rattle.geom_lines_planes.specs.Refuse.{◌unless◌, ◌then◌}
use Rattle.geom_lines_planes.specs.Geometry.{line_point, nearest, plane_distance, effective}
use Rattle.geom_carriers.specs.declared.Carrier.TheVariants as Carriers
use Rattle.geom_carriers.specs.Found.{Found}
use Rattle.std.specs.Prelude.{Some, None}
use Rattle.geom_carriers.specs.Queries.{the_line, the_plane}
use Rattle.geom_queries.specs.Queries.{eval_refusal, project_refusal, distance_refusal}
use Rattle.geom_signs.specs.Signs.{off_curve_s}
use Rattle.meaning.specs.Lists.{run, all, any, member, joined, rotated, listed, the, is_some, is, same}
use Rattle.meaning.specs.Floats.{◌/ᶠ◌, float_of}
use Rattle.meaning.specs.Model.{Model, Sense, positive, negative, has, body, region, shell, face, loop, fin, edge, vertex, point_of, curve, surface}
use Rattle.meaning.specs.Refuse.{Answer, answered}
use Rattle.meaning.specs.Walks.{shells_of, face_walk, edge_walk, edges_refusal, edge_vertices, ends_of, readable_fin}
use Rattle.meaning.specs.Inquire.{is_solid}

-- ---- the reasons' table: "Each reason number has one fixed kind and one entity class, except 25 and 26, whose class is vertex or edge as the query was"

-- entity.rs, `EntityRef`
pub data Class : Type 0 where
  of_body of_region of_shell of_face of_loop of_fin of_edge of_vertex : Class

pub record Reason : Type 0 where
  pub kind : ℕ
  pub class : Option Class

abbrev row : ℕ → Class → Reason
row k c = record { kind = k; class = some c }

abbrev pub reasons : List Reason
reasons =
    row 3 of_body  -- 1 no regions
    ∷ row 3 of_body  -- 2 first region solid
    ∷ row 1 of_body  -- 3 region missing
    ∷ row 2 of_region  -- 4 region points wrongly
    ∷ row 1 of_region  -- 5 shell missing
    ∷ row 2 of_shell  -- 6 shell points wrongly
    ∷ row 1 of_shell  -- 7 face missing
    ∷ row 2 of_face  -- 8 face points wrongly
    ∷ row 8 of_face  -- 9 face has no surface
    ∷ row 1 of_face  -- 10 loop missing
    ∷ row 2 of_loop  -- 11 loop points wrongly
    ∷ row 4 of_loop  -- 12 empty loop
    ∷ row 1 of_loop  -- 13 fin missing
    ∷ row 2 of_fin  -- 14 fin points wrongly
    ∷ row 1 of_fin  -- 15 edge missing
    ∷ row 2 of_edge  -- 16 edge lacks fin
    ∷ row 1 of_edge  -- 17 vertex missing
    ∷ row 5 of_fin  -- 18 open loop
    ∷ row 6 of_edge  -- 19 fins not two
    ∷ row 7 of_edge  -- 20 equal senses
    ∷ row 8 of_edge  -- 21 edge has no curve
    ∷ row 9 of_vertex  -- 22 vertex off curve
    ∷ row 10 of_vertex  -- 23 vertex off surface
    ∷ row 11 of_edge  -- 24 edge off surface
    ∷ record { kind = 1; class = none }  -- 25 geometry missing
    ∷ record { kind = 8; class = none }  -- 26 other geometry failure
    ∷ []

abbrev pub reason_row : ℕ → Reason
reason_row n = get_or reasons (n - 1) (record { kind = 0; class = none })

-- ---- findings

-- "A fault is kind, entity class, id, reason"
pub record Fault : Type 0 where
  pub kind : ℕ
  pub class : Class
  pub id : ℕ
  pub reason : ℕ

-- a fault, or a check that could not be made
pub data Finding : Type 0 where
  found : Fault → Finding
  skipped : Finding

-- what a query is about
pub record Asked : Type 0 where
  pub class : Class
  pub id : ℕ

abbrev pub about : Class → ℕ → Asked
about c i = record { class = c; id = i }

-- the table's class, and for 25 and 26 that of what was asked about
abbrev pub class_or : Option Class → Class → Class
class_or none asked = asked
class_or (some c) asked = c

unfoldable pub fault_on : ℕ → Asked → Finding
fault_on n a = found (record { kind = (reason_row n).kind; class = class_or (reason_row n).class a.class; id = a.id; reason = n })

-- reason n, at the entity i of the class that its row has; not for 25 and 26, whose rows have none
abbrev pub fault : ℕ → ℕ → Finding
fault n i = fault_on n (about (class_or (reason_row n).class of_body) i)

-- a finding where the test holds
abbrev pub only_if : Bool → Finding → List Finding
only_if true f = f ∷ []
only_if false f = []

-- ---- geometry

-- `geometry_error`: 7 is a check not made, 2 is reason 25, any other refusal is reason 26. Where there is none, what follows
unfoldable pub geometry_error : Asked → ℕ → List Finding → List Finding
geometry_error a zero l = l
geometry_error a (suc n) l = cond (eqb n 6) (skipped ∷ []) (cond (eqb n 1) (fault_on 25 a ∷ []) (fault_on 26 a ∷ []))

-- "Off curve: .. positive is a fault, unresolved adds one to `unchecked`, else it passes"
abbrev pub off_curve : Sign → ℕ → List Finding
off_curve Negative v = []
off_curve Zero v = []
off_curve Positive v = fault 22 v ∷ []
off_curve Unresolved v = skipped ∷ []

-- the curve test of the vertex v of the edge e on the curve c. The query is about the edge
unfoldable pub curve_test : Model → ℕ → ℕ → ℕ → List Finding
curve_test m e c v =
    let p = point_of m v in
    let line = the_line (curve m c) in
    let sign = off_curve_s p (line_point line (nearest line p)) (effective m.version (vertex m v).tolerance m.precision) (effective m.version (edge m e).tolerance m.precision) in
    geometry_error (about of_edge e) (project_refusal (curve m c) p) (off_curve sign v)

-- `point_on_surface`: reason n where "the float size of normal·(p - origin) is above the tolerance"
unfoldable pub point_on_surface : Model → ℕ → Point3 → Float → ℕ → Asked → List Finding
point_on_surface m s p tolerance n a =
    let off = only_if (lt tolerance (plane_distance (the_plane (surface m s)) p)) (fault_on n a) in
    geometry_error a (distance_refusal (surface m s) p) off

-- "Then each end's curve test, then its surface test"; "A missing end vertex is passed over"
unfoldable pub end_tests : Model → ℕ → ℕ → ℕ → ℕ → List Finding
end_tests m e c s v =
    cond (has m.vertices v)
    (curve_test m e c v ++ point_on_surface m s (point_of m v) (effective m.version (vertex m v).tolerance m.precision) 23 (about of_vertex v))
    []

-- "An end has projected unless its curve query gave 25, 26 or refusal 7"
abbrev pub projected : Model → ℕ → Option ℕ → Bool
projected m c none = false
projected m c (some v) = has m.vertices v && eqb (project_refusal (curve m c) (point_of m v)) 0

-- "Sample k of n is t0 + ((t1 - t0)·k)/(n + 1)"
unfoldable pub sample_at : Float → Float → ℕ → ℕ → Float
sample_at t0 t1 n k = t0 +ᶠ (t1 -ᶠ t0) *ᶠ float_of k /ᶠ float_of (suc n)

unfoldable pub sample_test : Model → ℕ → ℕ → ℕ → Float → List Finding
sample_test m e c s t =
    let on = point_on_surface m s (line_point (the_line (curve m c)) t) (effective m.version (edge m e).tolerance m.precision) 24 (about of_edge e) in
    geometry_error (about of_edge e) (eval_refusal (curve m c) t) on

-- "then samples, only if both ends exist and projected"
unfoldable pub sample_tests : Model → ℕ → ℕ → ℕ → ℕ → List Finding
sample_tests m n e c s =
    let t0 = nearest (the_line (curve m c)) (point_of m (the (edge m e).start)) in
    let t1 = nearest (the_line (curve m c)) (point_of m (the (edge m e).end)) in
    cond (projected m c (edge m e).start && projected m c (edge m e).end)
    (joined (λ k. sample_test m e c s (sample_at t0 t1 n k)) (run 1 n))
    []

-- "so does (added) a fin whose edge has neither end and whose curve or surface is 'other'". To this rule a curve that is there and no line is "other",
-- and so is a surface that is there and no plane, since a measurement in doubt counts as unchecked, never as sound (docs/DECISIONS.md, row 11)
abbrev pub no_line : Found → Bool
no_line None = false
no_line (Some (Carriers.Line l)) = false
no_line (Some (Carriers.Plane s)) = true
no_line (Some Carriers.Other) = true

abbrev pub no_plane : Found → Bool
no_plane None = false
no_plane (Some (Carriers.Line l)) = true
no_plane (Some (Carriers.Plane s)) = false
no_plane (Some Carriers.Other) = true

abbrev pub other_ring : Model → ℕ → ℕ → ℕ → Bool
other_ring m e c s =
    not (is_some (edge m e).start) && not (is_some (edge m e).end) && (no_line (curve m c) || no_plane (surface m s))

-- "an edge with no curve gives 21, a face with no surface gives nothing, and either ends that fin"
unfoldable pub carried : Model → ℕ → ℕ → Option ℕ → Option ℕ → List Finding
carried m n e none s = fault 21 e ∷ []
carried m n e (some c) none = []
carried m n e (some c) (some s) =
    joined (end_tests m e c s) (edge_vertices (edge m e)) ++ sample_tests m n e c s ++ only_if (other_ring m e c s) skipped

-- `fin_geometry`: "Geometry, fin by fin", with n samples
unfoldable pub fin_geometry : Model → ℕ → ℕ → ℕ → List Finding
fin_geometry m n f i =
    cond (readable_fin m i) (carried m n (fin m i).edge (edge m (fin m i).edge).curve (face m f).surface) []

-- ---- topology: "A missing record is put on the parent that names it"

-- whether geometry is checked, and with how many samples to an edge
pub record CheckOptions : Type 0 where
  pub geometry : Bool
  pub edge_samples : ℕ

-- `fin`: the loop l lists the fin i
unfoldable pub fin_findings : Model → ℕ → ℕ → List Finding
fin_findings m l i =
    let e = (fin m i).edge in
    cond (has m.fins i)
    (only_if (not (eqb (fin m i).owner l)) (fault 14 i)
    ++ cond (has m.edges e)
    (only_if (not (member i (edge m e).fins)) (fault 16 e)
    ++ joined (λ v. only_if (not (has m.vertices v)) (fault 17 e)) (edge_vertices (edge m e)))
    (fault 15 i ∷ []))
    (fault 13 l ∷ [])

-- "None against none passes; none against a vertex is a fault"
abbrev pub meets_next : Model → ℕ → ℕ → Bool
meets_next m i next = same (ends_of m i).end (ends_of m next).start

-- "an unreadable fin makes no comparison"
abbrev pub open_at : Model → ℕ → ℕ → List Finding
open_at m i next = only_if (readable_fin m i && readable_fin m next && not (meets_next m i next)) (fault 18 i)

-- each fin of the first list against its neighbour in the second
unfoldable pub opens : Model → List ℕ → List ℕ → List Finding
opens m [] l = []
opens m (i ∷ k) [] = []
opens m (i ∷ k) (next ∷ l) = open_at m i next ++ opens m k l

-- "Open loop compares an end with the next start, the last fin with the first"
abbrev pub open_findings : Model → List ℕ → List Finding
open_findings m fins = opens m fins (rotated fins)

-- `loop_`: the face f lists the loop l
unfoldable pub loop_findings : Model → CheckOptions → ℕ → ℕ → List Finding
loop_findings m o f l =
    let fins = (loop m l).fins in
    cond (has m.loops l)
    (only_if (not (eqb (loop m l).face f)) (fault 11 l)
    ++ cond (eqb (length fins) 0)
    (fault 12 l ∷ [])
    (joined (fin_findings m l) fins
    ++ open_findings m fins
    ++ cond o.geometry (joined (fin_geometry m o.edge_samples f) fins) []))
    (fault 10 f ∷ [])

-- "A face's surface and loops are checked only from its front shell, or from each shell listing it where front is none"
abbrev pub checked_from : Option ℕ → ℕ → Bool
checked_from none s = true
checked_from (some front) s = eqb front s

-- `face`: the shell s lists the face f
unfoldable pub face_findings : Model → CheckOptions → ℕ → ℕ → List Finding
face_findings m o s f =
    cond (has m.faces f)
    (only_if (not (is (face m f).front s || is (face m f).back s)) (fault 8 f)
    ++ cond (checked_from (face m f).front s)
    (only_if (not (is_some (face m f).surface)) (fault 9 f) ++ joined (loop_findings m o f) (face m f).loops)
    [])
    (fault 7 s ∷ [])

-- `shell`: the region r lists the shell s
unfoldable pub shell_findings : Model → CheckOptions → ℕ → ℕ → List Finding
shell_findings m o r s =
    cond (has m.shells s)
    (only_if (not (eqb (shell m s).region r)) (fault 6 s) ++ joined (face_findings m o s) (shell m s).faces)
    (fault 5 r ∷ [])

-- `region`: the body b lists the region r
unfoldable pub region_findings : Model → CheckOptions → ℕ → ℕ → List Finding
region_findings m o b r =
    cond (has m.regions r)
    (only_if (not (eqb (region m r).body b)) (fault 4 r) ++ joined (shell_findings m o r) (region m r).shells)
    (fault 3 b ∷ [])

-- "1 no regions, 2 first region solid"
abbrev pub layout : Model → ℕ → List ℕ → List Finding
layout m b [] = fault 1 b ∷ []
layout m b (r ∷ l) = only_if (has m.regions r && (region m r).solid) (fault 2 b)

abbrev pub same_sense : Sense → Sense → Bool
same_sense positive positive = true
same_sense positive negative = false
same_sense negative positive = false
same_sense negative negative = true

-- by the edge's fins: "Senses are compared only when both fins exist"
unfoldable pub manifold : Model → ℕ → List ℕ → List Finding
manifold m e [] = fault 19 e ∷ []
manifold m e (i ∷ []) = fault 19 e ∷ []
manifold m e (i ∷ j ∷ []) = only_if (has m.fins i && has m.fins j && same_sense (fin m i).sense (fin m j).sense) (fault 20 e)
manifold m e (i ∷ j ∷ k ∷ l) = fault 19 e ∷ []

-- `manifold_edge`
unfoldable pub manifold_edge : Model → ℕ → List Finding
manifold_edge m e = cond (has m.edges e) (manifold m e (edge m e).fins) []

-- "If `body_edges` of a solid fails, no manifold edge is checked"
unfoldable pub manifold_edges : Model → ℕ → List Finding
manifold_edges m b = cond (is_solid (body m b).kind && eqb (edges_refusal m b) 0) (joined (manifold_edge m) (edge_walk m b)) []

-- `body`: "region layout, regions, shells, faces, loops, then manifold edges of a solid"
unfoldable pub findings : Model → CheckOptions → ℕ → List Finding
findings m o b = layout m b (body m b).regions ++ joined (region_findings m o b) (body m b).regions ++ manifold_edges m b

-- ---- the report

unfoldable pub faults_of : List Finding → List Fault
faults_of [] = []
faults_of (found f ∷ l) = f ∷ faults_of l
faults_of (skipped ∷ l) = faults_of l

unfoldable pub skipped_of : List Finding → ℕ
skipped_of [] = 0
skipped_of (found f ∷ l) = skipped_of l
skipped_of (skipped ∷ l) = suc (skipped_of l)

pub record Report : Type 0 where
  pub faults : List Fault
  pub unchecked : ℕ

unfoldable pub report_of : List Finding → Report
report_of l = record { faults = faults_of l; unchecked = skipped_of l }

-- 01, "`check_body` gives 1 (samples), then 2"; "samples above 255"
unfoldable pub check_refusal : Model → CheckOptions → ℕ → ℕ
check_refusal m o b = 1 unless leb o.edge_samples 255 then 2 unless has m.bodies b

abbrev pub check_body : Model → CheckOptions → ℕ → Answer Report
check_body m o b = answered (check_refusal m o b) (report_of (findings m o b))

-- "as many of the first as fit": the entries that a lent list of n keeps
abbrev pub kept : ℕ → Report → List Fault
kept n r = take n r.faults

-- "the report gives the full number of faults, how many were kept (..), and `unchecked`"
pub record Counts : Type 0 where
  pub faults : ℕ
  pub kept : ℕ
  pub unchecked : ℕ

abbrev pub counts : ℕ → Report → Counts
counts n r = record { faults = length r.faults; kept = length (kept n r); unchecked = r.unchecked }

-- ---- "Fit to saw (added): geometry on, three samples, no fault, `unchecked` 0"

abbrev pub sawing : CheckOptions
sawing = record { geometry = true; edge_samples = 3 }

-- `is_valid`
abbrev pub is_valid : Report → Bool
is_valid r = eqb (length r.faults) 0 && eqb r.unchecked 0

-- W-203, "Fit to saw must also mean that the body is solid, that some solid region has a face, and that every shell named by a face of the body is one of that
-- body's shells and lists the face". First "some solid region has a face": one of the shells that it lists lists a face
abbrev pub has_face : Model → ℕ → Bool
has_face m s = not (eqb (length (shell m s).faces) 0)

unfoldable pub solid_face : Model → ℕ → Bool
solid_face m b = any (λ r. (region m r).solid && any (has_face m) (region m r).shells) (body m b).regions

-- the shell s "is one of that body's shells and lists the face" f. A shell that is missing is none of the body's
abbrev pub own_shell : Model → ℕ → ℕ → ℕ → Bool
own_shell m b f s = has m.shells s && member s (shells_of m b) && member f (shell m s).faces

-- "every shell named by a face": its front and its back
unfoldable pub own_shells : Model → ℕ → ℕ → Bool
own_shells m b f = all (own_shell m b f) (listed (face m f).front ++ listed (face m f).back)

unfoldable pub whole_solid : Model → ℕ → Bool
whole_solid m b = is_solid (body m b).kind && solid_face m b && all (own_shells m b) (face_walk m b)

unfoldable pub sawable : Model → ℕ → Bool
sawable m b = is_valid (report_of (findings m sawing b)) && whole_solid m b

abbrev pub fit_to_saw : Model → ℕ → Answer Bool
fit_to_saw m b = answered (check_refusal m sawing b) (sawable m b)
