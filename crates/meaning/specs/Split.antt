-- `edge_parameter_bounds` and `split_line_edge` (euler.rs; 01, "Splitting: order of tests"). Definitions only.
use Rattle.std.specs.Prelude.{ℕ, zero, suc, ◌+◌, Bool, true, false, cond, ◌&&◌, List, [], ◌∷◌, eqb, leb, length, get_or, Float}
use Rattle.std.proofs.Math.Option.{some}
use Rattle.std.specs.Float.Ieee.{lt}
use Rattle.std.specs.Float.Ieee.Scale.{finite}
use Rattle.interval_arithmetic.specs.declared.Sign.{Sign}
use Rattle.interval_arithmetic.specs.declared.Sign.TheVariants.{Negative, Zero, Positive, Unresolved}
use Rattle.interval_arithmetic.specs.Ops.{zero_f}
use Rattle.float_vectors.specs.declared.vector.Point3.{Point3}
use Rattle.float_vectors.specs.Space.{◌+ᶠ◌, ◌-ᶠ◌, ◌*ᶠ◌, finite_point}
use Rattle.geom_lines_planes.specs.declared.curve.Line.{Line}
use Rattle.geom_lines_planes.specs.declared.surface.Plane.{Plane}
use Rattle.geom_lines_planes.specs.Refuse.{◌unless◌, ◌then◌}
use Rattle.geom_lines_planes.specs.Geometry.{line_point, nearest, effective}
use Rattle.geom_carriers.specs.Queries.{line_refusal, plane_refusal, the_line, the_plane}
use Rattle.geom_signs.specs.Signs.{increasing_s, span_s, apart_s, off_plane_s}
use Rattle.meaning.specs.Lists.{run, all, all_below, member, count, count_if, place, joined, the, is_some}
use Rattle.meaning.specs.Floats.{float_of}
use Rattle.meaning.specs.Model.{Model, Limits, Sense, positive, negative, Shell, Loop, Fin, Edge, has, extended, changed, shell, face, loop, fin, edge, point_of, curve, surface}
use Rattle.meaning.specs.Refuse.{Answer, answered, first_of, first_refusal, ◌if◌}

abbrev pub is_positive : Sign → Bool
is_positive Negative = false
is_positive Zero = false
is_positive Positive = true
is_positive Unresolved = false

-- ---- what the tests speak of

-- the edge's line, start and end (`carrier`)
abbrev pub carrier : Model → ℕ → Line
carrier m e = the_line (curve m (the (edge m e).curve))

abbrev pub start_point : Model → ℕ → Point3
start_point m e = point_of m (the (edge m e).start)

abbrev pub end_point : Model → ℕ → Point3
end_point m e = point_of m (the (edge m e).end)

-- the parameters of the ends on the line
unfoldable pub lo : Model → ℕ → Float
lo m e = nearest (carrier m e) (start_point m e)

unfoldable pub hi : Model → ℕ → Float
hi m e = nearest (carrier m e) (end_point m e)

-- "The parameter is lo + (hi - lo)·fraction"
unfoldable pub parameter : Model → ℕ → Float → Float
parameter m e t = lo m e +ᶠ (hi m e -ᶠ lo m e) *ᶠ t

unfoldable pub split_point : Model → ℕ → Float → Point3
split_point m e t = line_point (carrier m e) (parameter m e t)

-- ---- the tests, by 01's numbers

-- 1. "Fraction not finite, ≤ 0 or ≥ 1: 1"
abbrev pub test1 : Float → ℕ
test1 t = 1 unless finite t && lt zero_f t && lt t (float_of 1)

-- 2. "Edge missing: 2"
abbrev pub test2 : Model → ℕ → ℕ
test2 m e = 2 unless has m.edges e

-- 3. "Per listed fin: missing 2, pcurve mark 7"
abbrev pub test3 : Model → ℕ → ℕ
test3 m e = first_of (λ i. 2 unless has m.fins i then 7 if (fin m i).pcurve) (edge m e).fins

-- 4. "An end is none: 7"
abbrev pub test4 : Model → ℕ → ℕ
test4 m e = 7 unless is_some (edge m e).start && is_some (edge m e).end

-- 5. "No curve: 1; curve missing: 2; not a line: 7"
abbrev pub test5 : Model → ℕ → ℕ
test5 m e = 1 unless is_some (edge m e).curve then line_refusal (curve m (the (edge m e).curve))

-- 6. "Start, then end vertex missing: 2"
abbrev pub test6 : Model → ℕ → ℕ
test6 m e = 2 unless has m.vertices (the (edge m e).start) then 2 unless has m.vertices (the (edge m e).end)

-- 7. "Interval of direction·(end - start) not positive: 4"
unfoldable pub test7 : Model → ℕ → ℕ
test7 m e = 4 unless is_positive (increasing_s (carrier m e).direction (start_point m e) (end_point m e))

-- 8. "lo or hi not finite, or interval hi - lo not positive: 7"
unfoldable pub test8 : Model → ℕ → ℕ
test8 m e = 7 unless finite (lo m e) && finite (hi m e) && is_positive (span_s (lo m e) (hi m e))

-- 9. "Split point not finite: 4"
unfoldable pub test9 : Model → ℕ → Float → ℕ
test9 m e t = 4 unless finite_point (split_point m e t)

-- 10. "Against start, then end: squared distance (a dot product) less squared precision not positive as an interval: 4"
abbrev pub apart : Model → Point3 → Point3 → Bool
apart m p q = is_positive (apart_s p q m.precision)

unfoldable pub test10 : Model → ℕ → Float → ℕ
test10 m e t = 4 unless apart m (split_point m e t) (start_point m e) then 4 unless apart m (split_point m e t) (end_point m e)

-- 11. "squared plane distance less squared edge tolerance: positive 1, unresolved 7"
abbrev pub within : Sign → ℕ
within Negative = 0
within Zero = 0
within Positive = 1
within Unresolved = 7

unfoldable pub on_plane : Model → ℕ → Plane → Float → ℕ
on_plane m e s u = within (off_plane_s s (line_point (carrier m e) u) (effective m.version (edge m e).tolerance m.precision))

-- 11. one fin: "points to another edge 1; loop missing 2; not exactly once in its loop 1; face missing 2; no surface 1; surface missing 2;
-- not a plane 7; then at lo, hi and the split parameter, .."
unfoldable pub test11-fin : Model → ℕ → Float → ℕ → ℕ
test11-fin m e t i =
    let l = (fin m i).owner in
    let s = (face m (loop m l).face).surface in
    1 unless eqb (fin m i).edge e
    then 2 unless has m.loops l
    then 1 unless eqb (count i (loop m l).fins) 1
    then 2 unless has m.faces (loop m l).face
    then 1 unless is_some s
    then plane_refusal (surface m (the s))
    then on_plane m e (the_plane (surface m (the s))) (lo m e)
    then on_plane m e (the_plane (surface m (the s))) (hi m e)
    then on_plane m e (the_plane (surface m (the s))) (parameter m e t)

-- 11. "Per fin: repeated 1; ..": it stands among those before it
unfoldable pub test11-fins : Model → ℕ → Float → List ℕ → List ℕ → ℕ
test11-fins m e t seen [] = 0
test11-fins m e t seen (i ∷ l) =
    let rest = test11-fins m e t (i ∷ seen) l in
    1 if member i seen then test11-fin m e t i then rest

abbrev pub test11 : Model → ℕ → Float → ℕ
test11 m e t = test11-fins m e t [] (edge m e).fins

-- 12. "A wire shell lists the edge more than once: 1" (`wire_shells`: any shell of the table)
unfoldable pub test12 : Model → ℕ → ℕ
test12 m e = 1 unless all_below (λ s. leb (count e (shell m s).wire_edges) 1) m.shells.used

-- 13. "No slot in any table or list concerned: 8, new fins in one loop counted together"
abbrev pub tables_fit : Limits → Model → ℕ → Bool
tables_fit x m e =
    leb (m.fins.used + length (edge m e).fins) x.fins && leb (m.edges.used + 1) x.edges && leb (m.vertices.used + 1) x.vertices

-- the new edge lists as many fins as the old one
abbrev pub edge_fits : Limits → Model → ℕ → Bool
edge_fits x m e = leb (length (edge m e).fins) x.edge_fins

-- a loop gains as many fins as the edge has in it
abbrev pub gain : Model → ℕ → ℕ → ℕ
gain m e l = count_if (λ i. eqb (fin m i).owner l) (edge m e).fins

abbrev pub loops_fit : Limits → Model → ℕ → Bool
loops_fit x m e = all (λ i. leb (length (loop m (fin m i).owner).fins + gain m e (fin m i).owner) x.loop_fins) (edge m e).fins

-- a shell gains a wire edge where it lists the edge
abbrev pub shells_fit : Limits → Model → ℕ → Bool
shells_fit x m e = all_below (λ s. leb (length (shell m s).wire_edges + count e (shell m s).wire_edges) x.shell_wire_edges) m.shells.used

unfoldable pub test13 : Limits → Model → ℕ → ℕ
test13 x m e = 8 unless tables_fit x m e && edge_fits x m e && loops_fit x m e && shells_fit x m e

-- ---- "`edge_parameter_bounds` makes tests 2 and 4 to 8 alone"

pub record ParamRange : Type 0 where
  pub lo : Float
  pub hi : Float

unfoldable pub bounds_refusal : Model → ℕ → ℕ
bounds_refusal m e = first_refusal (test2 m e ∷ test4 m e ∷ test5 m e ∷ test6 m e ∷ test7 m e ∷ test8 m e ∷ [])

abbrev pub edge_parameter_bounds : Model → ℕ → Answer ParamRange
edge_parameter_bounds m e = answered (bounds_refusal m e) (record { lo = lo m e; hi = hi m e })

-- ---- `split_line_edge`

abbrev pub split_tests : Limits → Model → ℕ → Float → List ℕ
split_tests x m e t =
    test1 t
    ∷ test2 m e
    ∷ test3 m e
    ∷ test4 m e
    ∷ test5 m e
    ∷ test6 m e
    ∷ test7 m e
    ∷ test8 m e
    ∷ test9 m e t
    ∷ test10 m e t
    ∷ test11 m e t
    ∷ test12 m e
    ∷ test13 x m e
    ∷ []

unfoldable pub split_refusal : Limits → Model → ℕ → Float → ℕ
split_refusal x m e t = first_refusal (split_tests x m e t)

pub record EdgeSplit : Type 0 where
  pub original_edge : ℕ
  pub new_edge : ℕ
  pub vertex : ℕ

abbrev pub split_line_edge : Limits → Model → ℕ → Float → Answer EdgeSplit
split_line_edge x m e t =
    answered (split_refusal x m e t) (record { original_edge = e; new_edge = m.edges.used; vertex = m.vertices.used })

-- ---- the model after an accepted split of the edge e: the new edge is `m.edges.used`, the new vertex `m.vertices.used`

-- "new fins are made in the old edge's fin order": the new fin of the fin i
abbrev pub new_fin : Model → ℕ → ℕ → ℕ
new_fin m e i = m.fins.used + place i (edge m e).fins

-- "A new fin stands after a positive old fin, before a negative one"
abbrev pub beside : Sense → ℕ → ℕ → List ℕ
beside positive old new = old ∷ new ∷ []
beside negative old new = new ∷ old ∷ []

-- what stands for an entry of the loop l: itself, and where it is a fin of the edge, its new fin too
abbrev pub with_new : Model → ℕ → ℕ → ℕ → List ℕ
with_new m e l i =
    cond (member i (edge m e).fins && eqb (fin m i).owner l) (beside (fin m i).sense i (new_fin m e i)) (i ∷ [])

abbrev pub split_loop : Model → ℕ → ℕ → Loop → Loop
split_loop m e l r = record { face = r.face; fins = joined (with_new m e l) r.fins }

-- "A new wire edge stands after the old one"
abbrev pub split_shell : Model → ℕ → ℕ → Shell → Shell
split_shell m e s r =
    record {
      region = r.region;
      faces = r.faces;
      wire_edges = joined (λ x. cond (eqb x e) (e ∷ m.edges.used ∷ []) (x ∷ [])) r.wire_edges;
      acorn_vertices = r.acorn_vertices;
    }

-- "The old edge keeps the start, the new one the end, curve and tolerance"
abbrev pub first_half : Model → Edge → Edge
first_half m old =
    record {
      fins = old.fins;
      start = old.start;
      end = some m.vertices.used;
      curve = old.curve;
      tolerance = old.tolerance;
    }

abbrev pub second_half : Model → Edge → Edge
second_half m old =
    record {
      fins = run m.fins.used (length old.fins);
      start = some m.vertices.used;
      end = old.end;
      curve = old.curve;
      tolerance = old.tolerance;
    }

-- a new fin has the owner and the sense of the old one, and no pcurve
abbrev pub fin_copy : Model → ℕ → Fin
fin_copy m i = record { owner = (fin m i).owner; edge = m.edges.used; sense = (fin m i).sense; pcurve = false }

-- "The new vertex takes the edge's own tolerance"
unfoldable pub after_split : Model → ℕ → Float → Model
after_split m e t =
    let old = edge m e in
    record {
      version = m.version;
      precision = m.precision;
      bodies = m.bodies;
      regions = m.regions;
      shells = changed m.shells (split_shell m e);
      faces = m.faces;
      loops = changed m.loops (split_loop m e);
      fins = extended m.fins (length old.fins) (λ k. fin_copy m (get_or old.fins k 0));
      edges = extended (changed m.edges (λ i r. cond (eqb i e) (first_half m r) r)) 1 (λ k. second_half m old);
      vertices = extended m.vertices 1 (λ k. record { point = split_point m e t; tolerance = old.tolerance });
      curves = m.curves;
      surfaces = m.surfaces;
    }

-- 01, "A refusal .. alters no table, list or fault entry"
abbrev pub where_accepted : ℕ → Model → Model → Model
where_accepted zero before after = after
where_accepted (suc n) before after = before

-- the model behind the call
unfoldable pub model_after : Limits → Model → ℕ → Float → Model
model_after x m e t = where_accepted (split_refusal x m e t) m (after_split m e t)

-- a sequence of splits, refused or not, each asked of the model that the one before it left
pub record Cut : Type 0 where
  pub edge : ℕ
  pub fraction : Float

unfoldable pub after_all : Limits → Model → List Cut → Model
after_all x m [] = m
after_all x m (c ∷ l) = after_all x (model_after x m c.edge c.fraction) l
