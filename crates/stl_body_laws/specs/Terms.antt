-- What is said of a body that was read (W-210, whose words are quoted): what a closed surface is, what the checker has to find, what it is to set surfaces and curves,
-- and what is stored of a triangle. Definitions only.
use Rattle.std.specs.Prelude.{ℕ, suc, ◌+◌, Bool, true, false, not, cond, ◌&&◌, List, [], ◌∷◌, ◌++◌, map, eqb, length, get_or, Float}
use Rattle.std.proofs.Math.Option.{Option}
use Rattle.std.specs.Float.{nan, inf, fin}
use Rattle.float_vectors.specs.declared.vector.Point3.{Point3}
use Rattle.geom_carriers.specs.declared.Carrier.{Carrier}
use Rattle.meaning.specs.Lists.{run, all, joined, is_some}
use Rattle.meaning.specs.Model.{Model, Table, Face, Edge, changed, body, region, shell, face}
use Rattle.meaning.specs.Faults.{Finding, found, skipped, fault, only_if}
use Rattle.stl_format.specs.Stl.{Triangle}
use Rattle.stl_body.specs.Read.{which_of, same_point, Step, step, same_step, Mesh, nowhere}
use Rattle.stl_body.specs.Laws.{holds}

-- ---- a closed surface

-- the same pair the other way
abbrev pub turned : Step → Step
turned s = step s.to s.from

-- how often a step is taken
unfoldable pub taken : Step → List Step → ℕ
taken s [] = 0
taken s (r ∷ l) = let n = taken s l in cond (same_step s r) (suc n) n

-- "once in each direction"
unfoldable pub both_ways : List Step → Step → Bool
both_ways l s = eqb (taken s l) 1 && eqb (taken (turned s) l) 1

-- "a closed surface": every unordered pair of vertices that is used is used twice, once in each direction
unfoldable pub closed_surface : Mesh → Bool
closed_surface t = holds (both_ways t.steps) t.steps

-- ---- its topological report

-- of the edge e that is taken so often upwards and so often downwards: "An edge used once or thrice" is reason 19, two uses in one direction are reason 20
unfoldable pub shown_by : ℕ → ℕ → ℕ → List Finding
shown_by e up down = cond (eqb (up + down) 2) (only_if (not (eqb up 1)) (fault 20 e)) (fault 19 e ∷ [])

-- of the k-th edge met
unfoldable pub edge_shown : Model → Mesh → ℕ → List Finding
edge_shown m t k = let s = get_or t.edges k (step 0 0) in shown_by (m.edges.used + k) (taken s t.steps) (taken (turned s) t.steps)

unfoldable pub edges_shown : Model → Mesh → List Finding
edges_shown m t = joined (edge_shown m t) (run 0 (length t.edges))

-- "There are no surfaces or curves yet": reason 9 for each face; then what the edges' uses show, in the order met
unfoldable pub read_report : Model → Mesh → List Finding
read_report m t = map (fault 9) (run m.faces.used t.triangles) ++ edges_shown m t

-- ---- surfaces and curves set, and nothing else

abbrev pub on_surface : Option ℕ → Face → Face
on_surface s f = record { front = f.front; back = f.back; loops = f.loops; surface = s; sense = f.sense }

abbrev pub on_curve : Option ℕ → Edge → Edge
on_curve c e = record { fins = e.fins; start = e.start; end = e.end; curve = c; tolerance = e.tolerance }

-- each face and each edge with what the two functions give it, in any two tables of carriers
unfoldable pub dressed : Model → Table Carrier → Table Carrier → (ℕ → Option ℕ) → (ℕ → Option ℕ) → Model
dressed m curves surfaces along on =
    record {
      version = m.version;
      precision = m.precision;
      bodies = m.bodies;
      regions = m.regions;
      shells = m.shells;
      faces = changed m.faces (λ i. on_surface (on i));
      loops = m.loops;
      fins = m.fins;
      edges = changed m.edges (λ i. on_curve (along i));
      vertices = m.vertices;
      curves = curves;
      surfaces = surfaces;
    }

-- every face that the body's shells list has a surface
unfoldable pub surfaced : Model → ℕ → Bool
surfaced m b = all (λ r. all (λ s. all (λ f. is_some (face m f).surface) (shell m s).faces) (region m r).shells) (body m b).regions

-- a face without a surface
abbrev pub is_nine : Finding → Bool
is_nine (found f) = eqb f.reason 9
is_nine skipped = false

unfoldable pub without_nine : List Finding → List Finding
without_nine [] = []
without_nine (f ∷ l) = let rest = without_nine l in cond (is_nine f) rest (f ∷ rest)

-- ---- the triangles that are stored: "equal coordinates one vertex", "the first met is stored"

unfoldable pub stored_point : List Point3 → Point3 → Point3
stored_point points p = get_or points (which_of same_point p points) nowhere

unfoldable pub stored_triangle : List Point3 → Triangle → Triangle
stored_triangle points t = record { a = stored_point points t.a; b = stored_point points t.b; c = stored_point points t.c }

-- corner by corner equal, both zeros counting as equal
unfoldable pub same_triangles : List Triangle → List Triangle → Bool
same_triangles [] [] = true
same_triangles [] (u ∷ l) = false
same_triangles (t ∷ k) [] = false
same_triangles (t ∷ k) (u ∷ l) = same_point t.a u.a && same_point t.b u.b && same_point t.c u.c && same_triangles k l

-- no coordinate is the zero below zero
unfoldable pub minus_zero : Float → Bool
minus_zero nan = false
minus_zero (inf s) = false
minus_zero (fin s m e) = s && eqb m 0

unfoldable pub plain_point : Point3 → Bool
plain_point p = not (minus_zero p.x) && not (minus_zero p.y) && not (minus_zero p.z)
