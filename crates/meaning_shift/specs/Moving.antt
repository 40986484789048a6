-- Moving a stone (W-214, whose words are quoted): what the request takes, and the model behind the move. Definitions only.
use Rattle.std.specs.Prelude.{ℕ, ◌<◌, ◌≡◌, Bool, true, false, not, cond, ◌&&◌, List, eqb, leb, length}
use Rattle.std.proofs.Math.Option.{Option, none, some}
use Rattle.float_vectors.specs.declared.vector.Point3.{Point3}
use Rattle.float_vectors.specs.Space.{◌+ᶠ◌}
use Rattle.meaning.specs.Lists.{all, member, count_if, is_some}
use Rattle.meaning.specs.Model.{Model, Limits, changed, body, region, shell, face, loop, fin, edge, point_of}
use Rattle.meaning.specs.Walks.{face_walk, edge_walk, vertex_walk}
use Rattle.meaning.specs.Inquire.{is_solid, rim}
use Rattle.meaning.specs.Formed.{WellFormed, empty_report, topological_report}
use Rattle.meaning_sheets.specs.Sheets.{Corner, corner, grid_point}
use Rattle.meaning_shift.specs.Corners.{plus_c}

-- ---- "take a well-formed model, a solid body with .."

-- it is one of these shells
abbrev pub one_of : Option ℕ → List ℕ → Bool
one_of none l = false
one_of (some s) l = member s l

-- it is "a shell of a region that isn't solid": of the region that it names, which in a well-formed model is the one that lists it
abbrev pub outside : Model → Option ℕ → Bool
outside m none = false
outside m (some s) = not (region m (shell m s).region).solid

-- "every face with one loop of three fins or more"
abbrev pub one_loop_each : Model → ℕ → Bool
one_loop_each m b = all (λ f. eqb (length (face m f).loops) 1 && leb 3 (length (rim m f))) (face_walk m b)

-- "its back a shell of that region"
abbrev pub backs_within : Model → ℕ → ℕ → Bool
backs_within m b r = all (λ f. one_of (face m f).back (region m r).shells) (face_walk m b)

-- "and its front a shell of a region that isn't solid"
abbrev pub fronts_outside : Model → ℕ → Bool
fronts_outside m b = all (λ f. outside m (face m f).front) (face_walk m b)

-- "both fins of every edge of the body in loops of the body's own faces": each fin's loop names one of them, which then lists it
abbrev pub fins_own : Model → ℕ → Bool
fins_own m b = all (λ e. all (λ i. member (loop m (fin m i).owner).face (face_walk m b)) (edge m e).fins) (edge_walk m b)

-- "and no end missing"
abbrev pub ends_there : Model → ℕ → Bool
ends_there m b = all (λ e. is_some (edge m e).start && is_some (edge m e).end) (edge_walk m b)

-- the whole sentence
pub record Movable (x : Limits) (m : Model) (b r : ℕ) : Type 0 where
  -- "a well-formed model"
  pub formed : WellFormed x m
  -- "a solid body"
  pub there : b < m.bodies.used
  pub solid : is_solid (body m b).kind ≡ true
  -- "with an empty topological report"
  pub clean : empty_report (topological_report m b) ≡ true
  -- "and one solid region": it is r
  pub one : count_if (λ q. (region m q).solid) (body m b).regions ≡ 1
  pub own : member r (body m b).regions ≡ true
  pub filled : (region m r).solid ≡ true
  -- "every face with one loop .., its back .. and its front .., both fins of every edge .., and no end missing"
  pub loops : one_loop_each m b ≡ true
  pub backs : backs_within m b r ≡ true
  pub fronts : fronts_outside m b ≡ true
  pub fins : fins_own m b ≡ true
  pub ends : ends_there m b ≡ true

-- ---- "Shift every vertex of the body by the same grid vector, staying in range"

-- the body's vertices at other points; all else is as it was
unfoldable pub placed : Model → ℕ → (ℕ → Point3) → Model
placed m b point =
    record {
      version = m.version;
      precision = m.precision;
      bodies = m.bodies;
      regions = m.regions;
      shells = m.shells;
      faces = m.faces;
      loops = m.loops;
      fins = m.fins;
      edges = m.edges;
      vertices = changed m.vertices (λ v d. record { point = cond (member v (vertex_walk m b)) (point v) d.point; tolerance = d.tolerance });
      curves = m.curves;
      surfaces = m.surfaces;
    }

-- the points are the old ones and t, a whole number of sixteenths in each direction
pub record Shifted (m : Model) (b : ℕ) (t : Corner) (point : ℕ → Point3) : Type 0 where
  pub before : all (λ v. grid_point (point_of m v)) (vertex_walk m b) ≡ true
  pub by : (v : ℕ) → member v (vertex_walk m b) ≡ true → corner (point v) ≡ plus_c (corner (point_of m v)) t
  -- "staying in range"
  pub after : all (λ v. grid_point (point v)) (vertex_walk m b) ≡ true

-- a point and a vector, added as floats are: for points and a vector on the grid, this is such a shift
abbrev pub moved : Point3 → Point3 → Point3
moved d p = record { x = p.x +ᶠ d.x; y = p.y +ᶠ d.y; z = p.z +ᶠ d.z }
