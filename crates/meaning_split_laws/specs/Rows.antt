-- 01's thirteen rows of tests of a split, each test as a number and the condition under which it is the answer. Definitions only.
use Rattle.std.specs.Prelude.{ℕ, ◌<◌, ◌≡◌, Bool, true, false, not, ◌&&◌, List, [], ◌∷◌, ◌++◌, eqb, leb, get_or, Float}
use Rattle.std.specs.Float.Ieee.{lt}
use Rattle.std.specs.Float.Ieee.Scale.{finite}
use Rattle.interval_arithmetic.specs.declared.Sign.{Sign}
use Rattle.interval_arithmetic.specs.declared.Sign.TheVariants.{Negative, Zero, Positive, Unresolved}
use Rattle.interval_arithmetic.specs.Ops.{zero_f}
use Rattle.float_vectors.specs.Space.{finite_point}
use Rattle.geom_lines_planes.specs.declared.surface.Plane.{Plane}
use Rattle.geom_lines_planes.specs.Geometry.{line_point, effective}
use Rattle.geom_carriers.specs.declared.Carrier.TheVariants as Carriers
use Rattle.geom_carriers.specs.Found.{Found}
use Rattle.std.specs.Prelude.{Some, None}
use Rattle.geom_carriers.specs.Queries.{the_plane}
use Rattle.geom_signs.specs.Signs.{increasing_s, span_s, off_plane_s}
use Rattle.meaning.specs.Lists.{all_below, member, count, joined, the, is_some}
use Rattle.meaning.specs.Floats.{float_of}
use Rattle.meaning.specs.Model.{Model, has, shell, face, loop, fin, edge, curve, surface, Limits}
use Rattle.meaning.specs.Split.{is_positive, carrier, start_point, end_point, lo, hi, parameter, split_point, apart, tables_fit, edge_fits, loops_fit, shells_fit}

-- one test of a row
pub record Step : Type 0 where
  pub number : ℕ
  pub holds : Bool

infix 70 ◌when◌
abbrev pub ◌when◌ : ℕ → Bool → Step
n when b = record { number = n; holds = b }

abbrev pub missing : Found → Bool
missing None = true
missing (Some c) = false

abbrev pub is_line : Found → Bool
is_line None = false
is_line (Some (Carriers.Line l)) = true
is_line (Some (Carriers.Plane s)) = false
is_line (Some Carriers.Other) = false

abbrev pub is_plane : Found → Bool
is_plane None = false
is_plane (Some (Carriers.Line l)) = false
is_plane (Some (Carriers.Plane s)) = true
is_plane (Some Carriers.Other) = false

abbrev pub is_unresolved : Sign → Bool
is_unresolved Negative = false
is_unresolved Zero = false
is_unresolved Positive = false
is_unresolved Unresolved = true

-- 11. "squared plane distance less squared edge tolerance: positive 1, unresolved 7", at the parameter u on the plane s
abbrev pub distance : Model → ℕ → Plane → Float → Sign
distance m e s u = off_plane_s s (line_point (carrier m e) u) (effective m.version (edge m e).tolerance m.precision)

abbrev pub plane_steps : Model → ℕ → Plane → Float → List Step
plane_steps m e s u = 1 when is_positive (distance m e s u) ∷ 7 when is_unresolved (distance m e s u) ∷ []

-- 11. "points to another edge 1; loop missing 2; not exactly once in its loop 1; face missing 2; no surface 1; surface missing 2; not a plane 7;
-- then at lo, hi and the split parameter, .."
unfoldable pub fin_steps : Model → ℕ → Float → ℕ → List Step
fin_steps m e t i =
    let l = (fin m i).owner in
    let f = (loop m l).face in
    let s = surface m (the (face m f).surface) in
    1 when not (eqb (fin m i).edge e)
    ∷ 2 when not (has m.loops l)
    ∷ 1 when not (eqb (count i (loop m l).fins) 1)
    ∷ 2 when not (has m.faces f)
    ∷ 1 when not (is_some (face m f).surface)
    ∷ 2 when missing s
    ∷ 7 when not (is_plane s)
    ∷ plane_steps m e (the_plane s) (lo m e) ++ plane_steps m e (the_plane s) (hi m e) ++ plane_steps m e (the_plane s) (parameter m e t)

-- 11. "Per fin: repeated 1; .."
unfoldable pub fins_steps : Model → ℕ → Float → List ℕ → List ℕ → List Step
fins_steps m e t seen [] = []
fins_steps m e t seen (i ∷ l) = 1 when member i seen ∷ fin_steps m e t i ++ fins_steps m e t (i ∷ seen) l

abbrev pub split_rows : Limits → Model → ℕ → Float → List (List Step)
split_rows x m e t =
    let fins = (edge m e).fins in
    let c = curve m (the (edge m e).curve) in
    let p = split_point m e t in
    -- there is no row 0: 01 counts from 1
    []
    -- 1. "Fraction not finite, ≤ 0 or ≥ 1: 1"
    ∷ (1 when not (finite t && lt zero_f t && lt t (float_of 1)) ∷ [])
    -- 2. "Edge missing: 2"
    ∷ (2 when not (has m.edges e) ∷ [])
    -- 3. "Per listed fin: missing 2, pcurve mark 7"
    ∷ joined (λ i. 2 when not (has m.fins i) ∷ 7 when (fin m i).pcurve ∷ []) fins
    -- 4. "An end is none: 7"
    ∷ (7 when not (is_some (edge m e).start && is_some (edge m e).end) ∷ [])
    -- 5. "No curve: 1; curve missing: 2; not a line: 7"
    ∷ (1 when not (is_some (edge m e).curve) ∷ 2 when missing c ∷ 7 when not (is_line c) ∷ [])
    -- 6. "Start, then end vertex missing: 2"
    ∷ (2 when not (has m.vertices (the (edge m e).start)) ∷ 2 when not (has m.vertices (the (edge m e).end)) ∷ [])
    -- 7. "Interval of direction·(end - start) not positive: 4"
    ∷ (4 when not (is_positive (increasing_s (carrier m e).direction (start_point m e) (end_point m e))) ∷ [])
    -- 8. "lo or hi not finite, or interval hi - lo not positive: 7"
    ∷ (7 when not (finite (lo m e) && finite (hi m e) && is_positive (span_s (lo m e) (hi m e))) ∷ [])
    -- 9. "Split point not finite: 4"
    ∷ (4 when not (finite_point p) ∷ [])
    -- 10. "Against start, then end: squared distance (a dot product) less squared precision not positive as an interval: 4"
    ∷ (4 when not (apart m p (start_point m e)) ∷ 4 when not (apart m p (end_point m e)) ∷ [])
    -- 11. "Per fin: .."
    ∷ fins_steps m e t [] fins
    -- 12. "A wire shell lists the edge more than once: 1"
    ∷ (1 when not (all_below (λ s. leb (count e (shell m s).wire_edges) 1) m.shells.used) ∷ [])
    -- 13. "No slot in any table or list concerned: 8, new fins in one loop counted together"
    ∷ (8 when not (tables_fit x m e && edge_fits x m e && loops_fit x m e && shells_fit x m e) ∷ [])
    ∷ []

-- ---- where a row refuses

abbrev pub never : Step
never = 0 when false

-- none of a row's conditions holds
pub record Passes (l : List Step) : Type 0 where
  pub none-holds : (j : ℕ) → (get_or l j never).holds ≡ false

-- the first of a row's conditions that holds has the number n
pub record Says (l : List Step) (n : ℕ) : Type 0 where
  pub step : ℕ
  pub before : (j : ℕ) → j < step → (get_or l j never).holds ≡ false
  pub here : (get_or l step never).holds ≡ true
  pub number : (get_or l step never).number ≡ n

-- the rows before row k pass, and row k says n
pub record RefusedAt (rows : List (List Step)) (k n : ℕ) : Type 0 where
  pub before : (j : ℕ) → j < k → Passes (get_or rows j [])
  pub here : Says (get_or rows k []) n
