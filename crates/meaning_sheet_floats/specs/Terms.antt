-- Where no step of the float volume rounds: what the statement asks. Definitions only.
use Rattle.std.specs.Prelude.{ℕ, ◌*◌, ◌%◌, ◌^◌, ◌≤◌, ◌≡◌, Bool, true, ◌&&◌, List, [], ◌∷◌, leb, eqb, nat_abs}
use Rattle.float_grid.specs.Grid.{sixteenths}
use Rattle.float_vectors.specs.declared.vector.Point3.{Point3}
use Rattle.meaning.specs.Model.{Model}
use Rattle.meaning.specs.Inquire.{Side, solid_sides}
use Rattle.meaning_sheets.specs.Sheets.{side_points, whole_side, grid_sides, triangles}

-- no coordinate is more than c sixteenths in size
abbrev pub small_point : ℕ → Point3 → Bool
small_point c p = leb (nat_abs (sixteenths p.x)) c && leb (nat_abs (sixteenths p.y)) c && leb (nat_abs (sixteenths p.z)) c

unfoldable pub small_points : ℕ → List Point3 → Bool
small_points c [] = true
small_points c (p ∷ l) = small_point c p && small_points c l

unfoldable pub small_sides : ℕ → Model → List Side → Bool
small_sides c m [] = true
small_sides c m (s ∷ l) = small_points c (side_points m s) && small_sides c m l

-- three divides the number of each side
unfoldable pub threes_in : Model → List Side → Bool
threes_in m [] = true
threes_in m (s ∷ l) = eqb (nat_abs (whole_side m s) % 3) 0 && threes_in m l

-- Coordinates on the grid, none above c sixteenths, small enough that no float step rounds. A difference of two is 2 c at most, a product of two differences 4 c ^ 2, a part of a cross product 8 c ^ 2
-- and a triangle 24 c ^ 3; so much for each triangle bounds every running sum too, and up to 2 ^ 53 every whole number of steps is a float. That is ten triangles at the grid's full 2,048 mm, and at 281 mm
-- the 4,096 that a sheet takes. "each face divided by six": a half is a float, a third is none, so three must divide each side's number (`third-rounds` in Evaluated.antt).
pub record NothingRounds (m : Model) (b c : ℕ) : Type 0 where
  pub on-grid : grid_sides m (solid_sides m b) ≡ true
  pub small : small_sides c m (solid_sides m b) ≡ true
  pub room : 24 * (c * c * c) * triangles m (solid_sides m b) ≤ 2 ^ 53
  pub threes : threes_in m (solid_sides m b) ≡ true
