-- The mesh of a reading in flat lists, as the code holds it in front of its own arrays (W-210). No reader of a public promise needs this file. Definitions only.
use Rattle.std.specs.Prelude.{ℕ, zero, suc, ◌*◌, ◌≤◌, ◌≡◌, List, [], ◌∷◌, ◌++◌, map, length, get_or, take, drop, Float}
use Rattle.float_vectors.specs.declared.vector.Point3.{Point3}
use Rattle.stl_body.specs.Read.{which_of, same_point, Step, around, Mesh}

-- the number of each corner's vertex
unfoldable pub corner_numbers : List Point3 → List Point3 → List ℕ
corner_numbers points l = map (λ p. which_of same_point p points) l

-- the steps of n triangles, by their corners' numbers
unfoldable pub steps_in : ℕ → List ℕ → List Step
steps_in zero c = []
steps_in (suc n) c = around (get_or c 0 0) (get_or c 1 0) (get_or c 2 0) ++ steps_in n (drop 3 c)

unfoldable pub flat_points : List Point3 → List Float
flat_points [] = []
flat_points (p ∷ l) = p.x ∷ p.y ∷ p.z ∷ flat_points l

unfoldable pub flat_steps : List Step → List ℕ
flat_steps [] = []
flat_steps (s ∷ l) = s.from ∷ s.to ∷ flat_steps l

-- four lists in whose fronts the mesh stands
pub record Held (t : Mesh) (corners : List ℕ) (floats : List Float) (along pairs : List ℕ) : Type 0 where
  pub steps : steps_in t.triangles corners ≡ t.steps
  pub points : take (3 * length t.points) floats ≡ flat_points t.points
  pub edges : take (3 * t.triangles) along ≡ t.edge_numbers
  pub ends : take (2 * length t.edges) pairs ≡ flat_steps t.edges
  pub corners-long : 3 * t.triangles ≤ length corners
  pub points-long : 3 * length t.points ≤ length floats
  pub edges-long : 3 * t.triangles ≤ length along
  pub ends-long : 2 * length t.edges ≤ length pairs
