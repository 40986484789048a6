-- What an accepted reading has passed. Definitions only.
use Prim.Native.Nat.{ℕ}
use Rattle.std.specs.Prelude.{◌≡◌, true, List}
use Rattle.meaning.specs.Model.{Model, Limits}
use Rattle.meaning.specs.Offices.{office_refusal}
use Rattle.stl_body.specs.Read.{stl_triangles, length_fits, corners, mesh_of, all_finite, all_apart, has_room}

-- what an accepted reading has passed
pub record Accepted (x : Limits) (m : Model) (o : ℕ) (s : List ℕ) : Type 0 where
  pub long : length_fits s ≡ true
  pub office : office_refusal o ≡ 0
  pub finite : all_finite (corners (stl_triangles s)) ≡ true
  pub apart : all_apart (stl_triangles s) ≡ true
  pub room : has_room x m (mesh_of (stl_triangles s)) ≡ true
