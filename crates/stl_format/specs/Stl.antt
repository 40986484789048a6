-- Binary STL of a body (W-209, whose words are quoted). Definitions only.
use Rattle.std.specs.Prelude.{ℕ, Bool, true, ◌&&◌, List, [], ◌∷◌, ◌++◌, leb, length, replicate}
use Rattle.float_narrow.specs.Narrow.{narrow, narrow_bits}
use Rattle.float_vectors.specs.declared.vector.Point3.{Point3}
use Rattle.geom_lines_planes.specs.Refuse.{◌unless◌, ◌then◌}
use Rattle.meaning.specs.Model.{Model}
use Rattle.meaning.specs.Inquire.{Side, solid_sides, volume_refusal}
use Rattle.meaning_sheets.specs.Sheets.{side_points}
use Rattle.image_format.specs.Bytes.{little, words}

-- ---- the triangles

pub record Triangle : Type 0 where
  pub a : Point3
  pub b : Point3
  pub c : Point3

-- "the fans that volume uses" (`fan`, `polygon_volume`): from the first point, a triangle for each two neighbours of those behind it
unfoldable pub fan_triangles : Point3 → List Point3 → List Triangle
fan_triangles o [] = []
fan_triangles o (p ∷ []) = []
fan_triangles o (p ∷ q ∷ l) = record { a = o; b = p; c = q } ∷ fan_triangles o (q ∷ l)

unfoldable pub polygon_triangles : List Point3 → List Triangle
polygon_triangles [] = []
polygon_triangles (o ∷ l) = fan_triangles o l

-- "outward": the points as the volume takes them (`side_points`), a front side's reversed
unfoldable pub side_triangles : Model → Side → List Triangle
side_triangles m s = polygon_triangles (side_points m s)

-- "added over the faces taken": in the volume's order, a face as often as it is listed
unfoldable pub triangles_of : Model → List Side → List Triangle
triangles_of m [] = []
triangles_of m (s ∷ l) = side_triangles m s ++ triangles_of m l

-- ---- their bytes, little-endian

-- a corner: three binary32 numbers
abbrev pub corner : Point3 → List ℕ
corner p = narrow_bits p.x ∷ narrow_bits p.y ∷ narrow_bits p.z ∷ []

-- "50 bytes for each triangle": "normals as zeros", the three corners, the "attribute zero"
unfoldable pub triangle_bytes : Triangle → List ℕ
triangle_bytes t = words (0 ∷ 0 ∷ 0 ∷ (corner t.a ++ (corner t.b ++ corner t.c))) ++ little 2 0

unfoldable pub triangles_bytes : List Triangle → List ℕ
triangles_bytes [] = []
triangles_bytes (t ∷ l) = triangle_bytes t ++ triangles_bytes l

-- "It has an 80-byte header, a 32-bit count, then 50 bytes for each triangle": the "header .. zero"
unfoldable pub stl_of : List Triangle → List ℕ
stl_of l = replicate 80 0 ++ (little 4 (length l) ++ triangles_bytes l)

abbrev pub body_stl : Model → ℕ → List ℕ
body_stl m b = stl_of (triangles_of m (solid_sides m b))

-- ---- its refusals

abbrev pub narrow_point : Point3 → Bool
narrow_point p = narrow p.x && narrow p.y && narrow p.z

unfoldable pub narrow_points : List Point3 → Bool
narrow_points [] = true
narrow_points (p ∷ l) = narrow_point p && narrow_points l

unfoldable pub narrow_sides : Model → List Side → Bool
narrow_sides m [] = true
narrow_sides m (s ∷ l) = narrow_points (side_points m s) && narrow_sides m l

-- "all volume refusals first, then 5 for a coordinate that is not finite or would lose bits"
unfoldable pub stl_refusal : Model → ℕ → ℕ
stl_refusal m b =
    volume_refusal m b
    then 5 unless narrow_sides m (solid_sides m b)

-- "then 8 for too few bytes", of which n are lent
unfoldable pub write_refusal : Model → ℕ → ℕ → ℕ
write_refusal m b n =
    stl_refusal m b
    then 8 unless leb (length (body_stl m b)) n
