-- Corners in binary32, and triangles written where they fit. No reader of a public promise needs this file. Definitions only.
use Rattle.std.specs.Prelude.{ℕ, ◌+◌, cond, List, [], ◌∷◌, ◌++◌, leb, length}
use Rattle.float_narrow.specs.Narrow.{narrow_bits}
use Rattle.float_vectors.specs.declared.vector.Point3.{Point3}
use Rattle.memory_writes.specs.Put.{over}
use Rattle.image_format.specs.Bytes.{little, words}
use Rattle.stl_format.specs.Stl.{Triangle, triangle_bytes}
use Rattle.stl_triangles.specs.declared.Spot.{Spot}

unfoldable pub spot_of : Point3 → Spot
spot_of p = record { x = narrow_bits p.x; y = narrow_bits p.y; z = narrow_bits p.z }

-- `triangle_bytes`, of three corners
unfoldable pub spot_bytes : Spot → Spot → Spot → List ℕ
spot_bytes o p q = words (0 ∷ 0 ∷ 0 ∷ o.x ∷ o.y ∷ o.z ∷ p.x ∷ p.y ∷ p.z ∷ q.x ∷ q.y ∷ q.z ∷ []) ++ little 2 0

-- bytes written from a place on, all of them or none
unfoldable pub fitted : ℕ → List ℕ → List ℕ → List ℕ
fitted at a w = cond (leb (at + length a) (length w)) (over at a w) w

-- triangles written so, one behind the other
unfoldable pub drawn : ℕ → List Triangle → List ℕ → List ℕ
drawn at [] w = w
drawn at (t ∷ l) w = drawn (at + 50) l (fitted at (triangle_bytes t) w)
