-- The usual sum over the corners of a polygon, and a face's corners (W-212). Definitions only.
use Rattle.std.specs.Prelude.{ℕ, ◌≡◌, List, [], ◌∷◌, map, ℤ, pos, ◌-ℤ◌, ◌*ℤ◌}
use Rattle.meaning.specs.Model.{Model}
use Rattle.meaning.specs.Inquire.{rim}
use Rattle.meaning_slabs.specs.Slabs.{steps, closed, Spot, spot, sumℤ, face_axis, corner_at}

-- u v' - u' v of each two neighbours, and their sum, which is twice the signed area of any polygon
unfoldable pub crossed : Spot → Spot → ℤ
crossed p q = p.u *ℤ q.v -ℤ q.u *ℤ p.v

unfoldable pub shoelace : List Spot → ℤ
shoelace l = sumℤ (steps crossed (closed l))

-- a face's corners on its plane, as `face_area` has them
abbrev pub corners_of : Model → ℕ → List Spot
corners_of m f = map (λ i. spot (face_axis m f) (corner_at m i)) (rim m f)

-- the ways of a list are along the axes: of each, one of the two coordinates stays
abbrev pub bend : Spot → Spot → ℤ
bend p q = (q.u -ℤ p.u) *ℤ (q.v -ℤ p.v)

abbrev pub Straight : List Spot → Type 0
Straight [] = Unit {0}
Straight (p ∷ []) = Unit {0}
Straight (p ∷ q ∷ l) = (bend p q ≡ pos 0) × Straight (q ∷ l)
