-- A box as the code has it, and what is known of points met. No reader of a public promise needs more of this file than `seen_box`. Definitions only.
use Rattle.std.specs.Prelude.{Bool, true, ◌&&◌, List, [], ◌∷◌, eqb, length}
use Rattle.float_vectors.specs.declared.vector.Point3.{Point3}
use Rattle.float_vectors.specs.Space.{finite_point}
use Rattle.meaning.specs.Inquire as Inquire
use Rattle.inquire_bbox.specs.declared.bbox.Aabb.{Aabb}
use Rattle.inquire_bbox.specs.declared.bbox.Extent.{Extent}

-- a box of the meaning, as the code has it, and back
unfoldable pub seen_box : Inquire.Aabb → Aabb
seen_box b = record { min = b.min; max = b.max }

abbrev pub box_in : Aabb → Inquire.Aabb
box_in b = record { min = b.min; max = b.max }

-- `Aabb::including`
unfoldable pub included : Aabb → Point3 → Aabb
included b p = seen_box (Inquire.including (box_in b) p)

unfoldable pub all_finite : List Point3 → Bool
all_finite [] = true
all_finite (p ∷ l) = finite_point p && all_finite l

-- what is known of points, met one after the other
unfoldable pub extent_of : List Point3 → Extent
extent_of l = record { empty = eqb (length l) 0; finite = all_finite l; bounds = seen_box (Inquire.box_of l) }
