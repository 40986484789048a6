-- What a box, a split and a report put into lent slots, where the number is 0. Definitions only.
use Rattle.std.specs.Prelude.{ℕ, Bool, cond, not, List, [], ◌∷◌, eqb, Float}
use Rattle.inquire_bbox.specs.declared.bbox.Aabb.{Aabb}
use Rattle.station_answers.specs.declared.EdgeSplit.{EdgeSplit}
use Rattle.station_answers.specs.declared.Counts.{Counts}

-- the least corner, then the greatest
unfoldable pub corners_value : Aabb → List Float
corners_value b = b.min.x ∷ b.min.y ∷ b.min.z ∷ b.max.x ∷ b.max.y ∷ b.max.z ∷ []

-- the split edge, the new edge, the new vertex
abbrev pub split_value : EdgeSplit → List ℕ
split_value m = m.original_edge ∷ m.new_edge ∷ m.vertex ∷ []

-- how many faults, how many kept, how many checks could not be made
abbrev pub counts_value : Counts → List ℕ
counts_value c = c.faults ∷ c.kept ∷ c.unchecked ∷ []

-- 1 for yes
abbrev pub mark_value : Bool → List ℕ
mark_value b = cond b 1 0 ∷ []

-- geometry is checked where the number is not 0
abbrev pub wanted : ℕ → Bool
wanted g = not (eqb g 0)
