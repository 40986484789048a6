-- W-206, two drawing offices on one station: what an office sees of a model, and a split that names its office. Definitions only.
-- A call that names a body is answered to an office as the other files say, but of `body_for`; and a split is made of `edge_for`.
use Rattle.std.specs.Prelude.{ℕ, Bool, cond, not, ◌&&◌, List, [], ◌∷◌, eqb, leb, Float}
use Rattle.geom_lines_planes.specs.Refuse.{◌unless◌, ◌then◌}
use Rattle.meaning.specs.Lists.{run, any}
use Rattle.meaning.specs.Model.{Model, Limits, Office, office-0, office-1, has, body}
use Rattle.meaning.specs.Refuse.{Answer, answered}
use Rattle.meaning.specs.Split.{EdgeSplit, split_refusal, after_split, where_accepted}
use Rattle.meaning.specs.Formed.{has_edge}

-- "Refusals: 1 for an office above 1, right after 9"
abbrev pub office_refusal : ℕ → ℕ
office_refusal o = 1 unless leb o 1

-- "an office number, 0 or 1"
abbrev pub office_number : Office → ℕ
office_number office-0 = 0
office_number office-1 = 1

-- the body is there, and is the other office's
abbrev pub foreign : Model → ℕ → ℕ → Bool
foreign m o b = has m.bodies b && not (eqb (office_number (body m b).office) o)

-- "a body of the other office is answered as if it did not exist": what the id b is for the office o. The other's body is answered as the id behind the last body, which names none
unfoldable pub body_for : Model → ℕ → ℕ → ℕ
body_for m o b = cond (foreign m o b) m.bodies.used b

-- ---- "A split names its office too, and is refused if the edge is in a walk of the other office's bodies"

-- "where the other office's edge walk fails, its bodies count as not having the edge": body by body, each by its own walk
unfoldable pub foreign_edge : Model → ℕ → ℕ → Bool
foreign_edge m o e = any (λ c. foreign m o c && has_edge m c e) (run 0 m.bodies.used)

-- "2 for a foreign body or edge, in the place of a missing one": what the id e is for the office o
unfoldable pub edge_for : Model → ℕ → ℕ → ℕ
edge_for m o e = cond (foreign_edge m o e) m.edges.used e

unfoldable pub office_split_refusal : Limits → Model → ℕ → ℕ → Float → ℕ
office_split_refusal x m o e t = office_refusal o then split_refusal x m (edge_for m o e) t

abbrev pub office_split : Limits → Model → ℕ → ℕ → Float → Answer EdgeSplit
office_split x m o e t =
    answered (office_split_refusal x m o e t) (record { original_edge = e; new_edge = m.edges.used; vertex = m.vertices.used })

-- the model behind the call
unfoldable pub office_model_after : Limits → Model → ℕ → ℕ → Float → Model
office_model_after x m o e t = where_accepted (office_split_refusal x m o e t) m (after_split m e t)

-- "splits by both offices in any order", refused or not, each asked of the model that the one before it left
pub record OfficeCut : Type 0 where
  pub office : ℕ
  pub edge : ℕ
  pub fraction : Float

unfoldable pub office_after_all : Limits → Model → List OfficeCut → Model
office_after_all x m [] = m
office_after_all x m (c ∷ l) = office_after_all x (office_model_after x m c.office c.edge c.fraction) l
