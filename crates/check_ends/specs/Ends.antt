-- An end of an edge as an optional id, the parameter of a vertex on a curve, and whether the rule of rings applies (`Laws.antt` of `check_edge`:
-- it is what `meaning` says). No reader of a public promise needs this file. Definitions only.
use Rattle.std.specs.Prelude.{ℕ, Bool, not, cond, ◌&&◌, ◌||◌, eqb, Float, Some, None}
use Rattle.std.specs.Prelude as Prelude
use Rattle.std.proofs.Math.Option.{Option, none, some}
use Rattle.geom_lines_planes.specs.Geometry.{nearest}
use Rattle.geom_carriers.specs.Found.{Found}
use Rattle.geom_carriers.specs.Queries.{the_line}
use Rattle.geom_queries.specs.Queries.{project_refusal}
use Rattle.meaning.specs.Lists.{is_some}
use Rattle.meaning.specs.Model.{Model, has, point_of}
use Rattle.meaning.specs.Faults.{no_line, no_plane}
use Rattle.memory_records.specs.Seen.{Ref}

-- an optional id, read back
abbrev pub ref_of : Ref → Option ℕ
ref_of None = none
ref_of (Some i) = some i

-- the parameter of an end on a curve, where it projected
abbrev pub Param : Type 0
Param = Prelude.Option Float

-- `projected`, with the parameter
unfoldable pub param_at : Model → Found → ℕ → Param
param_at m curve v =
    cond (has m.vertices v && eqb (project_refusal curve (point_of m v)) 0) (Some (nearest (the_line curve) (point_of m v))) None

-- `other_ring`
unfoldable pub ringed : Found → Found → Option ℕ → Option ℕ → Bool
ringed curve surface start end = not (is_some start) && not (is_some end) && (no_line curve || no_plane surface)
