-- What the report of a body reads: the fins of a loop, rotated, and the curve test. Assumes nothing.
use Prim.Native.Nat.{ℕ}
use Rattle.std.specs.Prelude.{◌≡◌, true, Float}
use Rattle.std.proofs.Common.{inl, inr}
use mathlib.Core.List.{[], List, ◌∷◌}
use Rattle.geom_lines_planes.specs.declared.tolerance.Version.{Version}
use Rattle.geom_lines_planes.specs.Geometry.{nearest, line_point, effective}
use Rattle.geom_carriers.specs.Found.{Found}
use Rattle.geom_carriers.specs.Queries.{the_line}
use Rattle.geom_queries.specs.Queries.{project_refusal}
use Rattle.geom_signs.specs.Signs.{off_curve_s}
use Rattle.meaning.specs.Lists.{member, rotated}
use Rattle.meaning.specs.Model.{Edge, Vertex}
use Rattle.meaning.specs.Faults.{Finding, about, of_edge, geometry_error, off_curve}
use Rattle.meaning_list_laws.specs.Lists.{member-tail}
use Rattle.meaning_isolation.specs.Laws.{in-front, append-from}

-- what is rotated stands in the list
pub rotated-from : (l : List ℕ) (i : ℕ) → member i (rotated l) ≡ true → member i l ≡ true
rotated-from [] i h = h
rotated-from (x ∷ l) i h = elim (append-from i l (x ∷ []) h) [
  | inl q ↦ member-tail i x l q
  | inr q ↦ in-front i (x ∷ []) l q
]

-- the curve test, by what it reads
abbrev pub tested : Version → Float → Found → Vertex → Edge → ℕ → ℕ → List Finding
tested r p f w d e v =
    geometry_error (about of_edge e) (project_refusal f w.point)
    (off_curve (off_curve_s w.point (line_point (the_line f) (nearest (the_line f) w.point)) (effective r w.tolerance p) (effective r d.tolerance p)) v)
