-- The line and the plane that a table has under an id (store.rs): the refusal's number, the value, and the answer made of both. Definitions only.
use Rattle.std.specs.Prelude.{ℕ, Some, None, Result}
use Rattle.float_vectors.specs.declared.vector.Point3.{Point3}
use Rattle.float_vectors.specs.declared.vector.Vec3.{Vec3}
use Rattle.interval_arithmetic.specs.Ops.{zero_f}
use Rattle.geom_lines_planes.specs.declared.curve.Line.{Line}
use Rattle.geom_lines_planes.specs.declared.surface.Plane.{Plane}
use Rattle.geom_carriers.specs.declared.Carrier.TheVariants as Carriers
use Rattle.geom_carriers.specs.Found.{Found}
use Rattle.geom_lines_planes.specs.declared.refusal.Refusal.{Refusal}
use Rattle.geom_lines_planes.specs.Refusals.{answered}

-- ---- the line and the plane under an id: 01, "curve missing: 2; not a line: 7", "surface missing 2; not a plane 7"

-- no line and no plane is read where the number is not 0
abbrev origin_p : Point3
origin_p = record { x = zero_f; y = zero_f; z = zero_f }

abbrev zero_v : Vec3
zero_v = record { x = zero_f; y = zero_f; z = zero_f }

unfoldable pub the_line : Found → Line
the_line None = record { origin = origin_p; direction = zero_v }
the_line (Some (Carriers.Line l)) = l
the_line (Some (Carriers.Plane s)) = record { origin = origin_p; direction = zero_v }
the_line (Some Carriers.Other) = record { origin = origin_p; direction = zero_v }

unfoldable pub line_refusal : Found → ℕ
line_refusal None = 2
line_refusal (Some (Carriers.Line l)) = 0
line_refusal (Some (Carriers.Plane s)) = 7
line_refusal (Some Carriers.Other) = 7

unfoldable pub the_plane : Found → Plane
the_plane None = record { origin = origin_p; normal = zero_v }
the_plane (Some (Carriers.Line l)) = record { origin = origin_p; normal = zero_v }
the_plane (Some (Carriers.Plane s)) = s
the_plane (Some Carriers.Other) = record { origin = origin_p; normal = zero_v }

unfoldable pub plane_refusal : Found → ℕ
plane_refusal None = 2
plane_refusal (Some (Carriers.Line l)) = 7
plane_refusal (Some (Carriers.Plane s)) = 0
plane_refusal (Some Carriers.Other) = 7

-- ---- the answers, made of the number and the value

abbrev pub LineFound : Type 0
LineFound = Result Line Refusal

abbrev pub PlaneFound : Type 0
PlaneFound = Result Plane Refusal

abbrev pub line_found : ℕ → Line → LineFound
line_found = answered

abbrev pub plane_found : ℕ → Plane → PlaneFound
plane_found = answered

unfoldable pub line_answer : Found → LineFound
line_answer f = line_found (line_refusal f) (the_line f)

unfoldable pub plane_answer : Found → PlaneFound
plane_answer f = plane_found (plane_refusal f) (the_plane f)
