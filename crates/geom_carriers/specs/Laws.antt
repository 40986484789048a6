-- What the users of a line or a plane cite: an answer's number and value, read back. Assumes nothing.
use Rattle.std.specs.Prelude.{ℕ, ◌≡◌, Ok}
use Rattle.geom_lines_planes.specs.declared.curve.Line.{Line}
use Rattle.geom_lines_planes.specs.declared.surface.Plane.{Plane}
use Rattle.geom_lines_planes.specs.Refuse.{answer}
use Rattle.geom_lines_planes.specs.Laws.{Cases, Gives, Refuses, read-value, read-refusal, result-cases}
use Rattle.geom_lines_planes.specs.Refusals.{refused}

line-cases : Cases {B = Line} Ok refused
line-cases = result-cases

plane-cases : Cases {B = Plane} Ok refused
plane-cases = result-cases

pub line_refused : (n m : ℕ) (v : Line) → answer Ok refused n v ≡ refused m → Refuses n m
line_refused = read-refusal line-cases

pub line-given : (n : ℕ) (v w : Line) → answer Ok refused n v ≡ Ok w → Gives n v w
line-given = read-value line-cases

pub plane-refused : (n m : ℕ) (v : Plane) → answer Ok refused n v ≡ refused m → Refuses n m
plane-refused = read-refusal plane-cases

pub plane-given : (n : ℕ) (v w : Plane) → answer Ok refused n v ≡ Ok w → Gives n v w
plane-given = read-value plane-cases
