-- What is known of sides met one after the other, and what was drawn of them. No reader of a public promise needs this file. Definitions only.
use Rattle.std.specs.Prelude.{ℕ, ◌+◌, ◌*◌, ◌≡◌, ◌&&◌, List, length}
use Rattle.meaning.specs.Model.{Model}
use Rattle.meaning.specs.Inquire.{Side}
use Rattle.stl_format.specs.Stl.{triangles_of, narrow_sides}
use Rattle.stl_triangles.specs.Spots.{drawn}
use Rattle.stl_fan.specs.declared.Pen.{Pen}

-- the sides l, met behind those of t: r is known then, and the bytes w have become v
pub record Drawn (m : Model) (l : List Side) (t r : Pen) (w v : List ℕ) : Type 0 where
  pub narrow : r.narrow ≡ (t.narrow && narrow_sides m l)
  pub count : r.count ≡ t.count + length (triangles_of m l)
  pub bytes : v ≡ drawn (84 + 50 * t.count) (triangles_of m l) w
