-- What it is that every record of before stands. Definitions only.
use Rattle.std.specs.Prelude.{ℕ, ◌<◌, ◌≡◌}
use Rattle.meaning.specs.Model.{Model, body, region, shell, face, loop, fin, edge, vertex}

-- every record of before stands as it was
pub record Grown (m n : Model) : Type 0 where
  pub version : n.version ≡ m.version
  pub precision : n.precision ≡ m.precision
  pub bodies : (i : ℕ) → i < m.bodies.used → body n i ≡ body m i
  pub regions : (i : ℕ) → i < m.regions.used → region n i ≡ region m i
  pub shells : (i : ℕ) → i < m.shells.used → shell n i ≡ shell m i
  pub faces : (i : ℕ) → i < m.faces.used → face n i ≡ face m i
  pub loops : (i : ℕ) → i < m.loops.used → loop n i ≡ loop m i
  pub fins : (i : ℕ) → i < m.fins.used → fin n i ≡ fin m i
  pub edges : (i : ℕ) → i < m.edges.used → edge n i ≡ edge m i
  pub vertices : (i : ℕ) → i < m.vertices.used → vertex n i ≡ vertex m i
  pub curves : n.curves ≡ m.curves
  pub surfaces : n.surfaces ≡ m.surfaces
