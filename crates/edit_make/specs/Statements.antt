-- A model that is made has its precision, its version and no record, and its memory is readable. Assumes nothing.
use Rattle.std.specs.Prelude.{ℕ, ◌≡◌, List, [], ◌∷◌, ◌++◌, replicate, Float}
use Rattle.meaning.specs.Model.{Model}
use Rattle.memory_layout.specs.Decode.{version_of}
use Rattle.memory_writes.specs.Put.{over}
use Rattle.edit_make.specs.Answers.{make_number}

pub record Empty (m : Model) (p : Float) (v : ℕ) : Type 0 where
  pub version : m.version ≡ version_of v
  pub precision : m.precision ≡ p
  pub bodies : m.bodies.used ≡ 0
  pub regions : m.regions.used ≡ 0
  pub shells : m.shells.used ≡ 0
  pub faces : m.faces.used ≡ 0
  pub loops : m.loops.used ≡ 0
  pub fins : m.fins.used ≡ 0
  pub edges : m.edges.used ≡ 0
  pub vertices : m.vertices.used ≡ 0
  pub curves : m.curves.used ≡ 0
  pub surfaces : m.surfaces.used ≡ 0

module _ (room w : List ℕ) (x : List Float) (p : Float) (v : ℕ) (z : make_number room w x p v ≡ 0) where
  abbrev w' : List ℕ
  w' = over 0 (replicate 10 0 ++ (v ∷ [])) w

  abbrev x' : List Float
  x' = over 0 (p ∷ []) x
