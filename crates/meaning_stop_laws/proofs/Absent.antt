-- The theorems of specs/Absent.antt that rest on `loop-sound`: the row of the edges of a body. Assumes nothing.
use Prim.Native.Nat.{ℕ}
use Rattle.std.specs.Prelude.{◌≡◌}
use Rattle.std.proofs.Math.Path.{ap₂}
use Rattle.std.proofs.Math.Bool.{true, ◌&&◌}
use Rattle.meaning.specs.Lists.{member}
use Rattle.meaning.specs.Model.{Model, has, face}
use Rattle.meaning.specs.Walks.{face_walk}
use Rattle.meaning_stops.specs.Bodies.{loop_parts, walked_face, edge_parts}
use Rattle.meaning_stop_laws.specs.Parts.{Each, each_and, each-joined}
use Rattle.meaning_stop_laws.specs.Absent.{Sound, gone, face-named, loop-sound}

module _ (m : Model) (o : ℕ) where
  module _ (b : ℕ) where
    face-sound : (f : ℕ) → member f (face_walk m b) ≡ true → Each (Sound m o) (walked_face m b f)
    unfolding walked_face
    face-sound f q =
        (each_and (Sound m o) (record { told = λ z. ap₂ ◌&&◌ (gone m o (has m.faces f) z) (face-named m o b f q) }) (each-joined (Sound m o) (loop_parts m f) (face m f).loops (loop-sound m o b f)))

    pub edge_row : Each (Sound m o) (edge_parts m b)
    edge_row = each-joined (Sound m o) (walked_face m b) (face_walk m b) face-sound
