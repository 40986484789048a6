-- What is told of a drawing before it is written. No reader of a public promise needs this file. Definitions only.
use Rattle.std.specs.Prelude.{ℕ, ◌≡◌, List, length, Float}
use Rattle.meaning.specs.Inquire.{solid_sides, sides_refusal}
use Rattle.memory_layout.specs.Decode.{decode}
use Rattle.memory_layout.specs.Fit.{Fit}
use Rattle.memory_writes.specs.Put.{unless_refused}
use Rattle.walk_paths.specs.Paths.{Edged}
use Rattle.stl_format.specs.Stl.{triangles_of}
use Rattle.stl_writer.specs.declared.Sketch.{Sketch}
use Rattle.stl_writer.specs.Answers.{length_number}

-- the volume does not refuse the body
pub record Drawable (room w : List ℕ) (x : List Float) (b : ℕ) : Type 0 where
  pub fit : Fit room w x
  pub edged : Edged room w b
  pub sides : sides_refusal (decode room w x) (solid_sides (decode room w x) b) ≡ 0

unfoldable pub sketch_of : List ℕ → List ℕ → List Float → ℕ → List ℕ → Sketch
sketch_of room w x b face_marks =
    record {
      refused = length_number room w x b face_marks;
      count = unless_refused (length_number room w x b face_marks) (length (triangles_of (decode room w x) (solid_sides (decode room w x) b))) 0;
    }
