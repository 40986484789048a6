-- The same where a vector is added in floats: the theorem of specs/Statements.antt that rests on `setting-keeps-the-answer` of proofs/Statements.antt. Assumes nothing.
use Rattle.std.specs.Prelude.{ℕ, ◌≡◌, true, List}
use Rattle.float_vectors.specs.declared.vector.Point3.{Point3}
use Rattle.meaning.specs.Lists.{all}
use Rattle.meaning.specs.Model.{Limits, point_of}
use Rattle.meaning.specs.Walks.{vertex_walk}
use Rattle.meaning_sheets.specs.Sheets.{corner, grid_point}
use Rattle.meaning_shift.specs.Moving.{Movable, moved}
use Rattle.meaning_shift.proofs.Grid.{float-shift}
use Rattle.memory_layout.specs.Names.{FACES}
use Rattle.memory_layout.specs.Readable.{readable}
use Rattle.walk_answers.specs.Calls.{reach}
use Rattle.meaning_of_moves.specs.Moves.{Lent, lent_model, SameTake, body_set}
use Rattle.meaning_of_moves.proofs.Statements.{setting-keeps-the-answer}

module _ (y : Limits) (room : List ℕ) (before : Lent) (b r : ℕ) (k : Movable y (lent_model room before) b r) where
  -- ---- by the station's calls: `set_vertex` for each vertex of the body

  module _ (read : readable room before.words before.reals ≡ true) where
    -- 5. The same where a vector on the grid is added in floats to every vertex of the body
    pub adding-keeps-the-answer : (d : Point3) → grid_point d ≡ true
        → all (λ v. grid_point (point_of (lent_model room before) v)) (vertex_walk (lent_model room before) b) ≡ true
        → all (λ v. grid_point (moved d (point_of (lent_model room before) v))) (vertex_walk (lent_model room before) b) ≡ true
        → (o : ℕ) (face_marks face_marks' : List ℕ) → reach room FACES face_marks' ≡ reach room FACES face_marks
        → SameTake room before (body_set room before b (λ v. moved d (point_of (lent_model room before) v))) o b face_marks face_marks'
    adding-keeps-the-answer d g here there =
        setting-keeps-the-answer y room before b r k read (corner d) (λ v. moved d (point_of (lent_model room before) v)) (float-shift (lent_model room before) b d g here there)
