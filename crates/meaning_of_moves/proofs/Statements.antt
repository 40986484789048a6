-- The call answers behind the station's calls that move a stone what it answered before: the theorem of specs/Statements.antt that rests on `moving-keeps-the-answer`. Assumes nothing.
use Rattle.std.specs.Prelude.{ℕ, ◌≡◌, true, List}
use Rattle.float_vectors.specs.declared.vector.Point3.{Point3}
use Rattle.meaning.specs.Model.{Limits}
use Rattle.meaning_sheets.specs.Sheets.{Corner}
use Rattle.meaning_shift.specs.Moving.{Movable, Shifted}
use Rattle.memory_layout.specs.Names.{FACES}
use Rattle.memory_layout.specs.Readable.{readable}
use Rattle.walk_answers.specs.Calls.{reach}
use Rattle.meaning_of_moves.specs.Moves.{Lent, lent_model, SameTake, body_set}
use Rattle.meaning_of_moves.specs.Statements.{moving-keeps-the-answer, sets_move}

module _ (y : Limits) (room : List ℕ) (before : Lent) (b r : ℕ) (k : Movable y (lent_model room before) b r) where
  -- ---- by the station's calls: `set_vertex` for each vertex of the body

  module _ (read : readable room before.words before.reals ≡ true) where
    -- 4. so the call answers behind them what it answered before
    pub setting-keeps-the-answer : (t : Corner) (point : ℕ → Point3) → Shifted (lent_model room before) b t point
        → (o : ℕ) (face_marks face_marks' : List ℕ) → reach room FACES face_marks' ≡ reach room FACES face_marks → SameTake room before (body_set room before b point) o b face_marks face_marks'
    setting-keeps-the-answer t point d = moving-keeps-the-answer y room before b r k (body_set room before b point) t point d (sets_move y room before b r k read point)
