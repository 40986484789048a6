-- A stone moved in lent memory (W-214), by the station's own calls or in any other way, and what the call about the sheet then answers. Definitions only.
use Rattle.std.specs.Prelude.{ℕ, ◌≡◌, true, List, [], ◌∷◌, Float}
use Rattle.float_vectors.specs.declared.vector.Point3.{Point3}
use Rattle.geom_lines_planes.specs.declared.tolerance.Tolerance.{Tolerance}
use Rattle.meaning.specs.Model.{Model, vertex}
use Rattle.meaning.specs.Edits.{tolerance_ok}
use Rattle.meaning.specs.Walks.{vertex_walk}
use Rattle.meaning_shift.specs.Moving.{placed}
use Rattle.memory_layout.specs.Names.{VERTICES}
use Rattle.memory_layout.specs.Decode.{decode}
use Rattle.memory_layout.specs.Readable.{readable}
use Rattle.memory_writes.specs.Change.{SameModel}
use Rattle.edit_core.specs.Answers.{edit_number, edit_words, edit_reals}
use Rattle.edit_fields.specs.Fields.{vertex_fields, vertex_floats}
use Rattle.sheet_words.specs.declared.StoneSheet.{StoneSheet}
use Rattle.office_sheets.specs.Answers.{take_number, taken_sheet}

-- the words and the floats of the tables, which have the capacities `room` in all that follows
pub record Lent : Type 0 where
  pub words : List ℕ
  pub reals : List Float

-- the model that they hold
abbrev pub lent_model : List ℕ → Lent → Model
lent_model room a = decode room a.words a.reals

-- both can be read, and `after` holds the model of `before` with the vertices of the body b at their points: those have moved and nothing else (`SameModel`: as many records, and the same in use)
pub record Moved (room : List ℕ) (before after : Lent) (b : ℕ) (point : ℕ → Point3) : Type 0 where
  pub read : readable room before.words before.reals ≡ true
  pub read-too : readable room after.words after.reals ≡ true
  pub model : SameModel (lent_model room after) (placed (lent_model room before) b point)

-- what the office o is answered where it has the body taken in on a sheet (`taken` of office_sheets): the same number and the same five words, whatever the sheet
pub record SameTake (room : List ℕ) (before after : Lent) (o b : ℕ) (face_marks face_marks' : List ℕ) : Type 0 where
  pub number : (s : StoneSheet) → take_number room after.words after.reals o b face_marks' s ≡ take_number room before.words before.reals o b face_marks s
  pub sheet : (s : StoneSheet) → taken_sheet room after.words after.reals o b face_marks' s ≡ taken_sheet room before.words before.reals o b face_marks s

-- ---- by the station's calls

module _ (room : List ℕ) (point : ℕ → Point3) (tolerance : ℕ → Tolerance) where
  -- behind `set_vertex` of edit_sets, whose promises these are: the vertex v at its point
  abbrev pub vertex_set : ℕ → Lent → Lent
  vertex_set v a =
      record {
        words = edit_words room a.words a.reals (tolerance_ok (tolerance v)) VERTICES v 0 (vertex_fields (tolerance v));
        reals = edit_reals room a.words a.reals (tolerance_ok (tolerance v)) VERTICES v (vertex_floats (point v) (tolerance v));
      }

  -- behind one call after the other, and what they answer
  unfoldable pub all_set : List ℕ → Lent → Lent
  all_set [] a = a
  all_set (v ∷ l) a = all_set l (vertex_set v a)

  unfoldable pub set_numbers : List ℕ → Lent → List ℕ
  set_numbers [] a = []
  set_numbers (v ∷ l) a = edit_number room a.words a.reals (tolerance_ok (tolerance v)) VERTICES v ∷ set_numbers l (vertex_set v a)

-- "Shift every vertex of the body": a call for each of its walk, with the tolerance that the vertex has
module _ (room : List ℕ) (a : Lent) (b : ℕ) (point : ℕ → Point3) where
  abbrev own_tolerance : ℕ → Tolerance
  own_tolerance v = (vertex (lent_model room a) v).tolerance

  abbrev pub body_set : Lent
  body_set = all_set room point own_tolerance (vertex_walk (lent_model room a) b) a

  abbrev pub body_numbers : List ℕ
  body_numbers = set_numbers room point own_tolerance (vertex_walk (lent_model room a) b) a
