-- What the length and the writing of a body's binary STL answer, and what the writing leaves in the lent bytes (W-209; 01, "Every call tests 9 first"; "Marks shorter than their table's capacity
-- give 8, right after 9"). Definitions only.
use Rattle.std.specs.Prelude.{ℕ, List, length, Float}
use Rattle.geom_lines_planes.specs.Refuse.{◌unless◌, ◌then◌, answer}
use Rattle.memory_layout.specs.Names.{FACES}
use Rattle.memory_layout.specs.Decode.{decode}
use Rattle.memory_layout.specs.Readable.{readable}
use Rattle.memory_writes.specs.Put.{over, unless_refused}
use Rattle.walk_answers.specs.Calls.{reach}
use Rattle.stl_format.specs.Stl.{body_stl, stl_refusal, write_refusal}
use Rattle.stl_writer.specs.declared.StlLength.{StlLength}
use Rattle.stl_writer.specs.declared.StlLength.TheVariants.{Is, Refused}

module _ (room w : List ℕ) (x : List Float) (b : ℕ) (face_marks : List ℕ) where
  abbrev pub stl : List ℕ
  stl = body_stl (decode room w x) b

  unfoldable pub length_number : ℕ
  length_number =
      9 unless readable room w x
      then 8 unless reach room FACES face_marks
      then stl_refusal (decode room w x) b

  unfoldable pub length_answer : StlLength
  length_answer = answer Is Refused length_number (length stl)

  unfoldable pub write_number : List ℕ → ℕ
  write_number bytes =
      9 unless readable room w x
      then 8 unless reach room FACES face_marks
      then write_refusal (decode room w x) b (length bytes)

  unfoldable pub write_answer : List ℕ → StlLength
  write_answer bytes = answer Is Refused (write_number bytes) (length stl)

  -- "the lent bytes are then untouched", and those behind the file's end always are
  unfoldable pub written_bytes : List ℕ → List ℕ
  written_bytes bytes = unless_refused (write_number bytes) (over 0 stl bytes) bytes
