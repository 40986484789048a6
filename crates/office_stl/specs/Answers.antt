-- What the length and the writing of a body's binary STL answer an office (W-209), and the lent bytes behind the call. Definitions only.
-- Which bytes they are, and the refusals behind 9 and the office's 1, stand in `stl_writer` and `stl_format`.
use Rattle.std.specs.Prelude.{ℕ, List, length, Float}
use Rattle.geom_lines_planes.specs.Refuse.{answer}
use Rattle.memory_layout.specs.Decode.{decode}
use Rattle.memory_writes.specs.Put.{over, unless_refused}
use Rattle.memory_offices.specs.Sight.{by_office, body_asked}
use Rattle.stl_format.specs.Stl.{body_stl}
use Rattle.stl_writer.specs.declared.StlLength.{StlLength}
use Rattle.stl_writer.specs.declared.StlLength.TheVariants.{Is, Refused}
use Rattle.stl_writer.specs.Answers.{length_number, write_number}

-- the file
abbrev pub stl_asked : List ℕ → List ℕ → List Float → ℕ → ℕ → List ℕ
stl_asked room w x o b = body_stl (decode room w x) (body_asked room w x o b)

module _ (room w : List ℕ) (x : List Float) (o b : ℕ) (face_marks : List ℕ) where
  unfoldable pub office_length_number : ℕ
  office_length_number = by_office room w x o (length_number room w x (body_asked room w x o b) face_marks)

  -- how many bytes, told alone
  unfoldable pub office_length : StlLength
  office_length = answer Is Refused office_length_number (length (stl_asked room w x o b))

  unfoldable pub office_write_number : List ℕ → ℕ
  office_write_number bytes = by_office room w x o (write_number room w x (body_asked room w x o b) face_marks bytes)

  unfoldable pub office_write : List ℕ → StlLength
  office_write bytes = answer Is Refused (office_write_number bytes) (length (stl_asked room w x o b))

  -- "the lent bytes are then untouched"; those behind the end of the file always are
  unfoldable pub office_written : List ℕ → List ℕ
  office_written bytes = unless_refused (office_write_number bytes) (over 0 (stl_asked room w x o b) bytes) bytes
