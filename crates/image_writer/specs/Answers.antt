-- What the length and the writing of an image answer, and what the writing leaves in the lent bytes (W-202, "Refusals: 9 for the image, then 8 where the lent tables or bytes are too short.";
-- of the writer 9 is for tables that cannot be read). Definitions only.
use Rattle.std.specs.Prelude.{ℕ, List, leb, length, Float}
use Rattle.geom_lines_planes.specs.Refuse.{◌unless◌, ◌then◌, answer}
use Rattle.memory_layout.specs.Decode.{decode}
use Rattle.memory_layout.specs.Readable.{readable}
use Rattle.memory_writes.specs.Put.{over, unless_refused}
use Rattle.image_format.specs.Image.{image_of}
use Rattle.image_writer.specs.declared.Length.{Length}
use Rattle.image_writer.specs.declared.Length.TheVariants.{Is, Refused}

module _ (room w : List ℕ) (x : List Float) where
  abbrev pub image : List ℕ
  image = image_of (decode room w x)

  unfoldable pub length_number : ℕ
  length_number = 9 unless readable room w x

  unfoldable pub length_answer : Length
  length_answer = answer Is Refused length_number (length image)

  unfoldable pub write_number : List ℕ → ℕ
  write_number b = 9 unless readable room w x then 8 unless leb (length image) (length b)

  unfoldable pub write_answer : List ℕ → Length
  write_answer b = answer Is Refused (write_number b) (length image)

  unfoldable pub written_bytes : List ℕ → List ℕ
  written_bytes b = unless_refused (write_number b) (over 0 image b) b
