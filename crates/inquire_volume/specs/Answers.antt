-- What `body_volume` answers (inquire.rs; 01, "Box and volume"; "Every call tests 9 first"; "Marks shorter than their table's capacity give 8, right after 9"). Definitions only.
use Rattle.std.specs.Prelude.{ℕ, List, Float}
use Rattle.interval_arithmetic.specs.Ops.{zero_f}
use Rattle.geom_lines_planes.specs.Refuse.{◌unless◌, ◌then◌, answer}
use Rattle.meaning.specs.Inquire.{solid_sides, sum_volumes, volume_refusal}
use Rattle.memory_layout.specs.Names.{FACES}
use Rattle.memory_layout.specs.Decode.{decode}
use Rattle.memory_layout.specs.Readable.{readable}
use Rattle.walk_answers.specs.Calls.{reach}
use Rattle.station_answers.specs.declared.Volume.{Volume}
use Rattle.station_answers.specs.declared.Volume.TheVariants.{Is, Refused}

module _ (room w : List ℕ) (x : List Float) (b : ℕ) (face_marks : List ℕ) where
  unfoldable pub volume_number : ℕ
  volume_number =
      9 unless readable room w x
      then 8 unless reach room FACES face_marks
      then volume_refusal (decode room w x) b

  unfoldable pub volume_answer : Volume
  volume_answer = answer Is Refused volume_number (sum_volumes (decode room w x) zero_f (solid_sides (decode room w x) b))
