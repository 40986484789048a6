-- What `body_bounding_box` answers (inquire.rs; 01, "Box and volume"; "Every call tests 9 first"; "Marks shorter than their table's capacity give 8, right after 9"). Definitions only.
use Rattle.std.specs.Prelude.{ℕ, ◌&&◌, List, map, Float}
use Rattle.geom_lines_planes.specs.Refuse.{◌unless◌, ◌then◌, answer}
use Rattle.meaning.specs.Model.{point_of}
use Rattle.meaning.specs.Walks.{vertex_walk}
use Rattle.meaning.specs.Inquire.{box_of, box_refusal}
use Rattle.memory_layout.specs.Names.{FACES, EDGES, VERTICES}
use Rattle.memory_layout.specs.Decode.{decode}
use Rattle.memory_layout.specs.Readable.{readable}
use Rattle.walk_answers.specs.Calls.{reach}
use Rattle.inquire_bbox.specs.Boxes.{seen_box}
use Rattle.station_answers.specs.declared.BoxFound.{BoxFound}
use Rattle.station_answers.specs.declared.BoxFound.TheVariants.{Is, Refused}

module _ (room w : List ℕ) (x : List Float) (b : ℕ) (face_marks edge_marks vertex_marks : List ℕ) where
  unfoldable pub box_number : ℕ
  box_number =
      9 unless readable room w x
      then 8 unless reach room FACES face_marks && reach room EDGES edge_marks && reach room VERTICES vertex_marks
      then box_refusal (decode room w x) b

  unfoldable pub box_answer : BoxFound
  box_answer = answer Is Refused box_number (seen_box (box_of (map (point_of (decode room w x)) (vertex_walk (decode room w x) b))))
