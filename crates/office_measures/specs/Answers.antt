-- What box, volume, report, its first fault and fit to saw answer an office (W-206). Definitions only.
-- What each measures, and its refusals behind 9 and the office's 1, stand in `inquire_box`, `inquire_volume` and `check_report`.
use Rattle.std.specs.Prelude.{ℕ, ◌/◌, List, map, length, Float}
use Rattle.interval_arithmetic.specs.Ops.{zero_f}
use Rattle.geom_lines_planes.specs.Refuse.{answer}
use Rattle.meaning.specs.Model.{point_of}
use Rattle.meaning.specs.Walks.{vertex_walk}
use Rattle.meaning.specs.Inquire.{box_of, solid_sides, sum_volumes}
use Rattle.meaning.specs.Faults.{CheckOptions, kept, counts, sawing, sawable}
use Rattle.memory_layout.specs.Decode.{decode}
use Rattle.walk_answers.specs.Calls.{handed, in_front}
use Rattle.inquire_bbox.specs.Boxes.{seen_box}
use Rattle.inquire_box.specs.Answers.{box_number}
use Rattle.inquire_volume.specs.Answers.{volume_number}
use Rattle.check_reasons.specs.Log.{faults_words}
use Rattle.check_report.specs.declared.FirstFault.{FirstFault}
use Rattle.check_report.specs.declared.FirstFault.TheVariants as Firsts
use Rattle.check_report.specs.Calls.{report_on, seen_counts, first_of, told, check_number}
use Rattle.memory_offices.specs.Sight.{by_office, body_asked}
use Rattle.station_answers.specs.declared.BoxFound.{BoxFound}
use Rattle.station_answers.specs.declared.BoxFound.TheVariants as Boxes
use Rattle.station_answers.specs.declared.Volume.{Volume}
use Rattle.station_answers.specs.declared.Volume.TheVariants as Volumes
use Rattle.station_answers.specs.declared.Checked.{Checked}
use Rattle.station_answers.specs.declared.Checked.TheVariants as Checks
use Rattle.station_answers.specs.declared.Sawable.{Sawable}
use Rattle.station_answers.specs.declared.Sawable.TheVariants as Saws

module _ (room w : List ℕ) (x : List Float) (o b : ℕ) where
  -- ---- box and volume

  unfoldable pub office_box_number : List ℕ → List ℕ → List ℕ → ℕ
  office_box_number face_marks edge_marks vertex_marks = by_office room w x o (box_number room w x (body_asked room w x o b) face_marks edge_marks vertex_marks)

  unfoldable pub office_box : List ℕ → List ℕ → List ℕ → BoxFound
  office_box face_marks edge_marks vertex_marks =
      answer Boxes.Is Boxes.Refused (office_box_number face_marks edge_marks vertex_marks) (seen_box (box_of (map (point_of (decode room w x)) (vertex_walk (decode room w x) (body_asked room w x o b)))))

  unfoldable pub office_volume_number : List ℕ → ℕ
  office_volume_number face_marks = by_office room w x o (volume_number room w x (body_asked room w x o b) face_marks)

  unfoldable pub office_volume : List ℕ → Volume
  office_volume face_marks = answer Volumes.Is Volumes.Refused (office_volume_number face_marks) (sum_volumes (decode room w x) zero_f (solid_sides (decode room w x) (body_asked room w x o b)))

  -- ---- report and fit to saw

  unfoldable pub office_check_number : CheckOptions → List ℕ → List ℕ → ℕ
  office_check_number c face_marks edge_marks = by_office room w x o (check_number room w x (body_asked room w x o b) c face_marks edge_marks)

  unfoldable pub office_report : CheckOptions → List ℕ → List ℕ → List ℕ → Checked
  office_report c face_marks edge_marks nums =
      answer Checks.Is Checks.Refused (office_check_number c face_marks edge_marks) (seen_counts (counts (length nums / 4) (report_on room w x (body_asked room w x o b) c)))

  -- the lent list of faults behind the call
  unfoldable pub office_faults : CheckOptions → List ℕ → List ℕ → List ℕ → List ℕ
  office_faults c face_marks edge_marks nums =
      in_front (handed (office_check_number c face_marks edge_marks) (faults_words (kept (length nums / 4) (report_on room w x (body_asked room w x o b) c)))) nums

  -- W-207: the first of them
  unfoldable pub office_first : CheckOptions → List ℕ → List ℕ → FirstFault
  office_first c face_marks edge_marks = answer told Firsts.Refused (office_check_number c face_marks edge_marks) (first_of (report_on room w x (body_asked room w x o b) c).faults)

  unfoldable pub office_fit : List ℕ → List ℕ → Sawable
  office_fit face_marks edge_marks = answer Saws.Is Saws.Refused (office_check_number sawing face_marks edge_marks) (sawable (decode room w x) (body_asked room w x o b))
