-- What each call answers the office that asks (W-206): behind 9 and 1 for an office above 1, and behind 8 for marks that are too short, the same definition of `meaning`, of the body or the edge
-- that the id is for that office. Assumes nothing.
use Rattle.std.specs.Prelude.{ℕ, ◌/◌, ◌≡◌, ◌&&◌, List, [], map, length, Float}
use Rattle.std.proofs.Math.Path.{ap}
use Rattle.std.proofs.Common.{◌∙◌}
use Rattle.interval_arithmetic.specs.Ops.{zero_f}
use Rattle.geom_lines_planes.specs.Refuse.{◌unless◌, ◌then◌}
use Rattle.meaning.specs.Model.{has, point_of}
use Rattle.meaning.specs.Refuse.{lookup, given}
use Rattle.meaning.specs.Walks.{face_walk, body_faces, vertex_walk, body_vertices}
use Rattle.meaning.specs.Inquire.{box_of, body_bounding_box, solid_sides, sum_volumes, body_volume}
use Rattle.meaning.specs.Faults.{CheckOptions, report_of, findings, check_refusal, check_body, kept, counts, sawing, sawable, fit_to_saw}
use Rattle.meaning.specs.Offices.{office_refusal, body_for, office_split_refusal, office_split}
use Rattle.memory_layout.specs.Names.{FACES, EDGES, VERTICES}
use Rattle.memory_layout.specs.Decode.{decode}
use Rattle.memory_layout.specs.Readable.{readable}
use Rattle.memory_records.specs.Seen.{seen_body}
use Rattle.memory_contains.specs.declared.EntityRef.{EntityRef}
use Rattle.memory_contains.specs.declared.Contained.TheVariants as Contents
use Rattle.memory_contains.specs.Answers.{contained}
use Rattle.memory_lookups.specs.declared.BodyFound.TheVariants as Bodies
use Rattle.memory_lookups.specs.Lookup.{body_answer}
use Rattle.memory_offices.specs.Sight.{by_office, body_asked}
use Rattle.walk_answers.specs.Calls.{reach, handed, in_front, faces_number, faces_handed, vertices_number, vertices_handed}
use Rattle.inquire_bbox.specs.Boxes.{seen_box}
use Rattle.inquire_box.specs.Answers.{box_number, box_answer}
use Rattle.inquire_volume.specs.Answers.{volume_number, volume_answer}
use Rattle.check_reasons.specs.Log.{faults_words}
use Rattle.check_report.specs.Calls.{seen_counts, first_of, told, report_on, check_number, check_answer, fit_answer}
use Rattle.check_report.specs.declared.FirstFault.TheVariants as Firsts
use Rattle.memory_layout.specs.Limits.{limits}
use Rattle.split_place.specs.SplitNumber.{office_split_number}
use Rattle.split_edge.specs.After.{office_split_answer}
use Rattle.station_answers.specs.declared.BoxFound.TheVariants as Boxes
use Rattle.station_answers.specs.declared.Volume.TheVariants as Volumes
use Rattle.station_answers.specs.declared.Split.TheVariants as Splits
use Rattle.station_answers.specs.declared.Checked.TheVariants as Checks
use Rattle.station_answers.specs.declared.Sawable.TheVariants as Saws
use Rattle.office_bodies.specs.Answers.{entity_for, office_body_number, office_body, office_contains}
use Rattle.office_walks.specs.Calls.{office_faces_number, office_faces_handed, office_vertices_number, office_vertices_handed}
use Rattle.office_measures.specs.Answers.{office_box_number, office_box, office_volume_number, office_volume, office_check_number, office_report, office_faults, office_first, office_fit}
use Rattle.meaning_of_calls.specs.Shown.{◌else◌, shown, on_list, WalkIs}
use Rattle.meaning_of_calls.specs.Laws.{behind-one, behind-two, handed-answer, office-one, office-two, office-walk}
use Rattle.meaning_of_calls.specs.Statements.{seen_split, lookups-are, faces-are, vertices-are, box-is, volume-is, check-is, fit_is}

module _ (room w : List ℕ) (x : List Float) (o : ℕ) where
  -- ---- a body looked up, `contains`, the split

  pub body-told : (i : ℕ)
      → office_body room w x o i
      ≡ shown (λ r. Bodies.Is (seen_body r)) Bodies.Refused (9 unless readable room w x then office_refusal o else lookup (decode room w x).bodies (body_for (decode room w x) o i))
  unfolding office_body office_body_number by_office body_answer
  body-told i =
      let m = decode room w x in
      office-one Bodies.Is Bodies.Refused (λ r. Bodies.Is (seen_body r)) (seen_body (m.bodies.slot (body_for m o i))) (lookup m.bodies (body_for m o i)) (9 unless readable room w x)
      (office_refusal o) (2 unless has m.bodies (body_for m o i)) ((lookups-are room w x).body (body_for m o i))

  pub contains-told : (e : EntityRef)
      → office_contains room w x o e
      ≡ shown Contents.Is Contents.Refused (9 unless readable room w x then office_refusal o else given (contained (decode room w x) (entity_for (decode room w x) o e)))
  unfolding office_contains by_office
  contains-told e = behind-two Contents.Is Contents.Refused (λ b. b) (9 unless readable room w x) (office_refusal o) 0 (contained (decode room w x) (entity_for (decode room w x) o e))

  pub split-told : (e : ℕ) (t : Float)
      → office_split_answer room w x o e t ≡ shown (λ s. Splits.Is (seen_split s)) Splits.Refused (9 unless readable room w x else office_split (limits room) (decode room w x) o e t)
  unfolding office_split_answer office_split_number decode
  split-told e t =
      let m = decode room w x in
      behind-one Splits.Is Splits.Refused seen_split (9 unless readable room w x) (office_split_refusal (limits room) m o e t)
      (record { original_edge = e; new_edge = m.edges.used; vertex = m.vertices.used })

  module _ (b : ℕ) where
    -- ---- the walks: the number, and the list handed back

    pub faces-told : (face_marks out : List ℕ)
        → WalkIs
        (on_list (length out) (9 unless readable room w x then office_refusal o then 8 unless reach room FACES face_marks else body_faces (decode room w x) (body_for (decode room w x) o b)))
        (office_faces_number room w x o b face_marks out) (office_faces_handed room w x o b face_marks out)
    unfolding office_faces_number office_faces_handed by_office faces_number faces_handed
    faces-told face_marks out =
        let m = decode room w x in
        office-walk (face_walk m (body_for m o b)) (body_faces m (body_for m o b)) (length out) (9 unless readable room w x) (office_refusal o) (8 unless reach room FACES face_marks) _
        (faces-are room w x (body_for m o b) face_marks out)

    pub vertices-told : (face_marks edge_marks vertex_marks out : List ℕ)
        → WalkIs
        (on_list (length out) (9 unless readable room w x then office_refusal o then 8 unless reach room FACES face_marks && reach room EDGES edge_marks && reach room VERTICES vertex_marks else body_vertices (decode room w x) (body_for (decode room w x) o b)))
        (office_vertices_number room w x o b face_marks edge_marks vertex_marks out) (office_vertices_handed room w x o b face_marks edge_marks vertex_marks out)
    unfolding office_vertices_number office_vertices_handed by_office vertices_number vertices_handed
    vertices-told face_marks edge_marks vertex_marks out =
        let m = decode room w x in
        office-walk (vertex_walk m (body_for m o b)) (body_vertices m (body_for m o b)) (length out) (9 unless readable room w x) (office_refusal o) (8 unless reach room FACES face_marks && reach room EDGES edge_marks && reach room VERTICES vertex_marks) _
        (vertices-are room w x (body_for m o b) face_marks edge_marks vertex_marks out)

    -- ---- box and volume

    pub box-told : (face_marks edge_marks vertex_marks : List ℕ)
        → office_box room w x o b face_marks edge_marks vertex_marks
        ≡ shown (λ a. Boxes.Is (seen_box a)) Boxes.Refused
        (9 unless readable room w x then office_refusal o then 8 unless reach room FACES face_marks && reach room EDGES edge_marks && reach room VERTICES vertex_marks else body_bounding_box (decode room w x) (body_for (decode room w x) o b))
    unfolding office_box office_box_number by_office box_answer box_number
    box-told face_marks edge_marks vertex_marks =
        let m = decode room w x in
        office-two Boxes.Is Boxes.Refused (λ a. Boxes.Is (seen_box a)) (seen_box (box_of (map (point_of m) (vertex_walk m (body_for m o b))))) (body_bounding_box m (body_for m o b)) (9 unless readable room w x)
        (office_refusal o) (8 unless reach room FACES face_marks && reach room EDGES edge_marks && reach room VERTICES vertex_marks) _ (box-is room w x (body_for m o b) face_marks edge_marks vertex_marks)

    pub volume-told : (face_marks : List ℕ)
        → office_volume room w x o b face_marks
        ≡ shown Volumes.Is Volumes.Refused
        (9 unless readable room w x then office_refusal o then 8 unless reach room FACES face_marks else body_volume (decode room w x) (body_for (decode room w x) o b))
    unfolding office_volume office_volume_number by_office volume_answer volume_number
    volume-told face_marks =
        let m = decode room w x in
        office-two Volumes.Is Volumes.Refused Volumes.Is (sum_volumes m zero_f (solid_sides m (body_for m o b))) (body_volume m (body_for m o b)) (9 unless readable room w x)
        (office_refusal o) (8 unless reach room FACES face_marks) _ (volume-is room w x (body_for m o b) face_marks)

    -- ---- `check_body`, its first fault and fit to saw

    module _ (face_marks edge_marks : List ℕ) where
      pub check-told : (c : CheckOptions) (nums : List ℕ)
          → office_report room w x o b c face_marks edge_marks nums
          ≡ shown (λ r. Checks.Is (seen_counts (counts (length nums / 4) r))) Checks.Refused
          (9 unless readable room w x then office_refusal o then 8 unless reach room FACES face_marks && reach room EDGES edge_marks else check_body (decode room w x) c (body_for (decode room w x) o b))
      unfolding office_report office_check_number by_office check_answer check_number
      check-told c nums =
          let m = decode room w x in
          office-two Checks.Is Checks.Refused (λ r. Checks.Is (seen_counts (counts (length nums / 4) r))) (seen_counts (counts (length nums / 4) (report_on room w x (body_for m o b) c))) (check_body m c (body_for m o b))
          (9 unless readable room w x) (office_refusal o) (8 unless reach room FACES face_marks && reach room EDGES edge_marks) _ (check-is room w x (body_for m o b) face_marks edge_marks c nums)

      pub faults-told : (c : CheckOptions) (nums : List ℕ)
          → office_faults room w x o b c face_marks edge_marks nums
          ≡ in_front (shown (λ r. faults_words (kept (length nums / 4) r)) (λ _. [])
          (9 unless readable room w x then office_refusal o then 8 unless reach room FACES face_marks && reach room EDGES edge_marks else check_body (decode room w x) c (body_for (decode room w x) o b))) nums
      unfolding office_faults office_check_number by_office check_number report_on
      faults-told c nums =
          let m = decode room w x in
          let r = report_of (findings m c (body_for m o b)) in
          ap (λ l. in_front l nums)
          (handed-answer _ (faults_words (kept (length nums / 4) r))
          ∙ office-two (λ l. l) (λ _. []) (λ r. faults_words (kept (length nums / 4) r)) (faults_words (kept (length nums / 4) r)) (check_body m c (body_for m o b)) (9 unless readable room w x)
          (office_refusal o) (8 unless reach room FACES face_marks && reach room EDGES edge_marks) (check_refusal m c (body_for m o b))
          (behind-two (λ l. l) (λ _. []) (λ r. faults_words (kept (length nums / 4) r)) (9 unless readable room w x) (8 unless reach room FACES face_marks && reach room EDGES edge_marks) (check_refusal m c (body_for m o b)) r))

      -- W-207, "it gives the first entry of the full list for the same options, and "none" exactly where that list has no entry"
      pub first-told : (c : CheckOptions)
          → office_first room w x o b c face_marks edge_marks
          ≡ shown (λ r. told (first_of r.faults)) Firsts.Refused
          (9 unless readable room w x then office_refusal o then 8 unless reach room FACES face_marks && reach room EDGES edge_marks else check_body (decode room w x) c (body_for (decode room w x) o b))
      unfolding office_first office_check_number by_office check_number report_on
      first-told c =
          let m = decode room w x in
          let r = report_of (findings m c (body_for m o b)) in
          office-two told Firsts.Refused (λ r. told (first_of r.faults)) (first_of r.faults) (check_body m c (body_for m o b)) (9 unless readable room w x) (office_refusal o)
          (8 unless reach room FACES face_marks && reach room EDGES edge_marks) (check_refusal m c (body_for m o b))
          (behind-two told Firsts.Refused (λ r. first_of r.faults) (9 unless readable room w x) (8 unless reach room FACES face_marks && reach room EDGES edge_marks) (check_refusal m c (body_for m o b)) r)

      pub fit-told : office_fit room w x o b face_marks edge_marks
          ≡ shown Saws.Is Saws.Refused
          (9 unless readable room w x then office_refusal o then 8 unless reach room FACES face_marks && reach room EDGES edge_marks else fit_to_saw (decode room w x) (body_for (decode room w x) o b))
      unfolding office_fit office_check_number by_office fit_answer check_number
      fit-told =
          let m = decode room w x in
          office-two Saws.Is Saws.Refused Saws.Is (sawable m (body_for m o b)) (fit_to_saw m (body_for m o b)) (9 unless readable room w x)
          (office_refusal o) (8 unless reach room FACES face_marks && reach room EDGES edge_marks) _ (fit_is room w x (body_for m o b) face_marks edge_marks)
