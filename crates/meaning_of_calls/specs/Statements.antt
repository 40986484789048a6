-- What each call answers is a definition of `meaning` by name, asked of the model that the lent memory holds (`decode`), behind 9, and behind 8 for marks that are too short.
-- The tables of `meaning_examples` compute these definitions. Assumes nothing.
use Rattle.std.specs.Prelude.{ℕ, ◌/◌, ◌≡◌, true, ◌&&◌, List, [], map, length, Float}
use Rattle.std.proofs.Math.Path.{ap}
use Rattle.std.proofs.Common.{◌∙◌}
use Rattle.interval_arithmetic.specs.Ops.{zero_f}
use Rattle.geom_lines_planes.specs.Refuse.{◌unless◌, ◌then◌}
use Rattle.meaning.specs.Model.{Model, Table, has, point_of}
use Rattle.meaning.specs.Refuse.{lookup}
use Rattle.meaning.specs.Walks.{face_walk, faces_refusal, body_faces, edge_walk, edges_refusal, body_edges, vertex_walk, vertices_refusal, body_vertices, readable_fin, ends_of, fin_vertices}
use Rattle.meaning.specs.Inquire.{box_of, box_refusal, body_bounding_box, solid_sides, sum_volumes, volume_refusal, body_volume}
use Rattle.meaning.specs.Split as Split
use Rattle.meaning.specs.Split.{lo, hi, bounds_refusal, edge_parameter_bounds, split_refusal, split_line_edge}
use Rattle.meaning.specs.Faults.{CheckOptions, report_of, findings, check_refusal, check_body, kept, counts, sawing, is_valid, whole_solid, sawable, fit_to_saw}
use Rattle.meaning_list_laws.specs.Tests.{and_both}
use Rattle.memory_layout.specs.Names.{FACES, EDGES, VERTICES}
use Rattle.memory_layout.specs.Decode.{decode}
use Rattle.memory_layout.specs.Readable.{readable}
use Rattle.memory_records.specs.Seen.{seen_body, seen_region, seen_shell, seen_face, seen_loop, seen_fin, seen_edge, seen_vertex}
use Rattle.memory_lookups.specs.declared.BodyFound.TheVariants as Bodies
use Rattle.memory_lookups.specs.declared.RegionFound.TheVariants as Regions
use Rattle.memory_lookups.specs.declared.ShellFound.TheVariants as Shells
use Rattle.memory_lookups.specs.declared.FaceFound.TheVariants as Faces
use Rattle.memory_lookups.specs.declared.LoopFound.TheVariants as Loops
use Rattle.memory_lookups.specs.declared.FinFound.TheVariants as Fins
use Rattle.memory_lookups.specs.declared.EdgeFound.TheVariants as Edges
use Rattle.memory_lookups.specs.declared.VertexFound.TheVariants as Vertices
use Rattle.memory_lookups.specs.declared.CarrierFound.TheVariants as Carriers
use Rattle.memory_lookups.specs.Lookup.{looked, body_answer, region_answer, shell_answer, face_answer, loop_answer, fin_answer, edge_answer, vertex_answer, curve_answer, surface_answer}
use Rattle.walk_answers.specs.Calls.{reach, in_front, faces_number, faces_handed, edges_number, edges_handed, vertices_number, vertices_handed}
use Rattle.walk_fin_ends.specs.declared.FinVertices.TheVariants as Tips
use Rattle.walk_fin_ends.specs.Answers.{seen_ends, fin_vertices_number, fin_vertices_answer}
use Rattle.split_bounds.specs.declared.ParamRange.{ParamRange}
use Rattle.split_bounds.specs.declared.Bounds.TheVariants as Bounds
use Rattle.split_bounds.specs.Answers.{bounds_number, bounds_answer}
use Rattle.inquire_bbox.specs.Boxes.{seen_box}
use Rattle.station_answers.specs.declared.BoxFound.TheVariants as Boxes
use Rattle.station_answers.specs.declared.Volume.TheVariants as Volumes
use Rattle.station_answers.specs.declared.EdgeSplit.{EdgeSplit}
use Rattle.station_answers.specs.declared.Split.TheVariants as Splits
use Rattle.station_answers.specs.declared.Checked.TheVariants as Checks
use Rattle.station_answers.specs.declared.Sawable.TheVariants as Saws
use Rattle.inquire_box.specs.Answers.{box_number, box_answer}
use Rattle.inquire_volume.specs.Answers.{volume_number, volume_answer}
use Rattle.memory_layout.specs.Limits.{limits}
use Rattle.split_place.specs.SplitNumber.{split_number}
use Rattle.split_edge.specs.After.{split_answer}
use Rattle.check_reasons.specs.Log.{faults_words}
use Rattle.check_report.specs.Calls.{asked, seen_counts, report_on, check_number, check_answer, check_words, fit_answer}
use Rattle.meaning_of_calls.specs.Shown.{◌else◌, shown, on_list, WalkIs}
use Rattle.meaning_of_calls.specs.Laws.{behind-one, behind-two, handed-answer, behind-walk}

-- a range of parameters and the ids of a split, as the calls give them
abbrev pub seen_range : Split.ParamRange → ParamRange
seen_range r = record { lo = r.lo; hi = r.hi }

abbrev pub seen_split : Split.EdgeSplit → EdgeSplit
seen_split s = record { original_edge = s.original_edge; new_edge = s.new_edge; vertex = s.vertex }

module _ (room w : List ℕ) (x : List Float) where
  -- ---- the lookups

  -- f is the lookup in the table t
  abbrev pub Looks : {R B C : Type 0} → (B → C) → (ℕ → C) → (R → B) → Table R → (ℕ → C) → Type 0
  Looks is by seen t f = (i : ℕ) → f i ≡ shown (λ r. is (seen r)) by (9 unless readable room w x else lookup t i)

  looks : {R B C : Type 0} (is : B → C) (by : ℕ → C) (seen : R → B) (t : Table R) → Looks is by seen t (looked room w x is by seen t)
  looks is by seen t i = behind-one is by seen (9 unless readable room w x) (2 unless has t i) (t.slot i)

  pub record Lookups : Type 0 where
    pub body : Looks Bodies.Is Bodies.Refused seen_body (decode room w x).bodies (body_answer room w x)
    pub region : Looks Regions.Is Regions.Refused seen_region (decode room w x).regions (region_answer room w x)
    pub shell : Looks Shells.Is Shells.Refused seen_shell (decode room w x).shells (shell_answer room w x)
    pub face : Looks Faces.Is Faces.Refused seen_face (decode room w x).faces (face_answer room w x)
    pub loop : Looks Loops.Is Loops.Refused seen_loop (decode room w x).loops (loop_answer room w x)
    pub fin : Looks Fins.Is Fins.Refused seen_fin (decode room w x).fins (fin_answer room w x)
    pub edge : Looks Edges.Is Edges.Refused seen_edge (decode room w x).edges (edge_answer room w x)
    pub vertex : Looks Vertices.Is Vertices.Refused seen_vertex (decode room w x).vertices (vertex_answer room w x)
    pub curve : Looks Carriers.Is Carriers.Refused (λ c. c) (decode room w x).curves (curve_answer room w x)
    pub surface : Looks Carriers.Is Carriers.Refused (λ c. c) (decode room w x).surfaces (surface_answer room w x)

  pub lookups-are : Lookups
  unfolding body_answer region_answer shell_answer face_answer loop_answer fin_answer edge_answer vertex_answer curve_answer surface_answer
  lookups-are =
      record {
        body = looks Bodies.Is Bodies.Refused seen_body (decode room w x).bodies;
        region = looks Regions.Is Regions.Refused seen_region (decode room w x).regions;
        shell = looks Shells.Is Shells.Refused seen_shell (decode room w x).shells;
        face = looks Faces.Is Faces.Refused seen_face (decode room w x).faces;
        loop = looks Loops.Is Loops.Refused seen_loop (decode room w x).loops;
        fin = looks Fins.Is Fins.Refused seen_fin (decode room w x).fins;
        edge = looks Edges.Is Edges.Refused seen_edge (decode room w x).edges;
        vertex = looks Vertices.Is Vertices.Refused seen_vertex (decode room w x).vertices;
        curve = looks Carriers.Is Carriers.Refused (λ c. c) (decode room w x).curves;
        surface = looks Carriers.Is Carriers.Refused (λ c. c) (decode room w x).surfaces;
      }

  -- ---- `fin_vertices`, `edge_parameter_bounds`, `split_line_edge`

  pub fin-vertices-are : (i : ℕ) → fin_vertices_answer room w x i ≡ shown (λ e. Tips.Is (seen_ends e)) Tips.Refused (9 unless readable room w x else fin_vertices (decode room w x) i)
  unfolding fin_vertices_answer fin_vertices_number
  fin-vertices-are i =
      behind-one Tips.Is Tips.Refused seen_ends (9 unless readable room w x) (2 unless readable_fin (decode room w x) i) (ends_of (decode room w x) i)

  pub bounds-are : (e : ℕ) → bounds_answer room w x e ≡ shown (λ r. Bounds.Is (seen_range r)) Bounds.Refused (9 unless readable room w x else edge_parameter_bounds (decode room w x) e)
  unfolding bounds_answer bounds_number
  bounds-are e =
      behind-one Bounds.Is Bounds.Refused seen_range (9 unless readable room w x) (bounds_refusal (decode room w x) e) (record { lo = lo (decode room w x) e; hi = hi (decode room w x) e })

  -- what it does to the model: `split-model` of `split_effect`
  pub split-is : (e : ℕ) (t : Float)
      → split_answer room w x e t ≡ shown (λ s. Splits.Is (seen_split s)) Splits.Refused (9 unless readable room w x else split_line_edge (limits room) (decode room w x) e t)
  unfolding split_answer split_number decode
  split-is e t =
      let m = decode room w x in
      behind-one Splits.Is Splits.Refused seen_split (9 unless readable room w x) (split_refusal (limits room) m e t)
      (record { original_edge = e; new_edge = m.edges.used; vertex = m.vertices.used })

  module _ (b : ℕ) where
    -- ---- the walks: the number, and the list handed back

    pub faces-are : (face_marks out : List ℕ)
        → WalkIs (on_list (length out) (9 unless readable room w x then 8 unless reach room FACES face_marks else body_faces (decode room w x) b))
        (faces_number room w x b face_marks out) (faces_handed room w x b face_marks out)
    unfolding faces_number faces_handed
    faces-are face_marks out =
        behind-walk (face_walk (decode room w x) b) (9 unless readable room w x) (8 unless reach room FACES face_marks) (faces_refusal (decode room w x) b) (length out)

    pub edges_are : (face_marks edge_marks out : List ℕ)
        → WalkIs (on_list (length out) (9 unless readable room w x then 8 unless reach room FACES face_marks && reach room EDGES edge_marks else body_edges (decode room w x) b))
        (edges_number room w x b face_marks edge_marks out) (edges_handed room w x b face_marks edge_marks out)
    unfolding edges_number edges_handed
    edges_are face_marks edge_marks out =
        behind-walk (edge_walk (decode room w x) b) (9 unless readable room w x) (8 unless reach room FACES face_marks && reach room EDGES edge_marks) (edges_refusal (decode room w x) b) (length out)

    pub vertices-are : (face_marks edge_marks vertex_marks out : List ℕ)
        → WalkIs
        (on_list (length out)
        (9 unless readable room w x then 8 unless reach room FACES face_marks && reach room EDGES edge_marks && reach room VERTICES vertex_marks else body_vertices (decode room w x) b))
        (vertices_number room w x b face_marks edge_marks vertex_marks out) (vertices_handed room w x b face_marks edge_marks vertex_marks out)
    unfolding vertices_number vertices_handed
    vertices-are face_marks edge_marks vertex_marks out =
        behind-walk (vertex_walk (decode room w x) b) (9 unless readable room w x) (8 unless reach room FACES face_marks && reach room EDGES edge_marks && reach room VERTICES vertex_marks)
        (vertices_refusal (decode room w x) b) (length out)

    -- ---- box and volume

    pub box-is : (face_marks edge_marks vertex_marks : List ℕ)
        → box_answer room w x b face_marks edge_marks vertex_marks
        ≡ shown (λ a. Boxes.Is (seen_box a)) Boxes.Refused
        (9 unless readable room w x then 8 unless reach room FACES face_marks && reach room EDGES edge_marks && reach room VERTICES vertex_marks else body_bounding_box (decode room w x) b)
    unfolding box_answer box_number
    box-is face_marks edge_marks vertex_marks =
        let m = decode room w x in
        behind-two Boxes.Is Boxes.Refused seen_box (9 unless readable room w x) (8 unless reach room FACES face_marks && reach room EDGES edge_marks && reach room VERTICES vertex_marks) (box_refusal m b)
        (box_of (map (point_of m) (vertex_walk m b)))

    pub volume-is : (face_marks : List ℕ)
        → volume_answer room w x b face_marks
        ≡ shown Volumes.Is Volumes.Refused (9 unless readable room w x then 8 unless reach room FACES face_marks else body_volume (decode room w x) b)
    unfolding volume_answer volume_number
    volume-is face_marks =
        let m = decode room w x in
        behind-two Volumes.Is Volumes.Refused (λ v. v) (9 unless readable room w x) (8 unless reach room FACES face_marks) (volume_refusal m b) (sum_volumes m zero_f (solid_sides m b))

    module _ (face_marks edge_marks : List ℕ) where
      -- ---- `check_body`: its answer, and its list of faults

      pub check-is : (o : CheckOptions) (nums : List ℕ)
          → check_answer room w x b o face_marks edge_marks nums
          ≡ shown (λ r. Checks.Is (seen_counts (counts (length nums / 4) r))) Checks.Refused
          (9 unless readable room w x then 8 unless reach room FACES face_marks && reach room EDGES edge_marks else check_body (decode room w x) o b)
      unfolding check_answer check_number report_on
      check-is o nums =
          behind-two Checks.Is Checks.Refused (λ r. seen_counts (counts (length nums / 4) r)) (9 unless readable room w x) (8 unless reach room FACES face_marks && reach room EDGES edge_marks)
          (check_refusal (decode room w x) o b) (report_of (findings (decode room w x) o b))

      pub faults-are : (o : CheckOptions) (nums : List ℕ)
          → check_words room w x b o face_marks edge_marks nums
          ≡ in_front (shown (λ r. faults_words (kept (length nums / 4) r)) (λ _. [])
          (9 unless readable room w x then 8 unless reach room FACES face_marks && reach room EDGES edge_marks else check_body (decode room w x) o b)) nums
      unfolding check_words check_number report_on
      faults-are o nums =
          let r = report_of (findings (decode room w x) o b) in
          ap (λ l. in_front l nums)
          (handed-answer
          (9 unless readable room w x then 8 unless reach room FACES face_marks && reach room EDGES edge_marks then check_refusal (decode room w x) o b)
          (faults_words (kept (length nums / 4) r))
          ∙ behind-two (λ l. l) (λ _. []) (λ r. faults_words (kept (length nums / 4) r)) (9 unless readable room w x) (8 unless reach room FACES face_marks && reach room EDGES edge_marks)
          (check_refusal (decode room w x) o b) r)

      -- ---- fit to saw, and that it is a report with geometry on, three samples, no fault and `unchecked` 0, of a whole solid (W-203)

      pub fit_is : fit_answer room w x b face_marks edge_marks
          ≡ shown Saws.Is Saws.Refused (9 unless readable room w x then 8 unless reach room FACES face_marks && reach room EDGES edge_marks else fit_to_saw (decode room w x) b)
      unfolding fit_answer check_number
      fit_is =
          behind-two Saws.Is Saws.Refused (λ v. v) (9 unless readable room w x) (8 unless reach room FACES face_marks && reach room EDGES edge_marks) (check_refusal (decode room w x) sawing b)
          (sawable (decode room w x) b)

      pub fit-by-report : fit_answer room w x b face_marks edge_marks
          ≡ shown (λ r. Saws.Is (is_valid r && whole_solid (decode room w x) b)) Saws.Refused
          (9 unless readable room w x then 8 unless reach room FACES face_marks && reach room EDGES edge_marks else check_body (decode room w x) (asked true 3) b)
      unfolding fit_answer check_number sawable
      fit-by-report =
          behind-two Saws.Is Saws.Refused (λ r. is_valid r && whole_solid (decode room w x) b) (9 unless readable room w x) (8 unless reach room FACES face_marks && reach room EDGES edge_marks) (check_refusal (decode room w x) sawing b)
          (report_of (findings (decode room w x) sawing b))

-- whatever is fit to saw was fit by 01's rule alone, before W-203
pub fit-was-fit : (m : Model) (b : ℕ) → sawable m b ≡ true → is_valid (report_of (findings m sawing b)) ≡ true
unfolding sawable
fit-was-fit m b h = (and_both (is_valid (report_of (findings m sawing b))) (whole_solid m b) h).0
