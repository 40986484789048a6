-- What an office is told by calls on two lent memories that are one and the same to it (W-206): "provided that .. both sets of tables are readable", whatever else stands in them, and with marks that are long enough
-- in both or in neither. The answers are compared whole: values, lists, refusals and their numbers. Assumes nothing.
use Rattle.std.specs.Prelude.{ℕ, ◌≡◌, Bool, true, ◌&&◌, List, [], Float}
use Rattle.std.proofs.Common.{sym, ap, ◌∙◌}
use Rattle.geom_lines_planes.specs.Refuse.{◌unless◌, ◌then◌}
use Rattle.meaning.specs.Refuse.{Answer}
use Rattle.meaning.specs.Faults.{CheckOptions}
use Rattle.meaning.specs.Offices.{office_refusal}
use Rattle.memory_layout.specs.Names.{FACES, EDGES, VERTICES}
use Rattle.memory_layout.specs.Readable.{readable}
use Rattle.walk_answers.specs.Calls.{reach}
use Rattle.office_walks.specs.Calls.{office_faces_number, office_faces_handed, office_edges_number, office_edges_handed, office_vertices_number, office_vertices_handed}
use Rattle.office_measures.specs.Answers.{office_box, office_volume, office_report, office_faults, office_first, office_fit}
use Rattle.sheet_words.specs.declared.StoneSheet.{StoneSheet}
use Rattle.office_sheets.specs.Answers.{take_number, taken_sheet}
use Rattle.meaning_of_calls.specs.Shown.{◌else◌, shown, WalkIs}

-- the marks that a call is lent on either memory
pub record Marks : Type 0 where
  pub faces : List ℕ
  pub edges : List ℕ
  pub vertices : List ℕ

-- each is long enough in both or in neither
pub record Alike (room room' : List ℕ) (a a' : Marks) : Type 0 where
  pub faces : reach room FACES a.faces ≡ reach room' FACES a'.faces
  pub edges : reach room EDGES a.edges ≡ reach room' EDGES a'.edges
  pub vertices : reach room VERTICES a.vertices ≡ reach room' VERTICES a'.vertices

-- all that an office is told of the id b
pub record SameTold (room w : List ℕ) (x : List Float) (room' w' : List ℕ) (x' : List Float) (o b : ℕ) (a a' : Marks) : Type 0 where
  pub faces : (out : List ℕ) → (office_faces_number room w x o b a.faces out ≡ office_faces_number room' w' x' o b a'.faces out) × (office_faces_handed room w x o b a.faces out ≡ office_faces_handed room' w' x' o b a'.faces out)
  pub edges : (out : List ℕ) → (office_edges_number room w x o b a.faces a.edges out ≡ office_edges_number room' w' x' o b a'.faces a'.edges out) × (office_edges_handed room w x o b a.faces a.edges out ≡ office_edges_handed room' w' x' o b a'.faces a'.edges out)
  pub vertices : (out : List ℕ) → (office_vertices_number room w x o b a.faces a.edges a.vertices out ≡ office_vertices_number room' w' x' o b a'.faces a'.edges a'.vertices out) × (office_vertices_handed room w x o b a.faces a.edges a.vertices out ≡ office_vertices_handed room' w' x' o b a'.faces a'.edges a'.vertices out)
  pub box : office_box room w x o b a.faces a.edges a.vertices ≡ office_box room' w' x' o b a'.faces a'.edges a'.vertices
  pub volume : office_volume room w x o b a.faces ≡ office_volume room' w' x' o b a'.faces
  pub taken : (s : StoneSheet) → (take_number room w x o b a.faces s ≡ take_number room' w' x' o b a'.faces s) × (taken_sheet room w x o b a.faces s ≡ taken_sheet room' w' x' o b a'.faces s)
  pub report : (c : CheckOptions) (nums : List ℕ) → office_report room w x o b c a.faces a.edges nums ≡ office_report room' w' x' o b c a'.faces a'.edges nums
  pub faults : (c : CheckOptions) (nums : List ℕ) → office_faults room w x o b c a.faces a.edges nums ≡ office_faults room' w' x' o b c a'.faces a'.edges nums
  pub first : (c : CheckOptions) → office_first room w x o b c a.faces a.edges ≡ office_first room' w' x' o b c a'.faces a'.edges
  pub fit : office_fit room w x o b a.faces a.edges ≡ office_fit room' w' x' o b a'.faces a'.edges

-- a walk that is the same answer
pub walk_same : (d e : Answer (List ℕ)) (n k : ℕ) (l m : List ℕ) → d ≡ e → WalkIs d n l → WalkIs e k m → (n ≡ k) × (l ≡ m)
walk_same d e n k l m q a b = (a.number ∙ ap (shown (λ _. 0) (λ j. j)) q ∙ sym b.number, a.list ∙ ap (shown (λ j. j) (λ _. [])) q ∙ sym b.list)

module _ (room w : List ℕ) (x : List Float) (room' w' : List ℕ) (x' : List Float) (o : ℕ) (r : readable room w x ≡ true) (r' : readable room' w' x' ≡ true) (b : ℕ) (a a' : Marks) (reaching : Alike room room' a a') where
  -- the refusals in front of an answer
  pub front : {A : Type 0} (p p' : Bool) (d d' : Answer A) → p ≡ p' → d ≡ d'
      → (9 unless readable room w x then office_refusal o then 8 unless p else d) ≡ (9 unless readable room' w' x' then office_refusal o then 8 unless p' else d')
  front p p' d d' e f = rw (r, r', e, f)

  pub two : (reach room FACES a.faces && reach room EDGES a.edges) ≡ (reach room' FACES a'.faces && reach room' EDGES a'.edges)
  two = rw (reaching.faces, reaching.edges)

  pub three : (reach room FACES a.faces && reach room EDGES a.edges && reach room VERTICES a.vertices) ≡ (reach room' FACES a'.faces && reach room' EDGES a'.edges && reach room' VERTICES a'.vertices)
  three = rw (reaching.faces, reaching.edges, reaching.vertices)
