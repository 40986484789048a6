-- What an entry of a list and the walk of the edges answer the office that asks: the theorems of specs/Offices.antt that rest on `list-is` and on `edges_are`. Assumes nothing.
use Rattle.std.specs.Prelude.{ℕ, ◌≡◌, ◌&&◌, List, length, Float}
use Rattle.geom_lines_planes.specs.Refuse.{◌unless◌, ◌then◌}
use Rattle.meaning.specs.Walks.{edge_walk, body_edges}
use Rattle.meaning.specs.Offices.{office_refusal, body_for}
use Rattle.memory_layout.specs.Names.{FACES, EDGES}
use Rattle.memory_layout.specs.Layout.{word}
use Rattle.memory_layout.specs.Decode.{decode}
use Rattle.memory_layout.specs.Readable.{readable}
use Rattle.memory_layout.specs.declared.entries.Entry.TheVariants as Entries
use Rattle.memory_layout.specs.Entries.{list_of, entry_refusal, entry_answer}
use Rattle.memory_offices.specs.Sight.{by_office}
use Rattle.walk_answers.specs.Calls.{reach, edges_number, edges_handed}
use Rattle.office_bodies.specs.Answers.{record_for, office_entry_number, office_entry}
use Rattle.office_walks.specs.Calls.{office_edges_number, office_edges_handed}
use Rattle.meaning_of_calls.specs.Shown.{◌else◌, shown, on_list, WalkIs}
use Rattle.meaning_of_calls.specs.Laws.{office-one, office-walk}
use Rattle.meaning_of_calls.specs.Entries as Lists
use Rattle.meaning_of_calls.specs.Statements.{edges_are}
use Rattle.meaning_of_calls.proofs.Entries.{entry-is}

module _ (room w : List ℕ) (x : List Float) (o : ℕ) where
  -- ---- an entry of a list

  pub entry-told : (j i place : ℕ)
      → office_entry room w x o j i place
      ≡ shown Entries.Is Entries.Refused (9 unless readable room w x then office_refusal o else Lists.entry (decode room w x) j (record_for (decode room w x) o j i) place)
  unfolding office_entry office_entry_number by_office entry_answer entry_refusal
  entry-told j i place =
      let m = decode room w x in
      office-one Entries.Is Entries.Refused Entries.Is (word (list_of room w j (record_for m o j i)) place) (Lists.entry m j (record_for m o j i) place) (9 unless readable room w x)
      (office_refusal o) _ (entry-is room w x j (record_for m o j i) place)

  module _ (b : ℕ) where
    -- ---- the walk of the edges: the number, and the list handed back

    pub edges-told : (face_marks edge_marks out : List ℕ)
        → WalkIs
        (on_list (length out) (9 unless readable room w x then office_refusal o then 8 unless reach room FACES face_marks && reach room EDGES edge_marks else body_edges (decode room w x) (body_for (decode room w x) o b)))
        (office_edges_number room w x o b face_marks edge_marks out) (office_edges_handed room w x o b face_marks edge_marks out)
    unfolding office_edges_number office_edges_handed by_office edges_number edges_handed
    edges-told face_marks edge_marks out =
        let m = decode room w x in
        office-walk (edge_walk m (body_for m o b)) (body_edges m (body_for m o b)) (length out) (9 unless readable room w x) (office_refusal o) (8 unless reach room FACES face_marks && reach room EDGES edge_marks) _
        (edges_are room w x (body_for m o b) face_marks edge_marks out)
