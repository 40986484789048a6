-- `c_measures::box_of` meets its contract. Assumes nothing.
use mathlib.Core.List.{map}
use Rattle.meaning.specs.Model.{point_of}
use Rattle.meaning.specs.Walks.{vertex_walk}
use Rattle.meaning.specs.Inquire.{box_of}
use Rattle.memory_layout.specs.Decode.{decode}
use Rattle.inquire_bbox.specs.Boxes.{seen_box}
use Rattle.meaning.specs.Offices.{body_for}
use Rattle.office_measures.specs.Answers.{office_box_number, office_box}
use Rattle.c_lent.specs.Laws.{crossed}
use borrow.Author.Rules.{rules}
use Rattle.c_measures.proofs.box_of.Goals as goal

pub returns : goal.returns
unfolding office_box
returns c =
    let s = c.args in
    let p = crossed c.put_box.ensures (office_box_number s.room.now s.words.now s.reals.now s.office s.body s.faces.now s.edges.now s.vertices.now) (seen_box (box_of (map (point_of (decode s.room.now s.words.now s.reals.now)) (vertex_walk (decode s.room.now s.words.now s.reals.now) (body_for (decode s.room.now s.words.now s.reals.now) s.office s.body))))) c.body_bounding_box-answer.ensures.answer in
    record { answer = p.0; slots = p.1; faces = c.body_bounding_box-answer.ensures.faces; edges = c.body_bounding_box-answer.ensures.edges; vertices = c.body_bounding_box-answer.ensures.vertices }
