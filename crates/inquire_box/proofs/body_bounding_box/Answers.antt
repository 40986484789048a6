-- `inquire_box::body_bounding_box` meets its contract. Assumes nothing.
use mathlib.Core.Path.{sym, ◌∙◌}
use mathlib.Core.Bool.{◌&&◌}
use Rattle.walk_answers.specs.Calls.{reach}
use Rattle.walk_answers.specs.Laws.{zeros-on, zeros-same}
use Rattle.inquire_polyhedral.specs.Laws.{accepted-polyhedral, polyhedral-edged}
use Rattle.inquire_box.specs.Laws.{box-refused, box-answered}
use Rattle.inquire_box.proofs.body_bounding_box.Goals as goal

pub returns-then-n-ne0 : goal.returns-then-n-ne0
returns-then-n-ne0 c =
    let s = c in
    record { answer = box-refused s.args.room.now s.args.words.now s.args.reals.now s.args.body s.args.faces.now s.args.edges.now s.args.vertices.now _ c.polyhedral_refusal-n.ensures c.if-n-ne0.true; faces = c.clear.ensures; edges = c.clear-2.ensures; vertices = c.clear-3.ensures }

pub bounding_box-requires : goal.bounding_box-requires
bounding_box-requires c =
    let s = c in
    let a = accepted-polyhedral s.args.room.now s.args.words.now s.args.reals.now s.args.body (reach s.args.room.now 3 s.args.faces.now && reach s.args.room.now 6 s.args.edges.now && reach s.args.room.now 7 s.args.vertices.now) (sym c.polyhedral_refusal-n.ensures ∙ c.if-n-ne0.false) in
    record { fit = a.0; edged = polyhedral-edged s.args.room.now s.args.words.now s.args.reals.now s.args.body a.1; faces_value = zeros-same s.args.faces.now _ c.clear.ensures; edges_value = zeros-same s.args.edges.now _ c.clear-2.ensures; vertices_value = zeros-same s.args.vertices.now _ c.clear-3.ensures }

pub returns : goal.returns
returns c =
    let s = c in
    record { answer = box-answered s.args.room.now s.args.words.now s.args.reals.now s.args.body s.args.faces.now s.args.edges.now s.args.vertices.now _ (sym c.polyhedral_refusal-n.ensures ∙ c.if-n-ne0.false) c.bounding_box.ensures.value; faces = zeros-on s.args.faces.now c.clear.new.marks _ c.clear.ensures c.bounding_box.ensures.faces_after; edges = zeros-on s.args.edges.now c.clear-2.new.marks _ c.clear-2.ensures c.bounding_box.ensures.edges_after; vertices = zeros-on s.args.vertices.now c.clear-3.new.marks _ c.clear-3.ensures c.bounding_box.ensures.vertices_after }
