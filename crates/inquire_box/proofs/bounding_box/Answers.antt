-- `inquire_box::bounding_box` meets its contract. Assumes nothing.
use native.Mathlib.Omega.{arith}
use mathlib.Core.Path.{sym, ap, ◌∙◌}
use lib.ListN.{length}
use lib.Seq.{length-take-le}
use Rattle.memory_layout.specs.Decode.{decode}
use Rattle.memory_layout.specs.Laws.{lists_of}
use Rattle.walk_paths.specs.Laws.{laid-short, laid-front, sources-front, vertex-path-short, vertex-sources}
use Rattle.walk_answers.specs.Laws.{marked-zeros, vertex-list}
use Rattle.inquire_box.specs.Walked.{walk_box}
use Rattle.inquire_box.proofs.bounding_box.Goals as goal

pub vertex_path-n-requires : goal.vertex_path-n-requires
vertex_path-n-requires c =
    let s = c in
    record { lists = lists_of s.args.room.now s.args.words.now s.args.reals.now s.requires.fit; edged = s.requires.edged; marked = marked-zeros (length s.args.faces.now) _ s.requires.faces_value; marked_2 = marked-zeros (length s.args.edges.now) _ s.requires.edges_value }

pub slice_bounds-path-end : goal.slice_bounds-path-end
slice_bounds-path-end c =
    let s = c in
    let f = lists_of s.args.room.now s.args.words.now s.args.reals.now s.requires.fit in
    let short = vertex-path-short s.args.room.now s.args.words.now s.args.body f s.requires.edged in
    laid-short _ _ _ _ c.vertex_path-n.ensures.laid short

pub slice_bounds-path_box-end : goal.slice_bounds-path_box-end
slice_bounds-path_box-end c =
    let s = c in
    let f = lists_of s.args.room.now s.args.words.now s.args.reals.now s.requires.fit in
    let short = vertex-path-short s.args.room.now s.args.words.now s.args.body f s.requires.edged in
    sym (length-take-le c.vertex_path-n.result c.vertex_path-n.new.path (laid-short _ _ _ _ c.vertex_path-n.ensures.laid short))

pub path_box-requires : goal.path_box-requires
path_box-requires c =
    let s = c in
    let f = lists_of s.args.room.now s.args.words.now s.args.reals.now s.requires.fit in
    let short = vertex-path-short s.args.room.now s.args.words.now s.args.body f s.requires.edged in
    let front = laid-front _ _ _ _ c.vertex_path-n.ensures.laid short in
    record { fit = s.requires.fit; sources = sources-front s.args.room.now s.args.words.now _ _ _ _ (vertex-sources s.args.room.now s.args.words.now s.args.body f s.requires.edged) c.vertex_path-n.ensures.laid short; path_len_bound = omega (arith, ap length front); marks_value = s.requires.vertices_value }

pub returns : goal.returns
returns c =
    let s = c in
    let f = lists_of s.args.room.now s.args.words.now s.args.reals.now s.requires.fit in
    let short = vertex-path-short s.args.room.now s.args.words.now s.args.body f s.requires.edged in
    let front = laid-front _ _ _ _ c.vertex_path-n.ensures.laid short in
    record { value = (rw front at c.path_box.ensures.value) ∙ ap (walk_box (decode s.args.room.now s.args.words.now s.args.reals.now)) (sym (vertex-list s.args.room.now s.args.words.now s.args.reals.now s.args.body)); faces_after = c.vertex_path-n.ensures.face_marks_after; edges_after = c.vertex_path-n.ensures.edge_marks_after; vertices_after = c.path_box.ensures.marks_after }
