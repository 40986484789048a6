-- `walk_body::write_vertices` meets its contract. Assumes nothing.
use mathlib.Core.Path.{sym, ap, ◌∙◌}
use mathlib.Core.Bool.{◌&&◌}
use native.Mathlib.Nat.{le_trans}
use lib.Dec.{lit≤}
use borrow.Author.Rules.{rules}
use lib.ListN.{length, length-replicate}
use lib.Seq.{length-take-le}
use Rattle.meaning.specs.Walks.{vertices_refusal, vertex_walk}
use Rattle.memory_layout.specs.Decode.{decode}
use Rattle.memory_layout.specs.Readable.{readable}
use Rattle.walk_paths.specs.Laws.{laid-short, laid-front, sources-front, vertex-path-short, vertex-sources}
use Rattle.walk_answers.specs.Calls.{reach, vertices_number, vertices_handed}
use Rattle.walk_answers.specs.Laws.{vertex-list, vertices-refusal, accepted-vertices, zeros-on, zeros-same, wrote-along, path-fits, marked-zeros}
use Rattle.walk_answers.proofs.Laws.{call-refused, call-written}
use Rattle.walk_body.proofs.write_vertices.Goals as goal

pub vertices_refusal-refused-requires : goal.vertices_refusal-refused-requires
vertices_refusal-refused-requires c =
    let s = c in
    zeros-same s.args.faces.now _ c.clear.ensures

pub returns-then-refused-ne0 : goal.returns-then-refused-ne0
unfolding vertices_number vertices_handed
returns-then-refused-ne0 c =
    let s = c in
    let called = call-refused (readable s.args.room.now s.args.words.now s.args.reals.now) (reach s.args.room.now 3 s.args.faces.now && reach s.args.room.now 6 s.args.edges.now && reach s.args.room.now 7 s.args.vertices.now) (vertices_refusal (decode s.args.room.now s.args.words.now s.args.reals.now) s.args.body) (vertex_walk (decode s.args.room.now s.args.words.now s.args.reals.now) s.args.body) s.args.out.now _ (length s.args.out.now) c.vertices_refusal-refused.ensures.value c.if-refused-ne0.true in
    record { count = called.count; list = called.list; code = called.code; faces = zeros-on s.args.faces.now c.clear.new.marks _ c.clear.ensures c.vertices_refusal-refused.ensures.marks_after; edges = c.clear-2.ensures; vertices = c.clear-3.ensures }

pub vertex_path-n-requires : goal.vertex_path-n-requires
vertex_path-n-requires c =
    let s = c in
    let a = accepted-vertices s.args.room.now s.args.words.now s.args.reals.now s.args.body (reach s.args.room.now 3 s.args.faces.now && reach s.args.room.now 6 s.args.edges.now && reach s.args.room.now 7 s.args.vertices.now) (sym c.vertices_refusal-refused.ensures.value ∙ c.if-refused-ne0.false) in
    record { lists = a.0; edged = a.1; marked = marked-zeros (length s.args.faces.now) _ (zeros-on s.args.faces.now c.clear.new.marks _ c.clear.ensures c.vertices_refusal-refused.ensures.marks_after); marked_2 = marked-zeros (length s.args.edges.now) _ c.clear-2.ensures }

pub slice_bounds-path-end : goal.slice_bounds-path-end
slice_bounds-path-end c =
    let s = c in
    let a = accepted-vertices s.args.room.now s.args.words.now s.args.reals.now s.args.body (reach s.args.room.now 3 s.args.faces.now && reach s.args.room.now 6 s.args.edges.now && reach s.args.room.now 7 s.args.vertices.now) (sym c.vertices_refusal-refused.ensures.value ∙ c.if-refused-ne0.false) in
    laid-short _ _ _ _ c.vertex_path-n.ensures.laid (vertex-path-short s.args.room.now s.args.words.now s.args.body a.0 a.1)

pub slice_bounds-write_walk-end : goal.slice_bounds-write_walk-end
slice_bounds-write_walk-end c =
    let s = c in
    let a = accepted-vertices s.args.room.now s.args.words.now s.args.reals.now s.args.body (reach s.args.room.now 3 s.args.faces.now && reach s.args.room.now 6 s.args.edges.now && reach s.args.room.now 7 s.args.vertices.now) (sym c.vertices_refusal-refused.ensures.value ∙ c.if-refused-ne0.false) in
    sym (length-take-le c.vertex_path-n.result c.vertex_path-n.new.path (laid-short _ _ _ _ c.vertex_path-n.ensures.laid (vertex-path-short s.args.room.now s.args.words.now s.args.body a.0 a.1)))

pub write_walk-requires : goal.write_walk-requires
write_walk-requires c =
    let s = c in
    let a = accepted-vertices s.args.room.now s.args.words.now s.args.reals.now s.args.body (reach s.args.room.now 3 s.args.faces.now && reach s.args.room.now 6 s.args.edges.now && reach s.args.room.now 7 s.args.vertices.now) (sym c.vertices_refusal-refused.ensures.value ∙ c.if-refused-ne0.false) in
    let short = vertex-path-short s.args.room.now s.args.words.now s.args.body a.0 a.1 in
    let front = laid-front _ _ _ _ c.vertex_path-n.ensures.laid short in
    record { lists = a.0; sources = sources-front s.args.room.now s.args.words.now _ _ _ _ (vertex-sources s.args.room.now s.args.words.now s.args.body a.0 a.1) c.vertex_path-n.ensures.laid short; path_len_bound = path-fits front (le_trans short (lit≤ tt)); marks_value = zeros-same s.args.vertices.now _ c.clear-3.ensures }

pub shape_of-faces : goal.shape_of-faces
shape_of-faces c =
    let s = c in
    ap length (zeros-on s.args.faces.now c.vertices_refusal-refused.new.marks _ (zeros-on s.args.faces.now c.clear.new.marks _ c.clear.ensures c.vertices_refusal-refused.ensures.marks_after) c.vertex_path-n.ensures.face_marks_after) ∙ length-replicate (length s.args.faces.now) 0

pub returns : goal.returns
unfolding vertices_number vertices_handed
returns c =
    let s = c in
    let a = accepted-vertices s.args.room.now s.args.words.now s.args.reals.now s.args.body (reach s.args.room.now 3 s.args.faces.now && reach s.args.room.now 6 s.args.edges.now && reach s.args.room.now 7 s.args.vertices.now) (sym c.vertices_refusal-refused.ensures.value ∙ c.if-refused-ne0.false) in
    let short = vertex-path-short s.args.room.now s.args.words.now s.args.body a.0 a.1 in
    let front = laid-front _ _ _ _ c.vertex_path-n.ensures.laid short in
    let called = call-written (readable s.args.room.now s.args.words.now s.args.reals.now) (reach s.args.room.now 3 s.args.faces.now && reach s.args.room.now 6 s.args.edges.now && reach s.args.room.now 7 s.args.vertices.now) (vertices_refusal (decode s.args.room.now s.args.words.now s.args.reals.now) s.args.body) _ (vertex_walk (decode s.args.room.now s.args.words.now s.args.reals.now) s.args.body) _ _ _ _ _ c.vertices_refusal-refused.ensures.value c.if-refused-ne0.false (vertex-list s.args.room.now s.args.words.now s.args.reals.now s.args.body) (wrote-along s.args.room.now s.args.words.now front c.write_walk.ensures.wrote) in
    record { count = called.count; list = called.list; code = called.code; faces = zeros-on s.args.faces.now c.vertices_refusal-refused.new.marks _ (zeros-on s.args.faces.now c.clear.new.marks _ c.clear.ensures c.vertices_refusal-refused.ensures.marks_after) c.vertex_path-n.ensures.face_marks_after; edges = zeros-on s.args.edges.now c.clear-2.new.marks _ c.clear-2.ensures c.vertex_path-n.ensures.edge_marks_after; vertices = zeros-on s.args.vertices.now c.clear-3.new.marks _ c.clear-3.ensures c.write_walk.ensures.marks_after }
