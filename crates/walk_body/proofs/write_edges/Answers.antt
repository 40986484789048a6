-- `walk_body::write_edges` meets its contract. Assumes nothing.
use mathlib.Core.Path.{sym, ap, ◌∙◌}
use mathlib.Core.Bool.{◌&&◌}
use borrow.Author.Rules.{rules}
use lib.ListN.{length}
use lib.Seq.{length-take-le}
use Rattle.meaning.specs.Walks.{edges_refusal, edge_walk}
use Rattle.memory_layout.specs.Decode.{decode}
use Rattle.memory_layout.specs.Readable.{readable}
use Rattle.walk_paths.specs.Paths.{edge_list}
use Rattle.walk_paths.specs.Laws.{laid-short, laid-front, sources-front, edge-path-short, edge-sources}
use Rattle.walk_answers.specs.Calls.{reach, edges_number, edges_handed}
use Rattle.walk_answers.specs.Laws.{edge-list, edges-refusal, accepted-edges, zeros-on, zeros-same, wrote-along, path-fits, marked-zeros}
use Rattle.walk_answers.proofs.Laws.{call-refused, call-written}
use Rattle.walk_body.proofs.write_edges.Goals as goal

pub edges_refusal-refused-requires : goal.edges_refusal-refused-requires
edges_refusal-refused-requires c =
    let s = c in
    zeros-same s.args.faces.now _ c.clear.ensures

pub returns-then-refused-ne0 : goal.returns-then-refused-ne0
unfolding edges_number edges_handed
returns-then-refused-ne0 c =
    let s = c in
    let called = call-refused (readable s.args.room.now s.args.words.now s.args.reals.now) (reach s.args.room.now 3 s.args.faces.now && reach s.args.room.now 6 s.args.edges.now) (edges_refusal (decode s.args.room.now s.args.words.now s.args.reals.now) s.args.body) (edge_walk (decode s.args.room.now s.args.words.now s.args.reals.now) s.args.body) s.args.out.now _ (length s.args.out.now) c.edges_refusal-refused.ensures.value c.if-refused-ne0.true in
    record { count = called.count; list = called.list; code = called.code; faces = zeros-on s.args.faces.now c.clear.new.marks _ c.clear.ensures c.edges_refusal-refused.ensures.marks_after; edges = c.clear-2.ensures }

pub edge_path-n-requires : goal.edge_path-n-requires
edge_path-n-requires c =
    let s = c in
    let a = accepted-edges s.args.room.now s.args.words.now s.args.reals.now s.args.body (reach s.args.room.now 3 s.args.faces.now && reach s.args.room.now 6 s.args.edges.now) (sym c.edges_refusal-refused.ensures.value ∙ c.if-refused-ne0.false) in
    record { lists = a.0; looped = a.1; marked = marked-zeros (length s.args.faces.now) _ (zeros-on s.args.faces.now c.clear.new.marks _ c.clear.ensures c.edges_refusal-refused.ensures.marks_after) }

pub slice_bounds-path-end : goal.slice_bounds-path-end
slice_bounds-path-end c =
    let s = c in
    let a = accepted-edges s.args.room.now s.args.words.now s.args.reals.now s.args.body (reach s.args.room.now 3 s.args.faces.now && reach s.args.room.now 6 s.args.edges.now) (sym c.edges_refusal-refused.ensures.value ∙ c.if-refused-ne0.false) in
    laid-short _ _ _ _ c.edge_path-n.ensures.laid (edge-path-short s.args.room.now s.args.words.now s.args.body a.0 a.1)

pub slice_bounds-write_walk-end : goal.slice_bounds-write_walk-end
slice_bounds-write_walk-end c =
    let s = c in
    let a = accepted-edges s.args.room.now s.args.words.now s.args.reals.now s.args.body (reach s.args.room.now 3 s.args.faces.now && reach s.args.room.now 6 s.args.edges.now) (sym c.edges_refusal-refused.ensures.value ∙ c.if-refused-ne0.false) in
    sym (length-take-le c.edge_path-n.result c.edge_path-n.new.path (laid-short _ _ _ _ c.edge_path-n.ensures.laid (edge-path-short s.args.room.now s.args.words.now s.args.body a.0 a.1)))

pub write_walk-requires : goal.write_walk-requires
write_walk-requires c =
    let s = c in
    let a = accepted-edges s.args.room.now s.args.words.now s.args.reals.now s.args.body (reach s.args.room.now 3 s.args.faces.now && reach s.args.room.now 6 s.args.edges.now) (sym c.edges_refusal-refused.ensures.value ∙ c.if-refused-ne0.false) in
    let short = edge-path-short s.args.room.now s.args.words.now s.args.body a.0 a.1 in
    let front = laid-front _ _ _ _ c.edge_path-n.ensures.laid short in
    record { lists = a.0; sources = sources-front s.args.room.now s.args.words.now _ _ _ _ (edge-sources s.args.room.now s.args.words.now s.args.body a.0 a.1) c.edge_path-n.ensures.laid short; path_len_bound = path-fits front short; marks_value = zeros-same s.args.edges.now _ c.clear-2.ensures }

pub returns : goal.returns
unfolding edges_number edges_handed edge_list
returns c =
    let s = c in
    let a = accepted-edges s.args.room.now s.args.words.now s.args.reals.now s.args.body (reach s.args.room.now 3 s.args.faces.now && reach s.args.room.now 6 s.args.edges.now) (sym c.edges_refusal-refused.ensures.value ∙ c.if-refused-ne0.false) in
    let short = edge-path-short s.args.room.now s.args.words.now s.args.body a.0 a.1 in
    let front = laid-front _ _ _ _ c.edge_path-n.ensures.laid short in
    let called = call-written (readable s.args.room.now s.args.words.now s.args.reals.now) (reach s.args.room.now 3 s.args.faces.now && reach s.args.room.now 6 s.args.edges.now) (edges_refusal (decode s.args.room.now s.args.words.now s.args.reals.now) s.args.body) _ (edge_walk (decode s.args.room.now s.args.words.now s.args.reals.now) s.args.body) _ _ _ _ _ c.edges_refusal-refused.ensures.value c.if-refused-ne0.false (edge-list s.args.room.now s.args.words.now s.args.reals.now s.args.body) (wrote-along s.args.room.now s.args.words.now front c.write_walk.ensures.wrote) in
    record { count = called.count; list = called.list; code = called.code; faces = zeros-on s.args.faces.now c.edges_refusal-refused.new.marks _ (zeros-on s.args.faces.now c.clear.new.marks _ c.clear.ensures c.edges_refusal-refused.ensures.marks_after) c.edge_path-n.ensures.marks_after; edges = zeros-on s.args.edges.now c.clear-2.new.marks _ c.clear-2.ensures c.write_walk.ensures.marks_after }
