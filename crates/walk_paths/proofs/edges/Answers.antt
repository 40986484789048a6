-- `walk_paths::edges` meets its contract. Assumes nothing.
use mathlib.Core.Path.{sym, ap, ◌∙◌}
use native.Mathlib.Omega.{arith}
use lib.ListN.{length, replicate}
use lib.Seq.{length-take-le}
use Rattle.walk_paths.specs.Laws.{laid-short, laid-front, sources-front, edge-path-short, edge-sources}
use Rattle.walk_paths.proofs.edges.Goals as goal

pub slice_bounds-path-end : goal.slice_bounds-path-end
slice_bounds-path-end c =
    let s = c in
    let f = s.requires.lists in
    let short = edge-path-short s.args.room.now s.args.words.now s.args.body f s.requires.looped in
    laid-short _ _ _ _ c.edge_path-n.ensures.laid short

pub slice_bounds-visit-end : goal.slice_bounds-visit-end
slice_bounds-visit-end c =
    let s = c in
    let f = s.requires.lists in
    let short = edge-path-short s.args.room.now s.args.words.now s.args.body f s.requires.looped in
    sym (length-take-le c.edge_path-n.result c.edge_path-n.new.path (laid-short _ _ _ _ c.edge_path-n.ensures.laid short))

pub visit-m-requires : goal.visit-m-requires
visit-m-requires c =
    let s = c in
    let f = s.requires.lists in
    let short = edge-path-short s.args.room.now s.args.words.now s.args.body f s.requires.looped in
    let front = laid-front _ _ _ _ c.edge_path-n.ensures.laid short in
    record { lists = f; sources = sources-front s.args.room.now s.args.words.now _ _ _ _ (edge-sources s.args.room.now s.args.words.now s.args.body f s.requires.looped) c.edge_path-n.ensures.laid short; path_len_bound = omega (arith, ap length front); marked = s.requires.marked_2 }

pub returns : goal.returns
returns c =
    let s = c in
    let f = s.requires.lists in
    let short = edge-path-short s.args.room.now s.args.words.now s.args.body f s.requires.looped in
    let front = laid-front _ _ _ _ c.edge_path-n.ensures.laid short in
    let zero = c.clear.ensures ∙ ap (λ n. replicate n 0) c.visit-m.auto.marks in
    record { visited = rw front at c.visit-m.ensures; face_marks_after = c.edge_path-n.ensures.marks_after; edge_marks_after = zero }
