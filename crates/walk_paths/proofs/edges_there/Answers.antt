-- `walk_paths::edges_there` meets its contract. Assumes nothing.
use mathlib.Core.Path.{sym}
use native.Mathlib.Omega.{arith}
use lib.Seq.{length-take-le}
use Rattle.walk_sources.specs.Laws.{used-words}
use Rattle.walk_paths.specs.Paths.{edges_there}
use Rattle.walk_paths.specs.Laws.{laid-short, laid-front, sources-front, edge-path-short, edge-sources}
use Rattle.walk_paths.proofs.edges_there.Goals as goal

pub slice_bounds-path-end : goal.slice_bounds-path-end
slice_bounds-path-end c =
    let s = c in
    let f = s.requires.lists in
    let short = edge-path-short s.args.room.now s.args.words.now s.args.body f s.requires.looped in
    laid-short _ _ _ _ c.edge_path-n.ensures.laid short

pub slice_bounds-all_listed-end : goal.slice_bounds-all_listed-end
slice_bounds-all_listed-end c =
    let s = c in
    let f = s.requires.lists in
    let short = edge-path-short s.args.room.now s.args.words.now s.args.body f s.requires.looped in
    sym (length-take-le c.edge_path-n.result c.edge_path-n.new.path (laid-short _ _ _ _ c.edge_path-n.ensures.laid short))

pub bounds-words-6 : goal.bounds-words-6
bounds-words-6 c = used-words c.args.room.now c.args.words.now 6 c.requires.lists (omega arith)

pub all_listed-requires : goal.all_listed-requires
all_listed-requires c =
    let s = c in
    let f = s.requires.lists in
    let short = edge-path-short s.args.room.now s.args.words.now s.args.body f s.requires.looped in
    record { lists = f; sources = sources-front s.args.room.now s.args.words.now _ _ _ _ (edge-sources s.args.room.now s.args.words.now s.args.body f s.requires.looped) c.edge_path-n.ensures.laid short }

pub returns : goal.returns
unfolding edges_there
returns c =
    let s = c in
    let f = s.requires.lists in
    let short = edge-path-short s.args.room.now s.args.words.now s.args.body f s.requires.looped in
    let front = laid-front _ _ _ _ c.edge_path-n.ensures.laid short in
    record { value = rw front at c.all_listed.ensures; marks_after = c.edge_path-n.ensures.marks_after }
