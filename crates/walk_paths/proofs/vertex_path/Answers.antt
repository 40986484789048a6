-- `walk_paths::vertex_path` meets its contract: the edges, then the shells. Assumes nothing.
use mathlib.Core.Path.{sym, ap, ◌∙◌}
use native.Mathlib.Omega.{arith}
use lib.ListN.{length}
use lib.Seq.{length-take-le}
use Rattle.meaning.specs.Lists.{all}
use Rattle.walk_paths.specs.Paths.{shell_list, edge_list, vertex_path}
use Rattle.walk_paths.specs.Laws.{laid_both, visited-short, edges-short, edges-small, edges-front, edges-count}
use Rattle.walk_paths.proofs.vertex_path.Goals as goal

pub edges-n-requires : goal.edges-n-requires
edges-n-requires c = record { lists = c.requires.lists; looped = c.requires.edged.looped; marked = c.requires.marked; marked_2 = c.requires.marked_2 }

pub slice_bounds-list-end : goal.slice_bounds-list-end
slice_bounds-list-end c =
    let s = c in
    let f = s.requires.lists in
    let short = edges-short s.args.room.now s.args.words.now s.args.body f s.requires.edged in
    visited-short _ _ _ _ c.edges-n.ensures.visited short

pub slice_bounds-add_sources-end : goal.slice_bounds-add_sources-end
slice_bounds-add_sources-end c =
    let s = c in
    let f = s.requires.lists in
    let short = edges-short s.args.room.now s.args.words.now s.args.body f s.requires.edged in
    sym (length-take-le c.edges-n.result c.edges-n.new.out (visited-short _ _ _ _ c.edges-n.ensures.visited short))

pub add_sources-requires : goal.add_sources-requires
unfolding edge_list
add_sources-requires c =
    let s = c in
    let f = s.requires.lists in
    let short = edges-short s.args.room.now s.args.words.now s.args.body f s.requires.edged in
    let front = edges-front s.args.room.now s.args.words.now s.args.body f _ _ _ s.requires.edged c.edges-n.ensures.visited (omega arith) in
    record { ids_bound = (omega (arith, ap length front), omega arith); ids_value = ap (all _) front ∙ edges-small s.args.room.now s.args.words.now s.args.body f s.requires.edged }

pub shells-requires : goal.shells-requires
shells-requires c =
    let s = c in
    let f = s.requires.lists in
    let short = edges-short s.args.room.now s.args.words.now s.args.body f s.requires.edged in
    record { lists = f; shelled = s.requires.edged.looped.faced.shelled; k_bound = (omega arith, omega (arith, c.edges-n.ensures.visited.count)) }

pub returns : goal.returns
unfolding vertex_path
returns c =
    let s = c in
    let f = s.requires.lists in
    let short = edges-short s.args.room.now s.args.words.now s.args.body f s.requires.edged in
    let front = edges-front s.args.room.now s.args.words.now s.args.body f _ _ _ s.requires.edged c.edges-n.ensures.visited (omega arith) in
    record { laid = laid_both (edge_list s.args.room.now s.args.words.now s.args.body) (shell_list s.args.room.now s.args.words.now s.args.body) _ _ _ 7 _ _ (edges-count s.args.room.now s.args.words.now s.args.body f _ _ _ c.edges-n.ensures.visited) (rw front at c.add_sources.ensures) 4 c.shells.ensures.value c.shells.ensures.path_after; face_marks_after = c.edges-n.ensures.face_marks_after; edge_marks_after = c.edges-n.ensures.edge_marks_after }
