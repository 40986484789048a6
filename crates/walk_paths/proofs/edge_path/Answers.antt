-- `walk_paths::edge_path` meets its contract: the loops, then the shells. Assumes nothing.
use mathlib.Core.Path.{sym, ap, ◌∙◌}
use native.Mathlib.Omega.{arith}
use lib.ListN.{length}
use lib.Seq.{length-take-le}
use Rattle.meaning.specs.Lists.{all}
use Rattle.walk_paths.specs.Paths.{shell_list, face_list, loop_list, edge_path}
use Rattle.walk_paths.specs.Laws.{laid_both, visited-short, faces-short, faces-front, faces-followed, loops-short}
use Rattle.walk_paths.proofs.edge_path.Goals as goal

pub faces-n-requires : goal.faces-n-requires
faces-n-requires c = record { lists = c.requires.lists; shelled = c.requires.looped.faced.shelled; marked = c.requires.marked }

pub slice_bounds-list-end : goal.slice_bounds-list-end
slice_bounds-list-end c =
    let s = c in
    let f = s.requires.lists in
    let short = faces-short s.args.room.now s.args.words.now s.args.body f s.requires.looped.faced in
    visited-short _ _ _ _ c.faces-n.ensures.visited short

pub slice_bounds-gather-end : goal.slice_bounds-gather-end
slice_bounds-gather-end c =
    let s = c in
    let f = s.requires.lists in
    let short = faces-short s.args.room.now s.args.words.now s.args.body f s.requires.looped.faced in
    sym (length-take-le c.faces-n.result c.faces-n.new.out (visited-short _ _ _ _ c.faces-n.ensures.visited short))

pub gather-m-requires : goal.gather-m-requires
unfolding face_list
gather-m-requires c =
    let s = c in
    let f = s.requires.lists in
    let short = faces-short s.args.room.now s.args.words.now s.args.body f s.requires.looped.faced in
    let front = faces-front s.args.room.now s.args.words.now s.args.body f _ _ _ s.requires.looped.faced c.faces-n.ensures.visited (omega arith) in
    record { lists = f; j_bound = (omega arith, omega arith, omega (arith, ap length front)); ids_value = ap (all _) front ∙ faces-followed s.args.room.now s.args.words.now s.args.body f s.requires.looped }

pub shells-requires : goal.shells-requires
unfolding loop_list
shells-requires c =
    let s = c in
    let f = s.requires.lists in
    let short = faces-short s.args.room.now s.args.words.now s.args.body f s.requires.looped.faced in
    let front = faces-front s.args.room.now s.args.words.now s.args.body f _ _ _ s.requires.looped.faced c.faces-n.ensures.visited (omega arith) in
    record { lists = f; shelled = s.requires.looped.faced.shelled; k_bound = (omega arith, omega (arith, rw front at c.gather-m.ensures.value, loops-short s.args.room.now s.args.words.now s.args.body f s.requires.looped.faced)) }

pub returns : goal.returns
unfolding edge_path loop_list
returns c =
    let s = c in
    let f = s.requires.lists in
    let short = faces-short s.args.room.now s.args.words.now s.args.body f s.requires.looped.faced in
    let front = faces-front s.args.room.now s.args.words.now s.args.body f _ _ _ s.requires.looped.faced c.faces-n.ensures.visited (omega arith) in
    record { laid = laid_both (loop_list s.args.room.now s.args.words.now s.args.body) (shell_list s.args.room.now s.args.words.now s.args.body) _ _ _ 6 _ _ (rw front at c.gather-m.ensures.value) (rw front at c.gather-m.ensures.path_after) 3 c.shells.ensures.value c.shells.ensures.path_after; marks_after = c.faces-n.ensures.marks_after }
