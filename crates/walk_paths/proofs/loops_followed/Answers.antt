-- `walk_paths::loops_followed` meets its contract. Assumes nothing.
use mathlib.Core.Path.{sym, ap, ◌∙◌}
use native.Mathlib.Omega.{arith}
use lib.Seq.{length-take-le}
use Rattle.meaning.specs.Lists.{all}
use Rattle.walk_paths.specs.Paths.{loop_list, loops_followed}
use Rattle.walk_paths.specs.Laws.{visited-short, faces-short, faces-exist, faces-front}
use Rattle.walk_paths.proofs.loops_followed.Goals as goal

pub slice_bounds-list-end : goal.slice_bounds-list-end
slice_bounds-list-end c =
    let s = c in
    let f = s.requires.lists in
    let short = faces-short s.args.room.now s.args.words.now s.args.body f s.requires.faced in
    visited-short _ _ _ _ c.faces-n.ensures.visited short

pub slice_bounds-all_loops_followed-end : goal.slice_bounds-all_loops_followed-end
slice_bounds-all_loops_followed-end c =
    let s = c in
    let f = s.requires.lists in
    let short = faces-short s.args.room.now s.args.words.now s.args.body f s.requires.faced in
    sym (length-take-le c.faces-n.result c.faces-n.new.out (visited-short _ _ _ _ c.faces-n.ensures.visited short))

pub all_loops_followed-requires : goal.all_loops_followed-requires
all_loops_followed-requires c =
    let s = c in
    let f = s.requires.lists in
    let short = faces-short s.args.room.now s.args.words.now s.args.body f s.requires.faced in
    let front = faces-front s.args.room.now s.args.words.now s.args.body f _ _ _ s.requires.faced c.faces-n.ensures.visited (omega arith) in
    record { lists = f; faces_value = ap (all _) front ∙ faces-exist s.args.room.now s.args.words.now s.args.body f s.requires.faced }

pub returns : goal.returns
unfolding loops_followed loop_list
returns c =
    let s = c in
    let f = s.requires.lists in
    let short = faces-short s.args.room.now s.args.words.now s.args.body f s.requires.faced in
    let front = faces-front s.args.room.now s.args.words.now s.args.body f _ _ _ s.requires.faced c.faces-n.ensures.visited (omega arith) in
    record { value = rw front at c.all_loops_followed.ensures; marks_after = c.faces-n.ensures.marks_after }
