-- `walk_paths::faces` meets its contract. Assumes nothing.
use mathlib.Core.Path.{sym, ap, ◌∙◌}
use native.Mathlib.Omega.{arith}
use lib.ListN.{length, replicate}
use lib.Seq.{length-take-le}
use Rattle.walk_paths.specs.Laws.{laid-short, laid-front, sources-front, face-path-short, face-sources}
use Rattle.walk_paths.proofs.faces.Goals as goal

pub slice_bounds-path-end : goal.slice_bounds-path-end
slice_bounds-path-end c =
    let s = c in
    let f = s.requires.lists in
    let short = face-path-short s.args.room.now s.args.words.now s.args.body f s.requires.shelled in
    laid-short _ _ _ _ c.face_path-n.ensures short

pub slice_bounds-visit-end : goal.slice_bounds-visit-end
slice_bounds-visit-end c =
    let s = c in
    let f = s.requires.lists in
    let short = face-path-short s.args.room.now s.args.words.now s.args.body f s.requires.shelled in
    sym (length-take-le c.face_path-n.result c.face_path-n.new.path (laid-short _ _ _ _ c.face_path-n.ensures short))

pub visit-m-requires : goal.visit-m-requires
visit-m-requires c =
    let s = c in
    let f = s.requires.lists in
    let short = face-path-short s.args.room.now s.args.words.now s.args.body f s.requires.shelled in
    let front = laid-front _ _ _ _ c.face_path-n.ensures short in
    record { lists = f; sources = sources-front s.args.room.now s.args.words.now _ _ _ _ (face-sources s.args.room.now s.args.words.now s.args.body f s.requires.shelled) c.face_path-n.ensures short; path_len_bound = omega (arith, ap length front); marked = s.requires.marked }

pub returns : goal.returns
returns c =
    let s = c in
    let f = s.requires.lists in
    let short = face-path-short s.args.room.now s.args.words.now s.args.body f s.requires.shelled in
    let front = laid-front _ _ _ _ c.face_path-n.ensures short in
    let zero = c.clear.ensures ∙ ap (λ n. replicate n 0) c.visit-m.auto.marks in
    record { visited = rw front at c.visit-m.ensures; marks_after = zero }
