-- `walk_paths::faces_there` meets its contract. Assumes nothing.
use mathlib.Core.Path.{sym}
use native.Mathlib.Omega.{arith}
use lib.Seq.{length-take-le}
use Rattle.walk_sources.specs.Laws.{used-words}
use Rattle.walk_paths.specs.Paths.{faces_there}
use Rattle.walk_paths.specs.Laws.{laid-short, laid-front, sources-front, face-path-short, face-sources}
use Rattle.walk_paths.proofs.faces_there.Goals as goal

pub slice_bounds-path-end : goal.slice_bounds-path-end
slice_bounds-path-end c =
    let s = c in
    let f = s.requires.lists in
    let short = face-path-short s.args.room.now s.args.words.now s.args.body f s.requires.shelled in
    laid-short _ _ _ _ c.face_path-n.ensures short

pub slice_bounds-all_listed-end : goal.slice_bounds-all_listed-end
slice_bounds-all_listed-end c =
    let s = c in
    let f = s.requires.lists in
    let short = face-path-short s.args.room.now s.args.words.now s.args.body f s.requires.shelled in
    sym (length-take-le c.face_path-n.result c.face_path-n.new.path (laid-short _ _ _ _ c.face_path-n.ensures short))

pub bounds-words-3 : goal.bounds-words-3
bounds-words-3 c = used-words c.args.room.now c.args.words.now 3 c.requires.lists (omega arith)

pub all_listed-requires : goal.all_listed-requires
all_listed-requires c =
    let s = c in
    let f = s.requires.lists in
    let short = face-path-short s.args.room.now s.args.words.now s.args.body f s.requires.shelled in
    record { lists = f; sources = sources-front s.args.room.now s.args.words.now _ _ _ _ (face-sources s.args.room.now s.args.words.now s.args.body f s.requires.shelled) c.face_path-n.ensures short }

pub returns : goal.returns
unfolding faces_there
returns c =
    let s = c in
    let f = s.requires.lists in
    let short = face-path-short s.args.room.now s.args.words.now s.args.body f s.requires.shelled in
    let front = laid-front _ _ _ _ c.face_path-n.ensures short in
    rw front at c.all_listed.ensures
