-- `check_fit::whole_solid` meets its contract. Assumes nothing.
use native.Mathlib.Omega.{arith}
use mathlib.Core.Path.{sym, ap, ap₂, ◌∙◌}
use mathlib.Core.Bool.{◌&&◌}
use lib.Dec.{eqb}
use lib.ListN.{length}
use lib.Seq.{length-take-le}
use Rattle.meaning.specs.Lists.{all, any}
use Rattle.memory_layout.specs.Layout.{word}
use Rattle.memory_layout.specs.Laws.{words_inside}
use Rattle.memory_layout.proofs.Laws.{words-length}
use Rattle.walk_visits.specs.Visits.{ids_of}
use Rattle.walk_paths.specs.Laws.{laid-short, laid-front, sources-front, face-path-short, face-sources}
use Rattle.check_fit.specs.Whole.{solid_in, owns_in}
use Rattle.check_fit.specs.Laws.{whole_is}
use Rattle.check_fit.proofs.whole_solid.Goals as goal

pub words_of-w-requires : goal.words_of-w-requires
words_of-w-requires c =
    let s = c in
    record { small = s.requires.lists.small; inside = words_inside s.args.room.now s.args.words.now 0 s.args.body s.requires.lists (omega arith) s.requires.faced.shelled.body }

pub bounds-w-0 : goal.bounds-w-0
bounds-w-0 c =
    let s = c in
    omega (arith, ap length c.words_of-w.ensures, words-length s.args.room.now s.args.words.now 0 s.args.body (words_inside s.args.room.now s.args.words.now 0 s.args.body s.requires.lists (omega arith) s.requires.faced.shelled.body))

pub list-requires : goal.list-requires
list-requires c = record { lists = c.requires.lists; j_bound = (omega arith, c.requires.faced.shelled.body) }

pub solid_face-faced-requires : goal.solid_face-faced-requires
solid_face-faced-requires c = record { lists = c.requires.lists; regions_value = rw c.list.ensures c.requires.faced.shelled.regions }

pub face_path-n-requires : goal.face_path-n-requires
face_path-n-requires c = record { lists = c.requires.lists; shelled = c.requires.faced.shelled }

pub slice_bounds-path-end : goal.slice_bounds-path-end
slice_bounds-path-end c =
    let s = c in
    let short = face-path-short s.args.room.now s.args.words.now s.args.body s.requires.lists s.requires.faced.shelled in
    laid-short _ _ _ _ c.face_path-n.ensures short

pub slice_bounds-own_path-end : goal.slice_bounds-own_path-end
slice_bounds-own_path-end c =
    let s = c in
    let short = face-path-short s.args.room.now s.args.words.now s.args.body s.requires.lists s.requires.faced.shelled in
    sym (length-take-le c.face_path-n.result c.face_path-n.new.path (laid-short _ _ _ _ c.face_path-n.ensures short))

pub own_path-owned-requires : goal.own_path-owned-requires
own_path-owned-requires c =
    let s = c in
    let f = s.requires.lists in
    let short = face-path-short s.args.room.now s.args.words.now s.args.body f s.requires.faced.shelled in
    let laid = c.face_path-n.ensures in
    record { lists = f; sources = sources-front s.args.room.now s.args.words.now _ _ _ _ (face-sources s.args.room.now s.args.words.now s.args.body f s.requires.faced.shelled) laid short; path_value = rw (laid-front _ _ _ _ laid short) s.requires.faced.faces }

pub returns : goal.returns
returns c =
    let s = c in
    let short = face-path-short s.args.room.now s.args.words.now s.args.body s.requires.lists s.requires.faced.shelled in
    let front = laid-front _ _ _ _ c.face_path-n.ensures short in
    λ x.
    ap₂ (λ a b. a && b)
    (ap₂ (λ a b. a && b) (ap (λ l. eqb (word l 0) 3) c.words_of-w.ensures) (c.solid_face-faced.ensures ∙ ap (any (solid_in s.args.room.now s.args.words.now)) c.list.ensures))
    (c.own_path-owned.ensures ∙ ap (λ path. all (owns_in s.args.room.now s.args.words.now path) (ids_of s.args.room.now s.args.words.now path)) front)
    ∙ whole_is s.args.room.now s.args.words.now x s.args.body
