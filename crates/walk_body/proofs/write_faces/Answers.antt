-- `walk_body::write_faces` meets its contract. Assumes nothing.
use mathlib.Core.Path.{sym, ap, ◌∙◌}
use native.Mathlib.Nat.{le_trans}
use lib.Dec.{lit≤}
use borrow.Author.Rules.{rules}
use lib.ListN.{length}
use lib.Seq.{length-take-le}
use Rattle.meaning.specs.Walks.{faces_refusal, face_walk}
use Rattle.memory_layout.specs.Decode.{decode}
use Rattle.memory_layout.specs.Readable.{readable}
use Rattle.walk_paths.specs.Paths.{face_list}
use Rattle.walk_paths.specs.Laws.{laid-short, laid-front, sources-front, face-path-short, face-sources}
use Rattle.walk_answers.specs.Calls.{reach, faces_number, faces_handed}
use Rattle.walk_answers.specs.Laws.{face-list, faces-refusal, accepted-faces, zeros-on, zeros-same, wrote-along, path-fits}
use Rattle.walk_answers.proofs.Laws.{call-refused, call-written}
use Rattle.walk_body.proofs.write_faces.Goals as goal

pub returns-then-refused-ne0 : goal.returns-then-refused-ne0
unfolding faces_number faces_handed
returns-then-refused-ne0 c =
    let s = c in
    let called = call-refused (readable s.args.room.now s.args.words.now s.args.reals.now) (reach s.args.room.now 3 s.args.faces.now) (faces_refusal (decode s.args.room.now s.args.words.now s.args.reals.now) s.args.body) (face_walk (decode s.args.room.now s.args.words.now s.args.reals.now) s.args.body) s.args.out.now _ (length s.args.out.now) c.faces_refusal-refused.ensures c.if-refused-ne0.true in
    record { count = called.count; list = called.list; code = called.code; faces = c.clear.ensures }

pub face_path-n-requires : goal.face_path-n-requires
face_path-n-requires c =
    let s = c in
    let both = accepted-faces s.args.room.now s.args.words.now s.args.reals.now s.args.body (reach s.args.room.now 3 s.args.faces.now) (sym c.faces_refusal-refused.ensures ∙ c.if-refused-ne0.false) in record { lists = both.0; shelled = both.1 }

pub slice_bounds-path-end : goal.slice_bounds-path-end
slice_bounds-path-end c =
    let s = c in
    let a = accepted-faces s.args.room.now s.args.words.now s.args.reals.now s.args.body (reach s.args.room.now 3 s.args.faces.now) (sym c.faces_refusal-refused.ensures ∙ c.if-refused-ne0.false) in
    laid-short _ _ _ _ c.face_path-n.ensures (face-path-short s.args.room.now s.args.words.now s.args.body a.0 a.1)

pub slice_bounds-write_walk-end : goal.slice_bounds-write_walk-end
slice_bounds-write_walk-end c =
    let s = c in
    let a = accepted-faces s.args.room.now s.args.words.now s.args.reals.now s.args.body (reach s.args.room.now 3 s.args.faces.now) (sym c.faces_refusal-refused.ensures ∙ c.if-refused-ne0.false) in
    sym (length-take-le c.face_path-n.result c.face_path-n.new.path (laid-short _ _ _ _ c.face_path-n.ensures (face-path-short s.args.room.now s.args.words.now s.args.body a.0 a.1)))

pub write_walk-requires : goal.write_walk-requires
write_walk-requires c =
    let s = c in
    let a = accepted-faces s.args.room.now s.args.words.now s.args.reals.now s.args.body (reach s.args.room.now 3 s.args.faces.now) (sym c.faces_refusal-refused.ensures ∙ c.if-refused-ne0.false) in
    let short = face-path-short s.args.room.now s.args.words.now s.args.body a.0 a.1 in
    let front = laid-front _ _ _ _ c.face_path-n.ensures short in
    record { lists = a.0; sources = sources-front s.args.room.now s.args.words.now _ _ _ _ (face-sources s.args.room.now s.args.words.now s.args.body a.0 a.1) c.face_path-n.ensures short; path_len_bound = path-fits front (le_trans short (lit≤ tt)); marks_value = zeros-same s.args.faces.now _ c.clear.ensures }

pub returns : goal.returns
unfolding faces_number faces_handed face_list
returns c =
    let s = c in
    let a = accepted-faces s.args.room.now s.args.words.now s.args.reals.now s.args.body (reach s.args.room.now 3 s.args.faces.now) (sym c.faces_refusal-refused.ensures ∙ c.if-refused-ne0.false) in
    let short = face-path-short s.args.room.now s.args.words.now s.args.body a.0 a.1 in
    let front = laid-front _ _ _ _ c.face_path-n.ensures short in
    let called = call-written (readable s.args.room.now s.args.words.now s.args.reals.now) (reach s.args.room.now 3 s.args.faces.now) (faces_refusal (decode s.args.room.now s.args.words.now s.args.reals.now) s.args.body) _ (face_walk (decode s.args.room.now s.args.words.now s.args.reals.now) s.args.body) _ _ _ _ _ c.faces_refusal-refused.ensures c.if-refused-ne0.false (face-list s.args.room.now s.args.words.now s.args.reals.now s.args.body) (wrote-along s.args.room.now s.args.words.now front c.write_walk.ensures.wrote) in
    record { count = called.count; list = called.list; code = called.code; faces = zeros-on s.args.faces.now c.clear.new.marks _ c.clear.ensures c.write_walk.ensures.marks_after }
