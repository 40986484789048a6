-- `inquire_sides::side_refusal` meets its contract. Assumes nothing.
use native.Mathlib.Omega.{arith}
use mathlib.Core.Path.{sym, ap, ◌∙◌}
use lib.ListN.{length}
use Rattle.memory_layout.specs.Laws.{words_inside}
use Rattle.memory_layout.proofs.Laws.{words-length}
use Rattle.geom_lines_planes.specs.Refuse.{◌then◌}
use Rattle.memory_layout.specs.Layout.{words_of}
use Rattle.split_segment.specs.Laws.{refuses}
use Rattle.inquire_sides.specs.Sides.{bound_number, rim_of, rim_number, side_number}
use Rattle.inquire_sides.specs.Laws.{face-there, one-loop, rim-whole}
use Rattle.inquire_sides.proofs.side_refusal.Goals as goal

pub list-loops-requires : goal.list-loops-requires
list-loops-requires c =
    let s = c in
    let w = s.requires.face_value in
    let l = s.requires.lists in
    record { lists = l; j_bound = (omega arith, face-there s.args.room.now s.args.words.now s.args.face w) }

pub words_of-requires : goal.words_of-requires
words_of-requires c =
    let s = c in
    let w = s.requires.face_value in
    let l = s.requires.lists in
    record { small = l.small; inside = (words_inside s.args.room.now s.args.words.now 3 s.args.face l (omega arith) (face-there s.args.room.now s.args.words.now s.args.face w)) }

pub bound_refusal-n-requires : goal.bound_refusal-n-requires
bound_refusal-n-requires c =
    let s = c in
    let w = s.requires.face_value in
    let l = s.requires.lists in
    ap length c.words_of.ensures ∙ words-length s.args.room.now s.args.words.now 3 s.args.face (words_inside s.args.room.now s.args.words.now 3 s.args.face l (omega arith) (face-there s.args.room.now s.args.words.now s.args.face w))

pub returns-then-n-ne0 : goal.returns-then-n-ne0
unfolding side_number
returns-then-n-ne0 c =
    let s = c in
    let w = s.requires.face_value in
    let l = s.requires.lists in
    let e = c.bound_refusal-n.ensures ∙ ap (λ t. bound_number t (length c.list-loops.result.now) s.args.shell) c.words_of.ensures ∙ ap (λ t. bound_number (words_of s.args.room.now s.args.words.now 3 s.args.face) (length t) s.args.shell) c.list-loops.ensures in
    refuses _ (rim_number s.args.room.now s.args.words.now (rim_of s.args.room.now s.args.words.now s.args.face)) c.if-n-ne0.true ∙ ap (λ k. k then rim_number s.args.room.now s.args.words.now (rim_of s.args.room.now s.args.words.now s.args.face)) e

pub rim-requires : goal.rim-requires
rim-requires c =
    let s = c in
    let w = s.requires.face_value in
    let l = s.requires.lists in
    let e = c.bound_refusal-n.ensures ∙ ap (λ t. bound_number t (length c.list-loops.result.now) s.args.shell) c.words_of.ensures ∙ ap (λ t. bound_number (words_of s.args.room.now s.args.words.now 3 s.args.face) (length t) s.args.shell) c.list-loops.ensures in
    record { lists = l; face_value = w; face_len = one-loop s.args.room.now s.args.words.now s.args.shell s.args.face (sym e ∙ c.if-n-ne0.false) }

pub rim_refusal-requires : goal.rim_refusal-requires
rim_refusal-requires c =
    let s = c in
    let w = s.requires.face_value in
    let l = s.requires.lists in
    let e = c.bound_refusal-n.ensures ∙ ap (λ t. bound_number t (length c.list-loops.result.now) s.args.shell) c.words_of.ensures ∙ ap (λ t. bound_number (words_of s.args.room.now s.args.words.now 3 s.args.face) (length t) s.args.shell) c.list-loops.ensures in
    record { lists = l; fins_value = rw c.rim.ensures (rim-whole s.args.room.now s.args.words.now s.args.face w (one-loop s.args.room.now s.args.words.now s.args.shell s.args.face (sym e ∙ c.if-n-ne0.false))) }

pub returns : goal.returns
unfolding side_number
returns c =
    let s = c in
    let w = s.requires.face_value in
    let l = s.requires.lists in
    let e = c.bound_refusal-n.ensures ∙ ap (λ t. bound_number t (length c.list-loops.result.now) s.args.shell) c.words_of.ensures ∙ ap (λ t. bound_number (words_of s.args.room.now s.args.words.now 3 s.args.face) (length t) s.args.shell) c.list-loops.ensures in
    c.rim_refusal.ensures ∙ ap (rim_number s.args.room.now s.args.words.now) c.rim.ensures ∙ ap (λ k. k then rim_number s.args.room.now s.args.words.now (rim_of s.args.room.now s.args.words.now s.args.face)) (sym (sym e ∙ c.if-n-ne0.false))
