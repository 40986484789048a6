-- `inquire_weight::whole_side` meets its contract. Assumes nothing.
use Rattle.std.proofs.Common.{map, length, ap, ◌∙◌, arith}
use Rattle.meaning_sheets.specs.Sheets.{corner, whole_polygon}
use Rattle.memory_layout.specs.Laws.{lists_of, words_inside}
use Rattle.memory_layout.proofs.Laws.{words-length}
use Rattle.memory_layout.specs.Decode.{decode}
use Rattle.inquire_fan.specs.Fan.{turned}
use Rattle.inquire_fin_starts.specs.Starts.{start_point}
use Rattle.inquire_sides.specs.Sides.{is_at, rim_of}
use Rattle.inquire_sides.specs.Laws.{face-there, passed, rim-of, rim-short}
use Rattle.inquire_weight.specs.Laws.{side-is, read-side}
use Rattle.inquire_weight.proofs.whole_side.Goals as goal

pub words_of-requires : goal.words_of-requires
words_of-requires c =
    let s = c in
    let l = lists_of s.args.room.now s.args.words.now s.args.reals.now s.requires.fit in
    record { small = l.small; inside = (words_inside s.args.room.now s.args.words.now 3 s.args.face l (omega arith) (face-there s.args.room.now s.args.words.now s.args.face s.requires.face_value)) }

pub is_at-back-requires : goal.is_at-back-requires
is_at-back-requires c =
    let s = c in
    let l = lists_of s.args.room.now s.args.words.now s.args.reals.now s.requires.fit in
    let n = ap length c.words_of.ensures ∙ words-length s.args.room.now s.args.words.now 3 s.args.face (words_inside s.args.room.now s.args.words.now 3 s.args.face l (omega arith) (face-there s.args.room.now s.args.words.now s.args.face s.requires.face_value)) in
    (omega arith, omega arith)

pub rim-requires : goal.rim-requires
rim-requires c =
    let s = c in
    let p = passed s.args.room.now s.args.words.now s.args.shell s.args.face s.requires.face_value_2 in
    record { lists = lists_of s.args.room.now s.args.words.now s.args.reals.now s.requires.fit; face_value = s.requires.face_value; face_len = p.0 }

pub whole_polygon-requires : goal.whole_polygon-requires
whole_polygon-requires c =
    let s = c in
    let l = lists_of s.args.room.now s.args.words.now s.args.reals.now s.requires.fit in
    let w = s.requires.face_value in
    let p = passed s.args.room.now s.args.words.now s.args.shell s.args.face s.requires.face_value_2 in
    rw c.rim.ensures record { fit = s.requires.fit; rim = rim-of s.args.room.now s.args.words.now s.args.face w p.0 p.2; fins_value = s.requires.face_value_3; in_bounds = (p.1, rim-short s.args.room.now s.args.words.now s.args.face w p.0 l) }

pub returns : goal.returns
returns c =
    let s = c in
    let at = map (start_point (decode s.args.room.now s.args.words.now s.args.reals.now)) in
    let w = s.requires.face_value in
    let p = passed s.args.room.now s.args.words.now s.args.shell s.args.face s.requires.face_value_2 in
    read-side s.args.room.now s.args.words.now s.args.reals.now s.args.shell s.args.face _
    (c.whole_polygon.ensures
    ∙ ap (λ f. whole_polygon (map corner (turned c.is_at-back.result (at f)))) c.rim.ensures
    ∙ ap (λ b. whole_polygon (map corner (turned b (at (rim_of s.args.room.now s.args.words.now s.args.face))))) (c.is_at-back.ensures ∙ ap (λ t. is_at t 0 s.args.shell) c.words_of.ensures)
    ∙ side-is s.args.room.now s.args.words.now s.args.reals.now s.args.shell s.args.face)
    (rim-short s.args.room.now s.args.words.now s.args.face w p.0 (lists_of s.args.room.now s.args.words.now s.args.reals.now s.requires.fit))
