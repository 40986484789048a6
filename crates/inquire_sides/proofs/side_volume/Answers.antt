-- `inquire_sides::side_volume` meets its contract. Assumes nothing.
use Rattle.inquire_sides.specs.Sides.{is_at, rim_of}
use native.Mathlib.Omega.{arith}
use mathlib.Core.Path.{ap, ◌∙◌}
use lib.ListN.{length}
use Rattle.memory_layout.specs.Laws.{lists_of, words_inside}
use Rattle.memory_layout.proofs.Laws.{words-length}
use Rattle.memory_layout.specs.Decode.{decode}
use mathlib.Core.List.{map}
use Rattle.meaning.specs.Inquire.{polygon_volume}
use Rattle.inquire_fan.specs.Fan.{turned}
use Rattle.inquire_fin_starts.specs.Starts.{start_point}
use Rattle.inquire_sides.specs.Laws.{face-there, passed, rim-of, rim-short, side-volume}
use Rattle.inquire_sides.proofs.side_volume.Goals as goal

pub words_of-requires : goal.words_of-requires
words_of-requires c =
    let s = c in
    let l = lists_of s.args.room.now s.args.words.now s.args.reals.now s.requires.fit in
    let w = s.requires.face_value in
    record { small = l.small; inside = (words_inside s.args.room.now s.args.words.now 3 s.args.face l (omega arith) (face-there s.args.room.now s.args.words.now s.args.face w)) }

pub is_at-back-requires : goal.is_at-back-requires
is_at-back-requires c =
    let s = c in
    let l = lists_of s.args.room.now s.args.words.now s.args.reals.now s.requires.fit in
    let w = s.requires.face_value in
    let n = ap length c.words_of.ensures ∙ words-length s.args.room.now s.args.words.now 3 s.args.face (words_inside s.args.room.now s.args.words.now 3 s.args.face l (omega arith) (face-there s.args.room.now s.args.words.now s.args.face w)) in
    (omega arith, omega arith)

pub rim-requires : goal.rim-requires
rim-requires c =
    let s = c in
    let l = lists_of s.args.room.now s.args.words.now s.args.reals.now s.requires.fit in
    let w = s.requires.face_value in
    let p = passed s.args.room.now s.args.words.now s.args.shell s.args.face s.requires.face_value_2 in
    record { lists = l; face_value = w; face_len = p.0 }

pub polygon_volume-requires : goal.polygon_volume-requires
polygon_volume-requires c =
    let s = c in
    let l = lists_of s.args.room.now s.args.words.now s.args.reals.now s.requires.fit in
    let w = s.requires.face_value in
    let p = passed s.args.room.now s.args.words.now s.args.shell s.args.face s.requires.face_value_2 in
    rw c.rim.ensures record { fit = s.requires.fit; rim = rim-of s.args.room.now s.args.words.now s.args.face w p.0 p.2; in_bounds = (p.1, rim-short s.args.room.now s.args.words.now s.args.face w p.0 l) }

pub returns : goal.returns
returns c =
    let s = c in
    c.polygon_volume.ensures ∙ ap (λ f. polygon_volume (turned c.is_at-back.result (map (start_point (decode s.args.room.now s.args.words.now s.args.reals.now)) f))) c.rim.ensures ∙ ap (λ b. polygon_volume (turned b (map (start_point (decode s.args.room.now s.args.words.now s.args.reals.now)) (rim_of s.args.room.now s.args.words.now s.args.face)))) (c.is_at-back.ensures ∙ ap (λ t. is_at t 0 s.args.shell) c.words_of.ensures) ∙ side-volume s.args.room.now s.args.words.now s.args.reals.now s.args.shell s.args.face
