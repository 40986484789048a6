-- `stl_fan::with_side` meets its contract. Assumes nothing.
use Prim.Native.Nat.{◌+◌, ◌-◌, ◌*◌}
use native.Mathlib.Omega.{arith}
use mathlib.Core.Path.{refl, ap, ◌∙◌}
use mathlib.Core.List.{map}
use lib.ListN.{length}
use Rattle.memory_layout.specs.Laws.{lists_of, words_inside}
use Rattle.memory_layout.proofs.Laws.{words-length}
use Rattle.memory_layout.specs.Decode.{decode}
use Rattle.inquire_fan.specs.Fan.{turned}
use Rattle.inquire_fin_starts.specs.Starts.{start_point}
use Rattle.inquire_sides.specs.Sides.{is_at, rim_of}
use Rattle.inquire_sides.specs.Laws.{face-there, passed, rim-of, rim-short}
use Rattle.stl_format.specs.Stl.{polygon_triangles, narrow_points}
use Rattle.stl_triangles.specs.Spots.{drawn}
use Rattle.stl_fan.specs.Laws.{side-drawn}
use Rattle.stl_fan.proofs.with_side.Goals as goal

pub rim-fins-requires : goal.rim-fins-requires
rim-fins-requires c =
    let s = c in
    let p = passed s.args.room.now s.args.words.now s.args.shell s.args.face s.requires.face_value_2 in
    record { lists = lists_of s.args.room.now s.args.words.now s.args.reals.now s.requires.fit; face_value = s.requires.face_value; face_len = p.0 }

pub words_of-requires : goal.words_of-requires
words_of-requires c =
    let s = c in
    let l = lists_of s.args.room.now s.args.words.now s.args.reals.now s.requires.fit in
    record { small = l.small; inside = words_inside s.args.room.now s.args.words.now 3 s.args.face l (omega arith) (face-there s.args.room.now s.args.words.now s.args.face s.requires.face_value) }

pub is_at-back-requires : goal.is_at-back-requires
is_at-back-requires c =
    let s = c in
    let l = lists_of s.args.room.now s.args.words.now s.args.reals.now s.requires.fit in
    let n = ap length c.words_of.ensures ∙ words-length s.args.room.now s.args.words.now 3 s.args.face (words_inside s.args.room.now s.args.words.now 3 s.args.face l (omega arith) (face-there s.args.room.now s.args.words.now s.args.face s.requires.face_value)) in
    (omega arith, omega arith)

pub draw_fan-narrow-requires : goal.draw_fan-narrow-requires
draw_fan-narrow-requires c =
    let s = c in
    let w = s.requires.face_value in
    let few = s.requires.count_bound in
    let p = passed s.args.room.now s.args.words.now s.args.shell s.args.face s.requires.face_value_2 in
    rw c.rim-fins.ensures record { fit = s.requires.fit; rim = rim-of s.args.room.now s.args.words.now s.args.face w p.0 p.2; in_bounds = (p.1, rim-short s.args.room.now s.args.words.now s.args.face w p.0 (lists_of s.args.room.now s.args.words.now s.args.reals.now s.requires.fit)); at_bound = omega arith }

pub overflow_sub-result : goal.overflow_sub-result
overflow_sub-result c =
    let s = c in
    let p = passed s.args.room.now s.args.words.now s.args.shell s.args.face s.requires.face_value_2 in
    let long = p.1 in
    omega (arith, ap length c.rim-fins.ensures)

pub overflow_add-result : goal.overflow_add-result
overflow_add-result c =
    let s = c in
    let few = s.requires.count_bound in
    let p = passed s.args.room.now s.args.words.now s.args.shell s.args.face s.requires.face_value_2 in
    let short = rim-short s.args.room.now s.args.words.now s.args.face s.requires.face_value p.0 (lists_of s.args.room.now s.args.words.now s.args.reals.now s.requires.fit) in
    omega (arith, ap length c.rim-fins.ensures)

pub returns : goal.returns
returns c =
    let s = c in
    let at = map (start_point (decode s.args.room.now s.args.words.now s.args.reals.now)) in
    let fins = c.rim-fins.ensures in
    let back = c.is_at-back.ensures ∙ ap (λ t. is_at t 0 s.args.shell) c.words_of.ensures in
    let p = passed s.args.room.now s.args.words.now s.args.shell s.args.face s.requires.face_value_2 in
    let short = rim-short s.args.room.now s.args.words.now s.args.face s.requires.face_value p.0 (lists_of s.args.room.now s.args.words.now s.args.reals.now s.requires.fit) in record {
      drawn = side-drawn s.args.room.now s.args.words.now s.args.reals.now s.args.shell s.args.face s.args.t _ c.draw_fan-narrow.result s.args.bytes.now _ p.1
          (c.draw_fan-narrow.ensures.narrow ∙ ap (λ f. narrow_points (turned c.is_at-back.result (at f))) fins ∙ ap (λ b. narrow_points (turned b (at (rim_of s.args.room.now s.args.words.now s.args.face)))) back)
          (c.draw_fan-narrow.ensures.drawn ∙ ap (λ f. drawn (84 + 50 * s.args.t.count) (polygon_triangles (turned c.is_at-back.result (at f))) s.args.bytes.now) fins ∙ ap (λ b. drawn (84 + 50 * s.args.t.count) (polygon_triangles (turned b (at (rim_of s.args.room.now s.args.words.now s.args.face)))) s.args.bytes.now) back)
          refl
          (ap (λ f. s.args.t.count + (length f - 2)) fins);
      few = omega (arith, ap length fins);
    }
