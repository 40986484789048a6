-- `inquire_weight::with_weight` meets its contract. Assumes nothing.
use Rattle.std.proofs.Common.{◌+◌, ◌-◌, ◌%◌, ◌^◌, map, length, sym, ap, ◌∙◌, arith, rules}
use Rattle.meaning_sheets.specs.Sheets.{grid_points}
use Rattle.memory_layout.specs.Laws.{lists_of}
use Rattle.memory_layout.specs.Decode.{decode}
use Rattle.inquire_fin_starts.specs.Starts.{start_point}
use Rattle.inquire_sides.specs.Laws.{passed, rim-of, rim-short}
use Rattle.inquire_weight.specs.Weights.{capped}
use Rattle.inquire_weight.specs.Laws.{capped_small, side-grid, rim-length, on-grid, held-bits, over-weight, in-weight, side-held, read-side}
use Rattle.inquire_weight.proofs.with_weight.Goals as goal

pub rim-fins-requires : goal.rim-fins-requires
rim-fins-requires c =
    let s = c in
    let p = passed s.args.room.now s.args.words.now s.args.shell s.args.face s.requires.face_value_2 in
    record { lists = lists_of s.args.room.now s.args.words.now s.args.reals.now s.requires.fit; face_value = s.requires.face_value; face_len = p.0 }

pub grid_points-requires : goal.grid_points-requires
grid_points-requires c =
    let s = c in
    let p = passed s.args.room.now s.args.words.now s.args.shell s.args.face s.requires.face_value_2 in
    rw c.rim-fins.ensures record { fit = s.requires.fit; rim = rim-of s.args.room.now s.args.words.now s.args.face s.requires.face_value p.0 p.2 }

pub overflow_sub-fins : goal.overflow_sub-fins
overflow_sub-fins c =
    let s = c in
    let p = passed s.args.room.now s.args.words.now s.args.shell s.args.face s.requires.face_value_2 in
    let long = p.1 in
    omega (arith, ap length c.rim-fins.ensures)

pub overflow_add-capped : goal.overflow_add-capped
overflow_add-capped c =
    let s = c in
    let p = passed s.args.room.now s.args.words.now s.args.shell s.args.face s.requires.face_value_2 in
    let short = rim-short s.args.room.now s.args.words.now s.args.face s.requires.face_value p.0 (lists_of s.args.room.now s.args.words.now s.args.reals.now s.requires.fit) in
    omega (arith, ap length c.rim-fins.ensures, c.capped.ensures, capped_small s.args.w.triangles)

pub returns-then-off-triangles : goal.returns-then-off-triangles
returns-then-off-triangles c l e =
    let s = c in
    let points = map (start_point (decode s.args.room.now s.args.words.now s.args.reals.now)) in
    let fins = c.rim-fins.ensures in
    let grid = c.grid_points.ensures ∙ ap (λ f. grid_points (points f)) fins in
    over-weight (decode s.args.room.now s.args.words.now s.args.reals.now) l _ s.args.w e _ (grid ∙ side-grid s.args.room.now s.args.words.now s.args.reals.now s.args.shell s.args.face) _ (ap length fins ∙ rim-length s.args.room.now s.args.words.now s.args.reals.now s.args.shell s.args.face) _
    (c.capped-triangles.ensures ∙ ap (λ k. capped (k + (length c.rim-fins.result.now - 2))) c.capped.ensures) c.if-off-triangles.true

pub whole_side-v-requires : goal.whole_side-v-requires
whole_side-v-requires c =
    let s = c in
    let points = map (start_point (decode s.args.room.now s.args.words.now s.args.reals.now)) in
    let fins = c.rim-fins.ensures in
    let grid = c.grid_points.ensures ∙ ap (λ f. grid_points (points f)) fins in
    record { fit = s.requires.fit; face_value = s.requires.face_value; face_value_2 = s.requires.face_value_2; face_value_3 = sym grid ∙ on-grid s.args.w.off c.grid_points.result _ c.if-off-triangles.false }

pub above-requires : goal.above-requires
above-requires c =
    let s = c in
    let p = passed s.args.room.now s.args.words.now s.args.shell s.args.face s.requires.face_value_2 in
    held-bits c.whole_side-v.result (side-held s.args.room.now s.args.words.now s.args.reals.now s.args.shell s.args.face _ c.whole_side-v.ensures (rim-short s.args.room.now s.args.words.now s.args.face s.requires.face_value p.0 (lists_of s.args.room.now s.args.words.now s.args.reals.now s.requires.fit)))

pub below-requires : goal.below-requires
below-requires c =
    let s = c in
    let p = passed s.args.room.now s.args.words.now s.args.shell s.args.face s.requires.face_value_2 in
    held-bits c.whole_side-v.result (side-held s.args.room.now s.args.words.now s.args.reals.now s.args.shell s.args.face _ c.whole_side-v.ensures (rim-short s.args.room.now s.args.words.now s.args.face s.requires.face_value p.0 (lists_of s.args.room.now s.args.words.now s.args.reals.now s.requires.fit)))

pub returns : goal.returns
returns c l e =
    let s = c in
    let points = map (start_point (decode s.args.room.now s.args.words.now s.args.reals.now)) in
    let fins = c.rim-fins.ensures in
    let grid = c.grid_points.ensures ∙ ap (λ f. grid_points (points f)) fins in
    let p = passed s.args.room.now s.args.words.now s.args.shell s.args.face s.requires.face_value_2 in
    let v = read-side s.args.room.now s.args.words.now s.args.reals.now s.args.shell s.args.face _ c.whole_side-v.ensures (rim-short s.args.room.now s.args.words.now s.args.face s.requires.face_value p.0 (lists_of s.args.room.now s.args.words.now s.args.reals.now s.requires.fit)) in
    in-weight (decode s.args.room.now s.args.words.now s.args.reals.now) l _ s.args.w e _ (grid ∙ side-grid s.args.room.now s.args.words.now s.args.reals.now s.args.shell s.args.face) _ (ap length fins ∙ rim-length s.args.room.now s.args.words.now s.args.reals.now s.args.shell s.args.face) _
    (c.capped-triangles.ensures ∙ ap (λ k. capped (k + (length c.rim-fins.result.now - 2))) c.capped.ensures) c.if-off-triangles.false _ v _ _
    (c.wrapping_add_u64.ensures.value ∙ ap (λ k. (s.args.w.plus + k) % 2 ^ 64) c.above.ensures)
    (c.wrapping_add_u64-2.ensures.value ∙ ap (λ k. (s.args.w.minus + k) % 2 ^ 64) c.below.ensures)
