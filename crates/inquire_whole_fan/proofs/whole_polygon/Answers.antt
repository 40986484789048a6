-- `inquire_whole_fan::whole_polygon` meets its contract: a turn of the loop is one more triangle of the fan. Assumes nothing.
use Prim.Native.Nat.{◌+◌, ◌*◌, ◌^◌, ◌≤◌, ◌-◌}
use native.Mathlib.Omega.{arith}
use mathlib.Core.Path.{sym, ap, ◌∙◌, subst}
use mathlib.Core.List.{map}
use lib.IntN.{nat_abs, ◌+ℤ◌, +ℤ_idl}
use lib.ListN.{drop, length-map}
use mir.Syntax.{w64}
use mir.Val.{to_z}
use Rattle.meaning_sheets.specs.Sheets.{corner, whole_fan}
use Rattle.meaning_sheet_laws.specs.Sizes.{Small}
use Rattle.meaning_sheet_laws.proofs.Sizes.{corner-small}
use Rattle.memory_layout.specs.Decode.{decode}
use Rattle.inquire_fin_starts.specs.Starts.{start_point}
use Rattle.inquire_fan.specs.Fan.{turned}
use Rattle.inquire_fan.specs.Laws.{turned-length}
use Rattle.inquire_corners.specs.Seen.{seen}
use Rattle.inquire_whole_fan.specs.Laws.{corner-at, fan-turn, fan-done, polygon-fan, sum-size, sum_fits, sum_is}
use Rattle.inquire_whole_fan.proofs.whole_polygon.Goals as goal

pub counted_corner-o-requires : goal.counted_corner-o-requires
counted_corner-o-requires c = let s = c in let long = s.requires.in_bounds.0 in record { fit = s.requires.fit; rim = s.requires.rim; fins_value = s.requires.fins_value; k_in_bounds = omega arith }

pub counted_corner-p-requires : goal.counted_corner-p-requires
counted_corner-p-requires c = let s = c in let long = s.requires.in_bounds.0 in record { fit = s.requires.fit; rim = s.requires.rim; fins_value = s.requires.fins_value; k_in_bounds = omega arith }

pub loop-k-init : goal.loop-k-init
loop-k-init c = (c.counted_corner-p.ensures, +ℤ_idl _, omega arith)

pub counted_corner-q-requires : goal.counted_corner-q-requires
counted_corner-q-requires c = let s = c in let long = s.requires.in_bounds.0 in record { fit = s.requires.fit; rim = s.requires.rim; fins_value = s.requires.fins_value; k_in_bounds = omega arith }

pub wedge-acc-requires : goal.wedge-acc-requires
wedge-acc-requires c = (subst Small (sym c.counted_corner-o.ensures) (corner-small _), subst Small (sym c.loop-k.invariant.0) (corner-small _), subst Small (sym c.counted_corner-q.ensures) (corner-small _))

pub overflow_add-acc : goal.overflow_add-acc
overflow_add-acc c =
    let s = c in
    let turn = c.loop-k in
    let short = s.requires.in_bounds.1 in
    sum_fits (to_z w64 turn.acc-bits) c.wedge-acc.result (seen c.counted_corner-o.result) (seen turn.p) (seen c.counted_corner-q.result) c.wedge-acc.ensures
    (subst Small (sym c.counted_corner-o.ensures) (corner-small _)) (subst Small (sym turn.invariant.0) (corner-small _)) (subst Small (sym c.counted_corner-q.ensures) (corner-small _))
    turn.k (omega arith) (omega arith) turn.invariant.2

pub loop-k-preserved : goal.loop-k-preserved
loop-k-preserved c =
    let s = c in
    let turn = c.loop-k in
    let short = s.requires.in_bounds.1 in
    let at = start_point (decode s.args.room.now s.args.words.now s.args.reals.now) in
    let l = turned s.args.back (map at s.args.fins.now) in
    let long = length-map l corner ∙ turned-length s.args.back (map at s.args.fins.now) ∙ length-map s.args.fins.now at in
    let o = seen c.counted_corner-o.result in
    let q = c.counted_corner-q in
    let so = subst Small (sym c.counted_corner-o.ensures) (corner-small _) in
    let sp = subst Small (sym turn.invariant.0) (corner-small _) in
    let sq = subst Small (sym q.ensures) (corner-small _) in
    let is = sum_is (to_z w64 turn.acc-bits) c.wedge-acc.result o (seen turn.p) (seen q.result) c.wedge-acc.ensures so sp sq turn.k (omega arith) (omega arith) turn.invariant.2 in (
      q.ensures,
      ap (λ z. z +ℤ whole_fan o (drop (turn.k + 1) (map corner l))) is ∙ sym (fan-turn o (seen turn.p) (seen q.result) (to_z w64 turn.acc-bits) (map corner l) turn.k (omega arith) (turn.invariant.0 ∙ sym (corner-at l turn.k)) (q.ensures ∙ sym (corner-at l (turn.k + 1)))) ∙ turn.invariant.1,
      subst (λ z. nat_abs z ≤ 3 * 2 ^ 48 * (turn.k + 1 - 1)) (sym is) (sum-size (to_z w64 turn.acc-bits) c.wedge-acc.result o (seen turn.p) (seen q.result) c.wedge-acc.ensures so sp sq turn.k (omega arith) (omega arith) turn.invariant.2),
    )

pub returns : goal.returns
returns c =
    let s = c in
    let at = start_point (decode s.args.room.now s.args.words.now s.args.reals.now) in
    let l = turned s.args.back (map at s.args.fins.now) in
    let long = length-map l corner ∙ turned-length s.args.back (map at s.args.fins.now) ∙ length-map s.args.fins.now at in
    let turn = c.loop-k in
    let first = c.counted_corner-o.ensures ∙ sym (corner-at l 0) in
    sym (fan-done _ (to_z w64 turn.acc-bits) (map corner l) turn.k (omega arith)) ∙ turn.invariant.1 ∙ ap (λ o. whole_fan o (drop 1 (map corner l))) first ∙ sym (polygon-fan (map corner l) (omega arith))
