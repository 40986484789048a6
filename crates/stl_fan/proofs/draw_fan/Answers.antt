-- `stl_fan::draw_fan` meets its contract: a turn of the loop is one more triangle of the fan. Assumes nothing.
use Rattle.std.specs.Prelude.{ℕ, ◌+◌, ◌*◌, ◌-◌, ◌≡◌, Bool, List, map, length, get_or, drop, Float}
use Rattle.std.proofs.Common.{arith, sym, ap, ap₂, ◌∙◌}
use Rattle.std.proofs.lemmas.List.{length-map}
use Rattle.memory_layout.specs.Decode.{decode}
use Rattle.inquire_fin_starts.specs.Starts.{start_point}
use Rattle.inquire_fan.specs.Fan.{origin_p}
use Rattle.inquire_fan.specs.Laws.{turned-length}
use Rattle.stl_format.specs.Stl.{fan_triangles, narrow_point}
use Rattle.stl_triangles.specs.Spots.{spot_of, drawn}
use Rattle.stl_fan.specs.Laws.{fan-turn, fan-done, polygon-fan, narrow-first, narrow-turn, narrow-done}
use Rattle.stl_fan.proofs.draw_fan.Invariants.{points}
use Rattle.stl_fan.proofs.draw_fan.Goals as goal

points-length : (room words : List ℕ) (reals : List Float) (fins : List ℕ) (back : Bool) → length (points room words reals fins back) ≡ length fins
points-length room words reals fins back = turned-length back (map (start_point (decode room words reals)) fins) ∙ length-map fins (start_point (decode room words reals))

pub corner-first-requires : goal.corner-first-requires
corner-first-requires c = let s = c in let long = s.requires.in_bounds.0 in record { fit = s.requires.fit; rim = s.requires.rim; k_in_bounds = omega arith }

pub corner-second-requires : goal.corner-second-requires
corner-second-requires c = let s = c in let long = s.requires.in_bounds.0 in record { fit = s.requires.fit; rim = s.requires.rim; k_in_bounds = omega arith }

pub loop-k-init : goal.loop-k-init
loop-k-init c =
    let s = c in
    let l = points s.args.room.now s.args.words.now s.args.reals.now s.args.fins.now s.args.back in
    let long = s.requires.in_bounds.0 in
    let many = points-length s.args.room.now s.args.words.now s.args.reals.now s.args.fins.now s.args.back in
    let here : s.args.at + 50 * (1 - 1) ≡ s.args.at = omega arith in (
      c.spot_of-p.ensures ∙ ap spot_of c.corner-second.ensures,
      ap (λ (n : ℕ). drawn n (fan_triangles (get_or l 0 origin_p) (drop 1 l)) s.args.bytes.now) here,
      narrow-first l _ _ (omega arith) (c.narrow_point.ensures ∙ ap narrow_point c.corner-first.ensures) (c.narrow_point-2.ensures ∙ ap narrow_point c.corner-second.ensures),
    )

pub loop-k-preserved : goal.loop-k-preserved
loop-k-preserved c =
    let s = c in
    let turn = c.loop-k in
    let k = turn.k in
    let l = points s.args.room.now s.args.words.now s.args.reals.now s.args.fins.now s.args.back in
    let many = points-length s.args.room.now s.args.words.now s.args.reals.now s.args.fins.now s.args.back in
    let o = get_or l 0 origin_p in
    let q = c.spot_of-q.ensures ∙ ap spot_of c.corner-next.ensures in
    let here : s.args.at + 50 * (k + 1 - 1) ≡ s.args.at + 50 * (k - 1) + 50 = omega arith in (
      q,
      ap₂ (λ (n : ℕ) (v : List ℕ). drawn n (fan_triangles o (drop (k + 1) l)) v) here c.put_triangle.ensures
          ∙ sym (fan-turn o c.spot_of-o.result turn.p c.spot_of-q.result (s.args.at + 50 * (k - 1)) l k turn.bytes (omega arith) (c.spot_of-o.ensures ∙ ap spot_of c.corner-first.ensures) turn.invariant.0 q)
          ∙ turn.invariant.1,
      narrow-turn l k turn.narrow c.narrow_point-narrow.result (omega arith) (c.narrow_point-narrow.ensures ∙ ap narrow_point c.corner-next.ensures) ∙ turn.invariant.2,
    )

pub returns : goal.returns
returns c =
    let s = c in
    let turn = c.loop-k in
    let l = points s.args.room.now s.args.words.now s.args.reals.now s.args.fins.now s.args.back in
    let many = points-length s.args.room.now s.args.words.now s.args.reals.now s.args.fins.now s.args.back in
    let long = s.requires.in_bounds.0 in
    record { narrow = sym (narrow-done l turn.k turn.narrow (omega arith)) ∙ turn.invariant.2; drawn = sym (fan-done (get_or l 0 origin_p) (s.args.at + 50 * (turn.k - 1)) l turn.k turn.bytes (omega arith)) ∙ turn.invariant.1 ∙ ap (λ t. drawn s.args.at t s.args.bytes.now) (sym (polygon-fan l (omega arith))) }
