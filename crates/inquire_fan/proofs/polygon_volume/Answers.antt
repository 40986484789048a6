-- `polygon_volume` meets its contract: a turn of the loop is one more triangle of the fan. Assumes nothing.
use Rattle.std.specs.Prelude.{◌+◌, map}
use Rattle.std.proofs.Common.{drop, sym, ap, ap₂, ◌∙◌, arith}
use lib.ListN.{length-map}
use Rattle.interval_arithmetic.specs.Ops.{zero_f}
use Rattle.float_vectors.specs.declared.vector.Point3.{Point3}
use Rattle.float_vectors.specs.Space.{◌+ᶠ◌}
use Rattle.meaning.specs.Floats.{◌/ᶠ◌}
use Rattle.meaning.specs.Inquire.{fan}
use Rattle.memory_layout.specs.Decode.{decode}
use Rattle.inquire_fin_starts.specs.Starts.{start_point}
use Rattle.inquire_fan.specs.Fan.{turned}
use Rattle.inquire_fan.specs.Laws.{turned-length, fan-turn, fan-done, polygon-fan, zero_bits, six-bits}
use Rattle.inquire_fan.proofs.polygon_volume.Goals as goal

pub corner-o-requires : goal.corner-o-requires
corner-o-requires c = let s = c in let long = s.requires.in_bounds.0 in record { fit = s.requires.fit; rim = s.requires.rim; k_in_bounds = omega arith }

pub corner-p-requires : goal.corner-p-requires
corner-p-requires c = let s = c in let long = s.requires.in_bounds.0 in record { fit = s.requires.fit; rim = s.requires.rim; k_in_bounds = omega arith }

pub loop-k-init : goal.loop-k-init
loop-k-init c = (c.corner-p.ensures, rw zero_bits)

pub corner-q-requires : goal.corner-q-requires
corner-q-requires c = let s = c in let long = s.requires.in_bounds.0 in record { fit = s.requires.fit; rim = s.requires.rim; k_in_bounds = omega arith }

pub loop-k-preserved : goal.loop-k-preserved
loop-k-preserved c =
    let s = c in
    let l = turned s.args.back (map (start_point (decode s.args.room.now s.args.words.now s.args.reals.now)) s.args.fins.now) in
    let long = turned-length s.args.back (map (start_point (decode s.args.room.now s.args.words.now s.args.reals.now)) s.args.fins.now) ∙ length-map s.args.fins.now (start_point (decode s.args.room.now s.args.words.now s.args.reals.now)) in
    let turn = c.loop-k in
    let o = c.corner-o.result in
    let q = c.corner-q in (
      q.ensures,
      turn.invariant.1 ∙ fan-turn o turn.p q.result turn.acc l turn.k (omega arith) turn.invariant.0 q.ensures ∙ ap (λ a. fan o (turn.acc +ᶠ a) (drop (turn.k + 1) l)) (sym c.wedge-acc.ensures),
    )

pub returns : goal.returns
returns c =
    let s = c in
    let l = turned s.args.back (map (start_point (decode s.args.room.now s.args.words.now s.args.reals.now)) s.args.fins.now) in
    let long = turned-length s.args.back (map (start_point (decode s.args.room.now s.args.words.now s.args.reals.now)) s.args.fins.now) ∙ length-map s.args.fins.now (start_point (decode s.args.room.now s.args.words.now s.args.reals.now)) in
    let turn = c.loop-k in
    let done = turn.invariant.1 ∙ fan-done _ _ l turn.k (omega arith) in
    let first = c.corner-o.ensures in
    sym (polygon-fan l (omega arith) ∙ ap₂ ◌/ᶠ◌ (ap (λ (o : Point3). fan o zero_f (drop 1 l)) (sym first) ∙ done) (sym six-bits))
