-- `slab_areas::loop_area` meets its contract. Assumes nothing.
use Rattle.std.specs.Prelude.{◌+◌, ◌*◌, ◌^◌, ◌≡◌, ◌≤◌, nat_abs, get_or}
use Rattle.std.proofs.Common.{refl, sym, subst, arith}
use mir.Syntax.{w64}
use mir.Val.{to_z}
use Rattle.meaning_slab_laws.specs.Steps.{sum-none, sum-turn, sum_done}
use Rattle.memory_layout.specs.Decode.{decode}
use Rattle.inquire_fin_starts.specs.Starts.{start_number, Whole}
use Rattle.inquire_fin_starts.specs.Laws.{rim-whole, rim-start}
use Rattle.slab_areas.specs.Measured.{step_at}
use Rattle.slab_areas.specs.Laws.{step-size, sum-size, sum_fits, sum_is, next-rim}
use Rattle.slab_areas.proofs.loop_area.Goals as goal

pub loop-k-init : goal.loop-k-init
loop-k-init c = (sum-none c.args.fins.now (step_at (decode c.args.room.now c.args.words.now c.args.reals.now) c.args.axis), omega arith)

pub step-acc-requires : goal.step-acc-requires
step-acc-requires c = let s = c in let k = c.loop-k.k in let next = next-rim s.args.room.now s.args.words.now s.args.fins.now k s.requires.rim (omega arith) in record { fit = s.requires.fit; whole = (rim-whole s.args.room.now s.args.words.now s.args.fins.now k (omega arith) s.requires.rim, subst (Whole s.args.room.now s.args.words.now) (sym c.next_of-next.ensures) next.0); i_value = (rim-start s.args.room.now s.args.words.now s.args.fins.now k (omega arith) s.requires.rim, subst (λ i. start_number s.args.room.now s.args.words.now i ≡ 0) (sym c.next_of-next.ensures) next.1) }

pub overflow_add-acc : goal.overflow_add-acc
overflow_add-acc c = let s = c in let turn = c.loop-k in let short = s.requires.fins_len_bound in sum_fits (to_z w64 turn.acc-bits) c.step-acc.result _ c.step-acc.ensures (step-size (decode s.args.room.now s.args.words.now s.args.reals.now) s.args.axis _ _) turn.k (omega arith) turn.invariant.1

pub loop-k-preserved : goal.loop-k-preserved
loop-k-preserved c = let s = c in let turn = c.loop-k in let short = s.requires.fins_len_bound in
    let is = sum_is (to_z w64 turn.acc-bits) c.step-acc.result _ c.step-acc.ensures (step-size (decode s.args.room.now s.args.words.now s.args.reals.now) s.args.axis _ _) turn.k (omega arith) turn.invariant.1 in (
      sum-turn s.args.fins.now (step_at (decode s.args.room.now s.args.words.now s.args.reals.now) s.args.axis) turn.k (get_or s.args.fins.now turn.k 0) _ _ _ _ (omega arith) turn.invariant.0 refl c.next_of-next.ensures refl is,
      subst (λ z. nat_abs z ≤ 2 ^ 31 * (turn.k + 1)) (sym is) (sum-size (to_z w64 turn.acc-bits) c.step-acc.result _ c.step-acc.ensures (step-size (decode s.args.room.now s.args.words.now s.args.reals.now) s.args.axis _ _) turn.k (omega arith) turn.invariant.1),
    )

pub returns : goal.returns
returns c = let s = c in sum_done s.args.fins.now (step_at (decode s.args.room.now s.args.words.now s.args.reals.now) s.args.axis) c.loop-k.k _ (omega arith) c.loop-k.invariant.0
