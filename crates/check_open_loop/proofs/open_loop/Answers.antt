-- `check_open_loop::open_loop` meets its contract: a turn of the loop is one fin more. Assumes nothing.
use Rattle.std.proofs.Common.{◌≤◌, ◌<◌, length, get_or, take, arith, sym, ap, ◌∙◌, take_all}
use Rattle.meaning.specs.Lists.{rotated}
use Rattle.meaning.specs.Faults.{open_at, opens}
use Rattle.memory_layout.specs.Decode.{decode}
use Rattle.check_reasons.specs.Laws.{enough-same, noted-none, noted-same}
use Rattle.check_open_loop.specs.Laws.{rotated-length, opens-turn, opens-enough}
use Rattle.check_open_loop.proofs.open_loop.Goals as goal

pub loop-k-init : goal.loop-k-init
unfolding opens
loop-k-init c = noted-none _ _

pub open_at-tally-requires : goal.open_at-tally-requires
open_at-tally-requires c = let h : c.loop-k.k < length c.args.fins.now = omega arith in let g : c.loop-k.k < length (rotated c.args.fins.now) = omega (arith, rotated-length c.args.fins.now) in record { fit = c.requires.fit; enough = enough-same (ap (open_at (decode c.args.room.now c.args.words.now c.args.reals.now) (get_or c.args.fins.now c.loop-k.k 0)) (sym c.next_of-next.ensures)) (opens-enough (decode c.args.room.now c.args.words.now c.args.reals.now) c.args.fins.now (rotated c.args.fins.now) c.loop-k.k h g c.requires.enough c.loop-k.invariant) }

pub loop-k-preserved : goal.loop-k-preserved
loop-k-preserved c = let h : c.loop-k.k < length c.args.fins.now = omega arith in let g : c.loop-k.k < length (rotated c.args.fins.now) = omega (arith, rotated-length c.args.fins.now) in opens-turn (decode c.args.room.now c.args.words.now c.args.reals.now) c.args.fins.now (rotated c.args.fins.now) c.loop-k.k h g c.loop-k.invariant (noted-same (sym (ap (open_at (decode c.args.room.now c.args.words.now c.args.reals.now) (get_or c.args.fins.now c.loop-k.k 0)) (sym c.next_of-next.ensures))) c.open_at-tally.ensures)

pub returns : goal.returns
returns c = let h : length c.args.fins.now ≤ c.loop-k.k = omega arith in let g : length (rotated c.args.fins.now) ≤ c.loop-k.k = omega (arith, rotated-length c.args.fins.now) in noted-same (ap (λ l. opens (decode c.args.room.now c.args.words.now c.args.reals.now) l (take c.loop-k.k (rotated c.args.fins.now))) (take_all c.loop-k.k c.args.fins.now h) ∙ ap (opens (decode c.args.room.now c.args.words.now c.args.reals.now) c.args.fins.now) (take_all c.loop-k.k (rotated c.args.fins.now) g)) c.loop-k.invariant
