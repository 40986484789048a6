-- `image_accepted::records_end` meets its contract. Assumes nothing.
use Rattle.std.proofs.Common.{arith, refl}
use Rattle.image_laws.specs.Machines.{below_all}
use Rattle.image_accepted.specs.Ends.{records_end}
use Rattle.image_accepted.specs.Turns.{end-inside, records-turn}
use Rattle.image_accepted.proofs.records_end.Goals as goal

pub loop-init : goal.loop-init
unfolding records_end
loop-init c = (refl, omega arith)

pub loop-preserved : goal.loop-preserved
loop-preserved c =
    let s = c in
    let l = c.loop in
    let bytes = below_all 256 s.args.bytes.now (λ i. omega (arith, c.type_inv.bytes i)) in
    let e = c.record_end-end.ensures in (
      records-turn s.args.k s.args.bytes.now l.counter s.args.at c.record_end-end.result l.end l.invariant.0 e,
      rw e (end-inside s.args.k s.requires.k_bound s.args.bytes.now bytes l.end l.invariant.1),
    )
