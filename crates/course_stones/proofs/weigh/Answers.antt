-- `course_stones::weigh` meets its contract. Assumes nothing.
use Rattle.std.proofs.Common.{◌≡◌, arith}
use Rattle.course_stones.specs.Weighing.{none-weighed, one-weighed, zeros-still}
use Rattle.course_stones.proofs.weigh.Goals as goal

pub loop-b-init : goal.loop-b-init
loop-b-init c = none-weighed _ _ _ _ _ _ _ _ _ _

pub weigh_one-requires : goal.weigh_one-requires
weigh_one-requires c =
    let s = c in
    let h = s.requires.n_bound in
    record { b_bound = omega arith; faces_value = zeros-still _ _ c.loop-b.invariant.marks s.requires.faces_value }

pub loop-b-preserved : goal.loop-b-preserved
loop-b-preserved c =
    let e = c.weigh_one.ensures in
    one-weighed _ _ _ _ _ _ _ _ _ _ _ _ _ _ _ c.loop-b.invariant (omega arith) _ c.listed.ensures _ _ _ _ e.faces e.numbers e.above e.below

pub returns : goal.returns
returns c =
    let i = c.loop-b.invariant in
    let done : c.loop-b.b ≡ c.args.n = omega (arith, i.few) in
    rw (← done) record { numbers = i.numbers; above = i.above; below = i.below; faces = i.marks }
