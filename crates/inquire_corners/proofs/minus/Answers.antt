-- `inquire_corners::minus` meets its contract. Assumes nothing.
use Rattle.meaning_sheets.specs.Sheets.{minus_c}
use Rattle.inquire_corners.specs.Machines.{arm-fits, arm_is, made}
use Rattle.inquire_corners.proofs.minus.Goals as goal

pub overflow_sub-result : goal.overflow_sub-result
overflow_sub-result c = let s = c in arm-fits s.args.p.x s.args.q.x s.requires.0.x s.requires.1.x

pub overflow_sub-result-2 : goal.overflow_sub-result-2
overflow_sub-result-2 c = let s = c in arm-fits s.args.p.y s.args.q.y s.requires.0.y s.requires.1.y

pub overflow_sub-result-3 : goal.overflow_sub-result-3
overflow_sub-result-3 c = let s = c in arm-fits s.args.p.z s.args.q.z s.requires.0.z s.requires.1.z

pub returns : goal.returns
unfolding minus_c
returns c =
    let s = c in
    made _ _ _ _ _ _ (arm_is s.args.p.x s.args.q.x s.requires.0.x s.requires.1.x) (arm_is s.args.p.y s.args.q.y s.requires.0.y s.requires.1.y) (arm_is s.args.p.z s.args.q.z s.requires.0.z s.requires.1.z)
