-- `memory_writes::write::write_words` meets its contract: a turn of the loop is a step of a copy. Assumes nothing.
use Rattle.std.specs.Prelude.{◌≡◌, ◌+◌, ◌++◌, length, get_or}
use Rattle.std.proofs.Common.{take, drop, set, ap, ◌∙◌, arith, add-one}
use Rattle.std.proofs.Math.Seq.{paste, paste-zero, paste-suc, take-length}
use Rattle.memory_writes.specs.Put.{over}
use Rattle.memory_writes.proofs.write.write_words.Goals as goal

pub loop-j-init : goal.loop-j-init
loop-j-init c = paste-zero c.args.w.now c.args.at c.args.a.now

pub loop-j-preserved : goal.loop-j-preserved
loop-j-preserved c =
    let s = c.args in
    rw add-one
    (ap (λ l. set l (s.at + c.loop-j.j) (get_or s.a.now c.loop-j.j 0)) c.loop-j.invariant
    ∙ paste-suc s.w.now s.at s.a.now c.loop-j.j 0 (omega arith) (omega arith))

pub returns : goal.returns
unfolding over
returns c =
    let s = c in
    let done : c.loop-j.j ≡ length s.args.a.now = omega arith in
    c.loop-j.invariant
    ∙ ap (λ n. paste s.args.w.now s.args.at s.args.a.now n) done
    ∙ ap (λ l. take s.args.at s.args.w.now ++ l ++ drop (s.args.at + length s.args.a.now) s.args.w.now) (take-length s.args.a.now)
