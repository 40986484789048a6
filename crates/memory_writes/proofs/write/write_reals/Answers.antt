-- `memory_writes::write::write_reals` meets its contract: a turn of the loop is a step of a copy. Assumes nothing.
use Rattle.std.specs.Prelude.{◌≡◌, ◌+◌, ◌++◌, length, get_or, suc}
use Rattle.std.specs.Float.{nan}
use Rattle.std.proofs.Common.{drop, set, ap, ◌∙◌, arith, add-one, subst, zero-add, append-nil, drop_of_length-le}
use Rattle.std.proofs.Math.Seq.{paste, paste-zero, paste-suc, take-length}
use Rattle.memory_writes.proofs.write.write_reals.Goals as goal

pub loop-j-init : goal.loop-j-init
loop-j-init c = paste-zero c.args.x.now 0 c.args.a.now

pub loop-j-preserved : goal.loop-j-preserved
loop-j-preserved c =
    let s = c.args in
    let j = c.loop-j.j in
    rw add-one
    (ap (λ l. set l j (get_or s.a.now j nan)) c.loop-j.invariant
    ∙ subst (λ n. set (paste s.x.now 0 s.a.now j) n (get_or s.a.now j nan) ≡ paste s.x.now 0 s.a.now (suc j)) (zero-add j)
    (paste-suc s.x.now 0 s.a.now j nan (omega arith) (omega arith)))

pub returns : goal.returns
returns c =
    let s = c in
    let done : c.loop-j.j ≡ length s.args.a.now = omega arith in
    c.loop-j.invariant
    ∙ ap (λ n. paste s.args.x.now 0 s.args.a.now n) done
    ∙ ap (λ l. l ++ drop (0 + length s.args.a.now) s.args.x.now) (take-length s.args.a.now)
    ∙ ap (λ l. s.args.a.now ++ l) (drop_of_length-le s.args.x.now {i = 0 + length s.args.a.now} (omega arith))
    ∙ append-nil s.args.a.now
