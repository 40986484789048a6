-- `image_record_test::list_end` meets its contract: each way out is the first test that fails. Assumes nothing.
use Prim.Native.Nat.{ℕ, suc, ◌+◌, ◌*◌}
use mathlib.Core.Path.{◌≡◌, refl, ◌∙◌}
use native.Mathlib.Omega.{arith}
use lib.ListN.{drop}
use Rattle.image_format.specs.Bytes.{number}
use Rattle.image_record_test.specs.Parts.{list_end}
use Rattle.image_record_test.specs.Facts.{list-long, list-short, list-there}
use borrow.Author.Rules.{rules}
use Rattle.image_record_test.proofs.list_end.Goals as goal

pub returns-then-at-eq0 : goal.returns-then-at-eq0
unfolding list_end
returns-then-at-eq0 c = record { value = rw c.if-at-eq0.true; upper_bound = omega arith }

pub returns-then-left-lt4 : goal.returns-then-left-lt4
returns-then-left-lt4 c =
    let s = c in
    let n : ℕ = number 4 (drop s.args.at s.args.bytes.now) in
    record { value = list-short s.args.limit s.args.bytes.now s.args.at n (omega arith) refl (omega arith); upper_bound = omega arith }

pub returns-then-limit-n : goal.returns-then-limit-n
returns-then-limit-n c =
    let s = c in
    record { value = list-long s.args.limit s.args.bytes.now s.args.at c.word_in-n.result (omega arith) c.word_in-n.ensures c.if-limit-n.true; upper_bound = omega arith }

pub returns-then-left-size : goal.returns-then-left-size
returns-then-left-size c =
    let s = c in
    record { value = list-short s.args.limit s.args.bytes.now s.args.at c.word_in-n.result (omega arith) c.word_in-n.ensures (omega arith); upper_bound = omega arith }

pub returns : goal.returns
returns c =
    let s = c in
    let n : ℕ = c.word_in-n.result in
    let e : s.args.at + 4 * (n + 1) ≡ s.args.at + 4 * suc n = omega arith in
    record { value = e ∙ list-there s.args.limit s.args.bytes.now s.args.at n (omega arith) c.word_in-n.ensures (omega arith) (omega arith); upper_bound = omega arith }
