-- `image_accepted::records_good` meets its contract: each way out is the first test that fails. Assumes nothing.
use mathlib.Core.Path.{◌≡◌, sym, ◌∙◌}
use mathlib.Core.Bool.{true, false}
use native.Mathlib.Omega.{arith}
use Rattle.meaning_list_laws.specs.Tests.{and-false}
use Rattle.image_laws.specs.Machines.{below_all}
use Rattle.image_accepted.specs.Head.{head_good}
use Rattle.image_accepted.specs.Whole.{counts_good, image_good, head-room, image-good}
use Rattle.image_accepted.proofs.records_good.Goals as goal

pub returns-then-not-head_good : goal.returns-then-not-head_good
unfolding image_good
returns-then-not-head_good c =
    let s = c in
    let image = image-good s.args.bytes.now (below_all 256 s.args.bytes.now (λ i. omega (arith, c.type_inv.bytes i))) in
    let a : head_good s.args.bytes.now ≡ false = sym c.head_good.ensures ∙ c.if-not-head_good.true in
    sym (image ∙ rw a)

pub counts_good-requires : goal.counts_good-requires
counts_good-requires c = head-room _ (sym c.head_good.ensures ∙ c.if-not-head_good.false)

pub returns-then-not-counts_good : goal.returns-then-not-counts_good
unfolding image_good
returns-then-not-counts_good c =
    let s = c in
    let image = image-good s.args.bytes.now (below_all 256 s.args.bytes.now (λ i. omega (arith, c.type_inv.bytes i))) in
    let a : counts_good s.args.bytes.now ≡ false = sym c.counts_good.ensures ∙ c.if-not-counts_good.true in
    sym (image ∙ rw (a, and-false (head_good s.args.bytes.now)))

pub tables_end-requires : goal.tables_end-requires
tables_end-requires c = head-room _ (sym c.head_good.ensures ∙ c.if-not-head_good.false)

pub returns : goal.returns
unfolding image_good
returns c =
    let s = c in
    let image = image-good s.args.bytes.now (below_all 256 s.args.bytes.now (λ i. omega (arith, c.type_inv.bytes i))) in
    let a : head_good s.args.bytes.now ≡ true = sym c.head_good.ensures ∙ c.if-not-head_good.false in
    let d : counts_good s.args.bytes.now ≡ true = sym c.counts_good.ensures ∙ c.if-not-counts_good.false in
    sym (image ∙ rw (a, d, ← c.tables_end.ensures))
