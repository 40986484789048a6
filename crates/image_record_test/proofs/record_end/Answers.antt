-- `image_record_test::record_end` meets its contract: each way out is the first test that fails. Assumes nothing.
use Prim.Native.Nat.{ℕ, ◌+◌}
use mathlib.Core.Path.{sym, ap, ◌∙◌}
use mathlib.Core.List.{[]}
use native.Mathlib.Omega.{arith}
use lib.ListN.{get_or, length-drop}
use borrow.Author.Tests.{not-true, not-false}
use Rattle.memory_layout.specs.TableRows.{rest}
use Rattle.image_format.specs.Fields.{list_limits_of}
use Rattle.image_record_test.specs.Good.{record_end}
use Rattle.image_record_test.specs.Parts.{fixed_good, lists_end}
use Rattle.image_laws.specs.Machines.{below_all}
use Rattle.image_record_test.specs.Facts.{its-size, record-short, record-bad, record-there}
use borrow.Author.Rules.{rules}
use Rattle.image_record_test.proofs.record_end.Goals as goal

pub returns-then-at-eq0 : goal.returns-then-at-eq0
unfolding record_end
returns-then-at-eq0 c = rw c.if-at-eq0.true

pub returns-then-bytes-at : goal.returns-then-bytes-at
returns-then-bytes-at c =
    let s = c in
    let h = s.requires.k_bound in
    let bytes = below_all 256 s.args.bytes.now (λ i. omega (arith, c.type_inv.bytes i)) in
    let size = its-size s.args.k h in
    record-short s.args.k h s.args.bytes.now bytes s.args.at (omega arith) s.requires.at_in_bounds (rw size at c.if-bytes-at.true)

pub fixed_good-requires : goal.fixed_good-requires
fixed_good-requires c =
    let s = c in
    let size = its-size s.args.k s.requires.k_bound in
    let left = length-drop s.args.at s.args.bytes.now in
    record { k_bound = s.requires.k_bound; k_in_bounds = rw (rest s.args.bytes.now s.args.at) (omega arith) }

pub returns-then-not-fixed_good : goal.returns-then-not-fixed_good
returns-then-not-fixed_good c =
    let s = c in
    let h = s.requires.k_bound in
    let bytes = below_all 256 s.args.bytes.now (λ i. omega (arith, c.type_inv.bytes i)) in
    let size = its-size s.args.k h in
    let e = c.fixed_good.ensures in
    record-bad s.args.k h s.args.bytes.now bytes s.args.at (omega arith) s.requires.at_in_bounds
    (ap (fixed_good s.args.k) (sym (rest s.args.bytes.now s.args.at)) ∙ sym e ∙ c.if-not-fixed_good.true)

pub returns : goal.returns
returns c =
    let s = c in
    let h = s.requires.k_bound in
    let bytes = below_all 256 s.args.bytes.now (λ i. omega (arith, c.type_inv.bytes i)) in
    let size = its-size s.args.k h in
    let e = c.fixed_good.ensures in
    c.lists_end.ensures
    ∙ ap (λ (n : ℕ). lists_end (get_or list_limits_of s.args.k []) s.args.bytes.now (s.args.at + n)) size
    ∙ record-there s.args.k h s.args.bytes.now bytes s.args.at (omega arith) s.requires.at_in_bounds (rw size at c.if-bytes-at.false)
    (ap (fixed_good s.args.k) (sym (rest s.args.bytes.now s.args.at)) ∙ sym e ∙ c.if-not-fixed_good.false)
