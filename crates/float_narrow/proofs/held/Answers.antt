-- `float_narrow::held` meets its contract. Assumes nothing.
use Prim.Native.Nat.{ℕ, ◌+◌, ◌-◌, ◌/◌, ◌%◌, ◌<◌}
use native.Mathlib.Omega.{arith}
use mathlib.Core.Path.{sym, ap, subst}
use lib.Dec.{eqb}
use lib.Pow.{pow_pos}
use borrow.Author.Rules.{rules}
use borrow.Author.Tests.{lt-ltb, le-ltb}
use Rattle.float_narrow.specs.Digits.{held}
use Rattle.float_narrow.specs.Laws.{shifted}
use Rattle.float_narrow.proofs.held.Goals as goal

pub returns-then-field-lt874 : goal.returns-then-field-lt874
unfolding held
returns-then-field-lt874 c = rw (lt-ltb (c.args.a / 0x10000000000000) 874 c.if-field-lt874.true)

pub nonzero_rem-result : goal.nonzero_rem-result
nonzero_rem-result c = subst (λ (n : ℕ). 0 < n) (shifted (c.args.a / 0x10000000000000) c.if-field-lt874.false) (pow_pos (926 - c.args.a / 0x10000000000000))

pub returns-then-field-lt897 : goal.returns-then-field-lt897
unfolding held
returns-then-field-lt897 c =
    let a = c.args.a in
    rw (le-ltb (a / 0x10000000000000) 874 c.if-field-lt874.false, lt-ltb (a / 0x10000000000000) 897 c.if-field-lt897.true) (ap (λ (n : ℕ). eqb ((0x10000000000000 + a % 0x10000000000000) % n) 0) (sym (shifted (a / 0x10000000000000) c.if-field-lt874.false)))

pub returns : goal.returns
unfolding held
returns c = rw (le-ltb (c.args.a / 0x10000000000000) 874 c.if-field-lt874.false, le-ltb (c.args.a / 0x10000000000000) 897 c.if-field-lt897.false)
