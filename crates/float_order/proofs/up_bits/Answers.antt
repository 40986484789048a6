-- `float_order::up_bits` meets its contract: each arm returns what `up_bits` picks where its tests are as the arm found them. Assumes nothing.
use borrow.Author.Rules.{rules}
use borrow.Author.Tests.{ne_eqb, lt-ltb, le-ltb}
use Rattle.float_order.specs.Next.{INF, TOP}
use Rattle.float_order.proofs.up_bits.Goals as goal

pub returns-then-b-eq9218868437227405312 : goal.returns-then-b-eq9218868437227405312
returns-then-b-eq9218868437227405312 c = rw c.if-b-eq9218868437227405312.true

pub returns-then-b-eq0 : goal.returns-then-b-eq0
returns-then-b-eq0 c = rw c.if-b-eq0.true

pub returns-then-b-lt9223372036854775808 : goal.returns-then-b-lt9223372036854775808
returns-then-b-lt9223372036854775808 c =
    let b = c.args.b in
    rw (ne_eqb b INF c.if-b-eq9218868437227405312.false, ne_eqb b 0 c.if-b-eq0.false, lt-ltb b TOP c.if-b-lt9223372036854775808.true)

pub returns-then-b-eq9223372036854775808 : goal.returns-then-b-eq9223372036854775808
returns-then-b-eq9223372036854775808 c = rw c.if-b-eq9223372036854775808.true

pub returns-else-b-eq9223372036854775808 : goal.returns-else-b-eq9223372036854775808
returns-else-b-eq9223372036854775808 c =
    let b = c.args.b in
    rw (ne_eqb b INF c.if-b-eq9218868437227405312.false, ne_eqb b 0 c.if-b-eq0.false, le-ltb b TOP c.if-b-lt9223372036854775808.false, ne_eqb b TOP c.if-b-eq9223372036854775808.false)
