-- `float_order::down_bits` meets its contract: each arm returns what `down_bits` picks where its tests are as the arm found them. Assumes nothing.
use borrow.Author.Rules.{rules}
use borrow.Author.Tests.{ne_eqb, lt-ltb, le-ltb}
use Rattle.float_order.specs.Next.{NEGINF, TOP}
use Rattle.float_order.proofs.down_bits.Goals as goal

pub returns-then-b-eq18442240474082181120 : goal.returns-then-b-eq18442240474082181120
returns-then-b-eq18442240474082181120 c = rw c.if-b-eq18442240474082181120.true

pub returns-then-b-eq0 : goal.returns-then-b-eq0
returns-then-b-eq0 c = rw c.if-b-eq0.true

pub returns-then-b-lt9223372036854775808 : goal.returns-then-b-lt9223372036854775808
returns-then-b-lt9223372036854775808 c =
    let b = c.args.b in
    rw (ne_eqb b NEGINF c.if-b-eq18442240474082181120.false, ne_eqb b 0 c.if-b-eq0.false, lt-ltb b TOP c.if-b-lt9223372036854775808.true)

pub returns-else-b-lt9223372036854775808 : goal.returns-else-b-lt9223372036854775808
returns-else-b-lt9223372036854775808 c =
    let b = c.args.b in
    rw (ne_eqb b NEGINF c.if-b-eq18442240474082181120.false, ne_eqb b 0 c.if-b-eq0.false, le-ltb b TOP c.if-b-lt9223372036854775808.false)
