-- `image_accepted::head_good` meets its contract. Assumes nothing.
use mathlib.Core.Path.{◌≡◌}
use mathlib.Core.Bool.{true}
use lib.Dec.{leb}
use lib.ListN.{length}
use borrow.Author.Tests.{lt-leb, le-leb}
use Rattle.image_accepted.specs.Head.{head_good}
use Rattle.image_accepted.proofs.head_good.Goals as goal

pub returns-then-bytes-lt50 : goal.returns-then-bytes-lt50
unfolding head_good
returns-then-bytes-lt50 c = rw (lt-leb _ _ c.if-bytes-lt50.true)

pub returns : goal.returns
unfolding head_good
returns c =
    let e : leb 50 (length c.args.bytes.now) ≡ true = le-leb _ _ c.if-bytes-lt50.false in
    rw (e, c.mark_in.ensures, c.precision_ok.ensures, c.float_of.ensures, c.bits_in.ensures)
