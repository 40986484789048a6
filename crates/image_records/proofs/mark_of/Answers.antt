-- `image_records::mark_of` meets its contract. Assumes nothing.
use native.Mathlib.Omega.{arith}
use mathlib.Core.Path.{◌≡◌, ap, ◌∙◌}
use lib.ListN.{length}
use borrow.Author.Tests.{ne_eqb}
use Rattle.memory_layout.specs.Layout.{word, word_strides}
use Rattle.image_records.specs.Kept.{office_here}
use Rattle.image_records.proofs.mark_of.Goals as goal

pub body_mark-requires : goal.body_mark-requires
body_mark-requires c =
    let s = c in
    let l : length s.args.w.now ≡ 19 = s.requires.words ∙ ap (word word_strides) c.if-k-eq-BODIES.true in
    omega arith

pub returns-then-k-eq-BODIES : goal.returns-then-k-eq-BODIES
unfolding office_here
returns-then-k-eq-BODIES c = rw c.if-k-eq-BODIES.true c.body_mark.ensures

pub returns : goal.returns
unfolding office_here
returns c = let s = c in rw (ne_eqb s.args.k 0 c.if-k-eq-BODIES.false)
