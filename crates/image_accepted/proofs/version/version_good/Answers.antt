-- `image_accepted::version::version_good` meets its contract: each way out is the first test that fails. Assumes nothing.
use mathlib.Core.Path.{◌≡◌, sym, ◌∙◌}
use native.Mathlib.Omega.{arith}
use borrow.Author.Tests.{lt-leb, le-leb}
use Rattle.geom_lines_planes.specs.declared.tolerance.Version.TheVariants.{Second}
use Rattle.image_format.specs.Image.{version_in}
use Rattle.image_laws.specs.Machines.{below_all}
use Rattle.image_accepted.specs.Version.{first_of, second-of, first_good, second-good}
use Rattle.image_accepted.proofs.version.version_good.Goals as goal

pub returns-then-version_in-eq1 : goal.returns-then-version_in-eq1
returns-then-version_in-eq1 c =
    let b = c.args.bytes.now in
    sym (first_good b (first_of (version_in b) (sym c.version_in.ensures ∙ c.if-version_in-eq1.true)))

pub returns-then-bytes-lt-VERSION_LENGTH : goal.returns-then-bytes-lt-VERSION_LENGTH
returns-then-bytes-lt-VERSION_LENGTH c =
    let b = c.args.bytes.now in
    let v : version_in b ≡ Second = second-of (version_in b) (λ e. c.if-version_in-eq1.false (c.version_in.ensures ∙ e)) in
    sym (second-good b (below_all 256 b (λ i. omega (arith, c.type_inv.bytes i))) v ∙ rw (lt-leb _ _ c.if-bytes-lt-VERSION_LENGTH.true))

pub returns : goal.returns
returns c =
    let b = c.args.bytes.now in
    let v : version_in b ≡ Second = second-of (version_in b) (λ e. c.if-version_in-eq1.false (c.version_in.ensures ∙ e)) in
    sym (second-good b (below_all 256 b (λ i. omega (arith, c.type_inv.bytes i))) v ∙ rw (le-leb _ _ c.if-bytes-lt-VERSION_LENGTH.false, ← c.word_in.ensures))
