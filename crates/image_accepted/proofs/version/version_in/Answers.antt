-- `image_accepted::version::version_in` meets its contract. Assumes nothing.
use mathlib.Core.Path.{sym, ap, ◌∙◌}
use native.Mathlib.Omega.{arith}
use Rattle.memory_layout.specs.Laid.{version_tag}
use Rattle.image_laws.specs.Machines.{below_all}
use Rattle.image_accepted.specs.Version.{too_short, marked, unmarked}
use Rattle.image_accepted.proofs.version.version_in.Goals as goal

pub returns-then-bytes-lt2 : goal.returns-then-bytes-lt2
returns-then-bytes-lt2 c =
    let b = c.args.bytes.now in
    sym (ap version_tag (too_short b (below_all 256 b (λ i. omega (arith, c.type_inv.bytes i))) c.if-bytes-lt2.true))

pub returns-then-mark_in-eq-VERSION_MARK : goal.returns-then-mark_in-eq-VERSION_MARK
returns-then-mark_in-eq-VERSION_MARK c = sym (ap version_tag (marked c.args.bytes.now (sym c.mark_in.ensures ∙ c.if-mark_in-eq-VERSION_MARK.true)))

pub returns : goal.returns
returns c = sym (ap version_tag (unmarked c.args.bytes.now (λ e. c.if-mark_in-eq-VERSION_MARK.false (c.mark_in.ensures ∙ e))))
