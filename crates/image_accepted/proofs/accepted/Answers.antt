-- `image_accepted::accepted` meets its contract: the version's record, then the rest. Assumes nothing.
use mathlib.Core.Path.{◌≡◌, sym, ◌∙◌}
use mathlib.Core.Bool.{true, false}
use Rattle.image_accepted.specs.Version.{version_good, accepted-parts, good-room}
use Rattle.image_accepted.proofs.accepted.Goals as goal

pub returns-then-not-version_good : goal.returns-then-not-version_good
returns-then-not-version_good c =
    let b = c.args.bytes.now in
    let v : version_good b ≡ false = sym c.version_good.ensures ∙ c.if-not-version_good.true in
    sym (accepted-parts b ∙ rw v)

pub records_in-requires : goal.records_in-requires
records_in-requires c = good-room _ (sym c.version_good.ensures ∙ c.if-not-version_good.false)

pub returns : goal.returns
returns c =
    let b = c.args.bytes.now in
    let v : version_good b ≡ true = sym c.version_good.ensures ∙ c.if-not-version_good.false in
    sym (accepted-parts b ∙ rw (v, ← c.records_in.ensures) (sym c.records_good.ensures))
