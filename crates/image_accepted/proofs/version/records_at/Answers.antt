-- `image_accepted::version::records_at` meets its contract. Assumes nothing.
use mathlib.Core.Path.{◌≡◌, sym, ◌∙◌}
use Rattle.geom_lines_planes.specs.declared.tolerance.Version.TheVariants.{First, Second}
use Rattle.image_format.specs.Image.{version_in}
use Rattle.image_accepted.specs.Version.{first_of, second-of, first-long, second-long}
use Rattle.image_accepted.proofs.version.records_at.Goals as goal

pub returns-then-version_in-eq1 : goal.returns-then-version_in-eq1
returns-then-version_in-eq1 c =
    let b = c.args.bytes.now in
    let v : version_in b ≡ First = first_of (version_in b) (sym c.version_in.ensures ∙ c.if-version_in-eq1.true) in
    rw v (sym first-long)

pub returns : goal.returns
returns c =
    let b = c.args.bytes.now in
    let v : version_in b ≡ Second = second-of (version_in b) (λ e. c.if-version_in-eq1.false (c.version_in.ensures ∙ e)) in
    rw v (sym second-long)
