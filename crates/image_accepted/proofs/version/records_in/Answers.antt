-- `image_accepted::version::records_in` meets its contract. Assumes nothing.
use Prim.Native.Nat.{ℕ}
use mathlib.Core.Path.{ap, ◌∙◌}
use lib.ListN.{drop}
use Rattle.memory_layout.specs.TableRows.{rest}
use Rattle.image_format.specs.Image.{records_in}
use Rattle.image_accepted.proofs.version.records_in.Goals as goal

pub returns : goal.returns
unfolding records_in
returns c =
    let b = c.args.bytes.now in
    rest b c.records_at-at.result ∙ ap (λ (n : ℕ). drop n b) c.records_at-at.ensures
