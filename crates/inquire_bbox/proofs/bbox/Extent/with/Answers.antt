-- `bbox::Extent::with` meets its contract: one point more. Assumes nothing.
use mathlib.Core.Path.{ap}
use mathlib.Core.Bool.{Bool, ◌&&◌}
use Rattle.inquire_bbox.specs.Laws.{extent-more}
use borrow.Author.Rules.{rules}
use Rattle.inquire_bbox.proofs.bbox.Extent.with.Goals as goal

pub returns : goal.returns
returns c = λ l e.
    let s = c in
    extent-more s.args.self s.args.p l _ _ (ap (λ (b : Bool). s.args.self.finite && b) c.is_finite.ensures) c.grown.ensures e
