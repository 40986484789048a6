-- `check_ends::ring` meets its contract: by its test. Assumes nothing.
use mathlib.Core.Path.{sym, ◌∙◌}
use Rattle.check_reasons.specs.Laws.{enough-same, noted-none, noted-same, only-true, only-false}
use Rattle.check_ends.specs.Ends.{ref_of}
use Rattle.check_ends.specs.Laws.{ring-told}
use borrow.Author.Rules.{rules}
use Rattle.check_ends.proofs.ring.Goals as goal

pub skip-requires : goal.skip-requires
skip-requires c = enough-same (only-true _ _ ((sym (ring-told c.args.curve c.args.surface (ref_of c.args.edge.start) (ref_of c.args.edge.end) _ _ _ _ c.is_none.ensures c.is_none-2.ensures c.no_line.ensures c.no_plane.ensures)) ∙ c.if-other.true)) c.requires

pub returns-then-other : goal.returns-then-other
returns-then-other c = λ d. noted-same (sym (only-true _ _ ((sym (ring-told c.args.curve c.args.surface (ref_of c.args.edge.start) (ref_of c.args.edge.end) _ _ _ _ c.is_none.ensures c.is_none-2.ensures c.no_line.ensures c.no_plane.ensures)) ∙ c.if-other.true))) (c.skip.ensures d)

pub returns : goal.returns
returns c = λ d. noted-same (sym (only-false _ _ ((sym (ring-told c.args.curve c.args.surface (ref_of c.args.edge.start) (ref_of c.args.edge.end) _ _ _ _ c.is_none.ensures c.is_none-2.ensures c.no_line.ensures c.no_plane.ensures)) ∙ c.if-other.false))) (noted-none d _)
