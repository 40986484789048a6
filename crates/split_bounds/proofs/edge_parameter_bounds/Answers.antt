-- `split_bounds::edge_parameter_bounds` meets its contract. Assumes nothing.
use mathlib.Core.Path.{sym, ◌∙◌}
use Rattle.meaning.specs.Split.{lo, hi}
use Rattle.split_bounds.specs.declared.Bounds.TheVariants.{Is, Refused}
use Rattle.split_segment.specs.Segment.{segment_at, low, high}
use Rattle.split_bounds.specs.Answers.{bounds_answer}
use Rattle.split_bounds.specs.Laws.{opened}
use Rattle.meaning_list_laws.specs.Tests.{refused-answer}
use borrow.Author.Rules.{rules}
use Rattle.split_bounds.proofs.edge_parameter_bounds.Goals as goal

pub returns-then-n-ne0 : goal.returns-then-n-ne0
unfolding bounds_answer
returns-then-n-ne0 c =
    rw (← c.refusal-n.ensures) (refused-answer Is Refused _ _ c.if-n-ne0.true)

pub segment_at-segment-requires : goal.segment_at-segment-requires
segment_at-segment-requires c =
    let s = c in
    let both = opened s.args.room.now s.args.words.now s.args.reals.now s.args.edge (sym c.refusal-n.ensures ∙ c.if-n-ne0.false) in record { fit = both.0; edge_value = both.1 }

pub returns : goal.returns
unfolding bounds_answer lo hi segment_at low high
returns c =
    rw (← c.refusal-n.ensures, c.if-n-ne0.false, c.hi.ensures, c.lo.ensures, c.segment_at-segment.ensures)
