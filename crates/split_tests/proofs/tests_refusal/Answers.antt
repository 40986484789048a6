-- `split_tests::tests_refusal` meets its contract. Assumes nothing.
use mathlib.Core.Path.{sym, ◌∙◌}
use Rattle.split_segment.specs.Laws.{refuses}
use Rattle.split_place.specs.Laws.{split_rows}
use Rattle.split_tests.proofs.tests_refusal.Goals as goal

pub edge_refusal-n-requires : goal.edge_refusal-n-requires
edge_refusal-n-requires c = c.requires

pub returns-then-n-ne0 : goal.returns-then-n-ne0
returns-then-n-ne0 c =
    rw (← split_rows, ← c.edge_refusal-n.ensures) (refuses _ _ c.if-n-ne0.true)

pub place_refusal-n-requires : goal.place_refusal-n-requires
place_refusal-n-requires c = record { fit = c.requires; fraction_value = sym c.edge_refusal-n.ensures ∙ c.if-n-ne0.false }

pub returns-then-n-ne0-2 : goal.returns-then-n-ne0-2
returns-then-n-ne0-2 c =
    rw (← split_rows, ← c.edge_refusal-n.ensures, c.if-n-ne0.false, ← c.place_refusal-n.ensures) (refuses _ _ c.if-n-ne0-2.true)

pub room_refusal-requires : goal.room_refusal-requires
room_refusal-requires c = record { fit = c.requires; fraction_value = sym c.edge_refusal-n.ensures ∙ c.if-n-ne0.false; fraction_value_2 = sym c.place_refusal-n.ensures ∙ c.if-n-ne0-2.false }

pub returns : goal.returns
returns c =
    rw (← split_rows, ← c.edge_refusal-n.ensures, c.if-n-ne0.false, ← c.place_refusal-n.ensures, c.if-n-ne0-2.false) c.room_refusal.ensures
