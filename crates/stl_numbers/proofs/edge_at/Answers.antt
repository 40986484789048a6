-- `stl_numbers::edge_at` meets its contract. Assumes nothing.
use native.Mathlib.Omega.{arith}
use mathlib.Core.Path.{ap, ◌∙◌}
use lib.ListN.{get_or}
use Rattle.stl_body.specs.Read.{step, edge_of}
use Rattle.stl_numbers.proofs.edge_at.Goals as goal

pub offset_bounds-numbers-k : goal.offset_bounds-numbers-k
offset_bounds-numbers-k c = omega arith

pub bounds-numbers-k : goal.bounds-numbers-k
bounds-numbers-k c = omega arith

pub offset_bounds-numbers-next : goal.offset_bounds-numbers-next
offset_bounds-numbers-next c = omega arith

pub bounds-numbers-next : goal.bounds-numbers-next
bounds-numbers-next c = omega arith

pub returns : goal.returns
returns c =
    let s = c.args in
    c.rising.ensures ∙ ap (λ i. edge_of (step (get_or s.numbers.now s.k 0) (get_or s.numbers.now i 0))) c.after-next.ensures
