-- `split_bounds::ends::carrier_refusal` meets its contract. Assumes nothing.
use native.Mathlib.Nat.{lt_of_lt_of_le}
use native.Mathlib.Omega.{arith}
use lib.Dec.{lit<}
use mathlib.Core.Path.{ap, ap₂, ◌∙◌}
use Rattle.geom_lines_planes.specs.Refuse.{◌then◌}
use Rattle.geom_carriers.specs.Queries.{line_refusal}
use Rattle.memory_layout.specs.Decode.{decode}
use Rattle.split_bounds.specs.Ends.{carrier_refusal}
use Rattle.memory_records.specs.Laws.{within, counts-there}
use Rattle.split_bounds.proofs.ends.carrier_refusal.Goals as goal

pub bounds-w-5 : goal.bounds-w-5
bounds-w-5 c = within 5 c.requires.w_len (lit< tt)

pub curve_found-requires : goal.curve_found-requires
curve_found-requires c = c.requires.sized

pub bounds-w-1 : goal.bounds-w-1
bounds-w-1 c = within 1 c.requires.w_len (lit< tt)

pub bounds-words-7 : goal.bounds-words-7
bounds-words-7 c = let s = c in let n = counts-there s.args.room.now s.args.words.now s.args.reals.now s.requires.sized in lt_of_lt_of_le (lit< tt) n

pub bounds-w-3 : goal.bounds-w-3
bounds-w-3 c = within 3 c.requires.w_len (lit< tt)

pub bounds-words-7-2 : goal.bounds-words-7-2
bounds-words-7-2 c = let s = c in let n = counts-there s.args.room.now s.args.words.now s.args.reals.now s.requires.sized in lt_of_lt_of_le (lit< tt) n

pub bounds-w-0 : goal.bounds-w-0
bounds-w-0 c = within 0 c.requires.w_len (lit< tt)

pub bounds-w-2 : goal.bounds-w-2
bounds-w-2 c = within 2 c.requires.w_len (lit< tt)

pub bounds-w-4 : goal.bounds-w-4
bounds-w-4 c = within 4 c.requires.w_len (lit< tt)

pub returns : goal.returns
unfolding carrier_refusal decode
returns c =
    let curve = c.curve_found.ensures in
    let line = c.line_refusal-line.ensures ∙ ap line_refusal curve in
    let points = c.then-points.ensures ∙ ap₂ ◌then◌ c.unless.ensures c.unless-2.ensures in
    let behind = c.then.ensures ∙ ap₂ ◌then◌ line points in
    c.then-3.ensures ∙ ap₂ ◌then◌ c.unless-ends.ensures (c.then-2.ensures ∙ ap₂ ◌then◌ c.unless-3.ensures behind)
