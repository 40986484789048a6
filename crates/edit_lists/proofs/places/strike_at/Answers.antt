-- `edit_lists::places::strike_at` meets its contract: a turn of the loop moves one entry. Assumes nothing.
use Rattle.std.specs.Prelude.{ℕ, ◌+◌, ◌-◌, ◌≡◌, List, set}
use Rattle.std.proofs.Common.{ap, ◌∙◌, arith}
use Rattle.memory_layout.specs.Layout.{word}
use Rattle.edit_lists.specs.PlaceLaws.{moved, strike-none, strike-turn}
use Rattle.edit_lists.proofs.PlaceLaws.{strike-end}
use Rattle.edit_lists.proofs.places.strike_at.Goals as goal

pub overflow_cast-behind : goal.overflow_cast-behind
overflow_cast-behind c = omega (arith, c.type_inv.w c.args.at)

pub loop-m-init : goal.loop-m-init
loop-m-init c = strike-none c.args.w.now c.args.at c.requires.0 c.args.place c.requires.1

pub loop-m-preserved : goal.loop-m-preserved
loop-m-preserved c =
    let s = c in
    let m = c.loop-m.m in
    let t = s.args.at + 1 + s.args.place in
    ap (λ (l : List ℕ). set l (t + m) (word l (t + 1 + m))) c.loop-m.invariant
    ∙ strike-turn s.args.w.now s.args.at s.requires.0 s.args.place s.requires.1 m (omega arith)

pub returns : goal.returns
returns c =
    let s = c in
    let n = word s.args.w.now s.args.at in
    let done : c.loop-m.m ≡ n - 1 - s.args.place = omega arith in
    ap (λ l. set l s.args.at (n - 1)) (c.loop-m.invariant ∙ ap (moved s.args.w.now s.args.at s.args.place) done)
    ∙ strike-end s.args.w.now s.args.at s.requires.0 s.args.place s.requires.1
