-- `float_grid::on_grid` meets its contract. Assumes nothing.
use Rattle.std.proofs.Common.{T, ℤ, sym, ap, ◌∙◌, subst, w64, SFits}
use lib.Ieee.{binary64, fits, of_bits, neg, mul, eq, of_int, in_float}
use mir.ValLaws.{to_z-of_z}
use borrow.Author.Tests.{not-true, not-false}
use Rattle.float_grid.specs.Laws.{Inside, inside, too-low, too-high, castable, countable, fitting, tested, sixteen}
use Rattle.float_grid.proofs.on_grid.Goals as goal
use Rattle.float_grid.proofs.on_grid.Goals.{Start}

-- what owning an `f64` tells: the format holds it
held : (c : Start) → T (fits binary64 c.args.x)
held c = subst T (sym c.well_formed.0.1) tt

pub returns-then-not-x : goal.returns-then-not-x
unfolding of_bits neg
returns-then-not-x c = too-low c.args.x (c.if-not-x.true)

pub returns-then-not-x-2 : goal.returns-then-not-x-2
unfolding of_bits neg
returns-then-not-x-2 c = too-high c.args.x (c.if-not-x-2.true)

pub truncating_f64_to_i64-n-requires : goal.truncating_f64_to_i64-n-requires
unfolding of_bits neg
truncating_f64_to_i64-n-requires c = let both = castable c.args.x (held c.before.before) (inside _ (c.if-not-x.false) (c.if-not-x-2.false)) in record { lower_bound = both.0; upper_bound = both.1 }

pub int_to_float-result : goal.int_to_float-result
unfolding of_bits neg
int_to_float-result c =
    let s = c.before.before.before.before in
    let i = inside s.args.x (c.if-not-x.false) (c.if-not-x-2.false) in
    let r = c.truncating_f64_to_i64-n.ensures in
    subst (λ (z : ℤ). T (in_float binary64 z)) (sym (to_z-of_z w64 _ (subst (SFits w64) (sym r) (fitting s.args.x (held s) i)) ∙ r)) (countable s.args.x (held s) i)

pub returns : goal.returns
unfolding of_bits neg
returns c =
    let s = c.before.before.before.before in
    let i = inside s.args.x (c.if-not-x.false) (c.if-not-x-2.false) in
    let r = c.truncating_f64_to_i64-n.ensures in
    ap (λ (z : ℤ). eq (of_int binary64 z) (mul binary64 s.args.x sixteen)) (to_z-of_z w64 _ (subst (SFits w64) (sym r) (fitting s.args.x (held s) i)) ∙ r) ∙ tested s.args.x (held s) i
