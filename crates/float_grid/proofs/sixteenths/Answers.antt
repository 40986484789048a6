-- `float_grid::sixteenths` meets its contract. Assumes nothing.
use Rattle.std.proofs.Common.{T, sym, ◌∙◌, subst, w64, SFits}
use lib.Ieee.{binary64, fits, of_bits}
use mir.ValLaws.{to_z-of_z}
use Rattle.float_grid.specs.Laws.{inside-grid, castable, fitting, read}
use Rattle.float_grid.proofs.sixteenths.Goals as goal
use Rattle.float_grid.proofs.sixteenths.Goals.{Start}

-- what owning an `f64` tells: the format holds it
held : (c : Start) → T (fits binary64 c.args.x)
held c = subst T (sym c.well_formed.0.1) tt

pub truncating_f64_to_i64-requires : goal.truncating_f64_to_i64-requires
unfolding of_bits
truncating_f64_to_i64-requires c = let both = castable c.args.x (held c) (inside-grid c.args.x c.requires) in record { lower_bound = both.0; upper_bound = both.1 }

pub returns : goal.returns
unfolding of_bits
returns c =
    let s = c.before in
    let i = inside-grid s.args.x s.requires in
    let r = c.truncating_f64_to_i64.ensures in
    to_z-of_z w64 _ (subst (SFits w64) (sym r) (fitting s.args.x (held s) i)) ∙ r ∙ read s.args.x (held s) i s.requires
