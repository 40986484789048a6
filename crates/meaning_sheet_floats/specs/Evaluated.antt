-- What the statement asks, computed: the trial stone meets it, and without the threes it would be wrong. Assumes nothing.
use Rattle.std.specs.Prelude.{ℕ, ◌≡◌, refl, pos, nat_abs}
use Rattle.std.proofs.Common.{sym, ap, ◌∙◌, arith, lit≤}
use Rattle.meaning.specs.Floats.{◌/ᶠ◌, float_of}
use Rattle.meaning.specs.Stone.{stone}
use Rattle.meaning.specs.Computing.{computing}
use Rattle.float_grid.specs.Grid.{on_grid, sixteenths}
use Rattle.meaning_sheets.specs.Sheets.{corner, minus_c, dot_c, cross_c, wedge, whole_fan, whole_polygon, side_points, whole_side, whole_sum, grid_points, grid_sides, triangles}
use Rattle.meaning_sheet_floats.specs.Exactly.{Exactly, abs-signed}
use Rattle.meaning_sheet_floats.specs.Terms.{small_points, small_sides, threes_in, NothingRounds}

unfoldable pub counting : ℕ
unfolding on_grid sixteenths corner minus_c dot_c cross_c wedge whole_fan whole_polygon side_points whole_side whole_sum grid_points grid_sides triangles small_points small_sides threes_in
counting = 0

-- no coordinate of the trial stone is above 4 mm
pub stone-meets : NothingRounds stone 0 64
unfolding computing counting
stone-meets = record { on-grid = refl; small = refl; room = lit≤ tt; threes = refl }

-- a third is no float: 1 / 6 is rounded
third-rounds : Exactly (float_of 1 /ᶠ float_of 6) 6 (pos 1) → ⊥
unfolding computing
third-rounds h = let v = h.value.1 in let s : h.size ≡ 1 = sym (abs-signed h.sign h.size) ∙ ap nat_abs (sym h.number) in omega arith
