-- Opens the definitions of the stone sheet for evaluation, as `Computing.antt` of `meaning` opens those below it. It says nothing.
use Rattle.std.specs.Prelude.{ℕ}
use Rattle.float_grid.specs.Grid.{on_grid, sixteenths}
use Rattle.meaning_sheets.specs.Sheets.{corner, minus_c, dot_c, cross_c, wedge, whole_fan, whole_polygon, side_points, whole_side, whole_sum, grid_points, grid_sides, triangles, stone_refusal, with_stone, sheet_readable, take_refusal, sheet_after, after_takes}

unfoldable pub counting : ℕ
unfolding on_grid sixteenths corner minus_c dot_c cross_c wedge whole_fan whole_polygon side_points whole_side whole_sum grid_points grid_sides triangles stone_refusal with_stone sheet_readable take_refusal
    sheet_after after_takes
counting = 0
