-- Opens the definitions of the drawing for evaluation, as `Computing.antt` of `meaning` opens those below it. It says nothing.
use Rattle.std.specs.Prelude.{ℕ}
use Rattle.std.specs.Float.Ieee.{fits, to_bits}
use Rattle.float_narrow.specs.Narrow.{narrow, narrow_bits}
use Rattle.meaning_sheets.specs.Sheets.{side_points}
use Rattle.image_format.specs.Bytes.{little}
use Rattle.stl_format.specs.Stl.{fan_triangles, polygon_triangles, side_triangles, triangles_of, triangle_bytes, triangles_bytes, stl_of, narrow_points, narrow_sides, stl_refusal, write_refusal}

unfoldable pub drawing : ℕ
unfolding fits to_bits narrow narrow_bits side_points little fan_triangles polygon_triangles side_triangles triangles_of triangle_bytes triangles_bytes stl_of narrow_points narrow_sides stl_refusal write_refusal
drawing = 0
