-- Opens the definitions of the slab profile for evaluation, as `Computing.antt` of `meaning` opens those below it. It says nothing.
use Rattle.std.specs.Prelude.{ℕ}
use Rattle.meaning_slabs.specs.Slabs.{steps, signed_axis, along_normal, one_loop, ends_at, differing, along_axis, grid_vertex, axis_of, on, level, level_face, broken_fin, rules, judged, verdict, spot, strip, sumℤ, loop_area, face_area, areas, area_sum, profile, short_list, profile_refusal}

unfoldable pub judging : ℕ
unfolding steps signed_axis along_normal one_loop ends_at differing along_axis grid_vertex axis_of on level level_face broken_fin rules judged verdict spot strip sumℤ loop_area face_area
    areas area_sum profile short_list profile_refusal
judging = 0
