-- For evaluation: a line `unfolding reading` opens the definitions of this crate and the numbers in bytes.
use Rattle.std.specs.Prelude.{ℕ}
use Rattle.image_format.specs.Bytes.{little, number}
use Rattle.stl_body.specs.Read.{coordinate_in, corner_in, triangle_in, triangles_in, count_in, stl_triangles, length_fits, known, which_of, met_behind, same_point, corners, steps_of, edge_of, mesh_of, fins_on, built, after_read, all_finite, all_apart, has_room, triangles_refusal, read_refusal, model_after_read}

unfoldable pub reading : ℕ
unfolding little number coordinate_in corner_in triangle_in triangles_in count_in stl_triangles length_fits known which_of met_behind same_point corners steps_of edge_of mesh_of fins_on built
    after_read all_finite all_apart has_room triangles_refusal read_refusal model_after_read
reading = 0
