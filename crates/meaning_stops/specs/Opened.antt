-- For evaluation: a line `unfolding computing opened` opens every definition of this crate and of those below.
use Rattle.std.specs.Prelude.{ℕ}
use Rattle.meaning_stops.specs.Stops.{refusal_of, first_part, first_stop}
use Rattle.meaning_stops.specs.Splits.{row11-fin, row11-fins, split_stops, split_stop, bounds_stops}
use Rattle.meaning_stops.specs.Bodies.{first_with, region_parts, loop_parts, walked_face, flat_parts, straight_parts, start_parts, side_parts, sides_parts, faces_stops, edges_stops, vertices_stops, box_stops, volume_stops, faces_stop, edges_stop, vertices_stop, box_stop, volume_stop}

unfoldable pub opened : ℕ
unfolding refusal_of first_part first_stop row11-fin row11-fins split_stops split_stop bounds_stops first_with region_parts loop_parts walked_face flat_parts straight_parts start_parts side_parts sides_parts
    faces_stops edges_stops vertices_stops box_stops volume_stops faces_stop edges_stop vertices_stop box_stop volume_stop
opened = 0
