-- For evaluation: a line `unfolding computing` opens every definition of this crate and of those below, and the float operations of lib.Ieee.
use Rattle.std.specs.Prelude.{ℕ}
use lib.Ieee.{to_bits, of_bits, add, sub, mul, div, neg, round, of_int, is_nan, lt, le, eq}
use Rattle.float_order.specs.Next.{next_up, next_down}
use Rattle.float_values.specs.Value.{ONE}
use Rattle.float_exact.specs.Exact.{exact_sum}
use Rattle.interval_arithmetic.specs.Ops.{point_i, add_i, sub_i, mul_i, sqr_i, sign_i}
use Rattle.float_vectors.specs.Space.{finite_point, minus, along, scaled_v, dot_v, cross_v}
use Rattle.interval_vectors.specs.Vectors.{difference_i, point_i3, vector_i, dot_i}
use Rattle.geom_lines_planes.specs.Geometry.{line_point, nearest, size_f, plane_distance, rule, effective}
use Rattle.geom_carriers.specs.Queries.{the_line, line_refusal, the_plane, plane_refusal}
use Rattle.geom_signs.specs.Signs.{increasing_s, span_s, apart_s, off_plane_s, off_curve_s}
use Rattle.meaning.specs.Lists.{run, all_below, all, any, every, member, count, count_if, place, joined, meet, meets}
use Rattle.meaning.specs.Model.{extended, changed, carrier_at}
use Rattle.meaning.specs.Refuse.{first_refusal, first_of}
use Rattle.meaning.specs.Walks.{face_walk, faces_refusal, edge_walk, edges_refusal, vertex_walk, vertices_refusal}
use Rattle.meaning.specs.Inquire.{flat_face, straight_edge, require_polyhedral, grown, box_of, box_refusal, solid_sides, side_refusal, sides_refusal, volume_refusal, fan, polygon_volume, side_volume, sum_volumes}
use Rattle.meaning.specs.Split.{lo, hi, parameter, split_point, test7, test8, test9, test10, on_plane, test11-fin, test11-fins, test12, test13, bounds_refusal, split_refusal, after_split, model_after, after_all}
use Rattle.meaning.specs.Faults.{fault_on, geometry_error, curve_test, point_on_surface, end_tests, sample_at, sample_test, sample_tests, carried, fin_geometry, fin_findings, opens, loop_findings, face_findings, shell_findings, region_findings, manifold, manifold_edge, manifold_edges, findings, faults_of, skipped_of, report_of, check_refusal, solid_face, own_shells, whole_solid, sawable}
use Rattle.meaning.specs.Formed.{tables_pass, ids_ok, listed_ok, closed, loop_closes, well_formed}
use Rattle.meaning.specs.Offices.{body_for, foreign_edge, edge_for, office_split_refusal, office_model_after, office_after_all}

unfoldable pub computing : ℕ
unfolding to_bits of_bits add sub mul div neg round of_int is_nan lt le eq next_up next_down ONE exact_sum point_i add_i sub_i mul_i sqr_i sign_i finite_point minus along scaled_v dot_v
    cross_v difference_i point_i3 vector_i dot_i line_point nearest size_f plane_distance rule effective the_line line_refusal the_plane plane_refusal increasing_s span_s apart_s off_plane_s
    off_curve_s run all_below all any every member count count_if place joined meet meets extended changed carrier_at first_refusal first_of face_walk
    faces_refusal edge_walk edges_refusal vertex_walk vertices_refusal flat_face straight_edge require_polyhedral grown box_of box_refusal solid_sides
    side_refusal sides_refusal volume_refusal fan polygon_volume side_volume sum_volumes lo hi parameter split_point test7 test8 test9 test10 on_plane
    test11-fin test11-fins test12 test13 bounds_refusal split_refusal after_split model_after after_all fault_on geometry_error curve_test point_on_surface
    end_tests sample_at sample_test sample_tests carried fin_geometry fin_findings opens loop_findings face_findings shell_findings region_findings manifold
    manifold_edge manifold_edges findings faults_of skipped_of report_of check_refusal solid_face own_shells whole_solid sawable tables_pass ids_ok listed_ok closed loop_closes well_formed
    body_for foreign_edge edge_for office_split_refusal office_model_after office_after_all
computing = 0
