-- The words that the clauses of the exports say, by one module: for each word that a .rt file imports, `rt` goes through all crates below once.
pub use Rattle.c_answers.specs.Values.{wanted}
pub use Rattle.c_courses.specs.Slots.{course_slots}
pub use Rattle.c_first.specs.Slots.{first_value}
pub use Rattle.c_lent.specs.Lent.{lent, held, was, alone}
pub use Rattle.c_measures.specs.Measures.{box_value, volume_value, report_value, fit_value}
pub use Rattle.c_sheets.specs.Slots.{sheet_in, sheet_out}
pub use Rattle.c_slabs.specs.Slots.{profile_value}
pub use Rattle.c_values.specs.Crossing.{body_value, region_value, shell_value, face_value, loop_value, fin_value, edge_value, vertex_value, edge_reals, vertex_reals, tips_value, range_value}
pub use Rattle.c_values.specs.Given.{entity_of, body_in, region_known, face_known, fin_known, carrier_known, edge_good, vertex_good, body_given, region_given, shell_given, face_given, loop_given, fin_given, edge_given, vertex_given, carrier_given, edge_own, vertex_own, carrier_own, kind_given}
pub use Rattle.check_report.specs.Calls.{asked}
pub use Rattle.course_edits.specs.Answers.{tag_of, id_of, open_number, make_number as make_courses_number, made_words, count_number, insert_number as insert_course_number, inserted_words, append_number, appended_words, put_number, put_words, strike_number, struck_words, length_of, entry_at}
pub use Rattle.edit_core.specs.Answers.{insert_number, insert_words, insert_reals, edit_number, edit_words, edit_reals}
pub use Rattle.edit_fields.specs.Fields.{carrier_fields, carrier_floats}
pub use Rattle.edit_make.specs.Answers.{make_number, make_words, make_reals}
pub use Rattle.edit_tags.specs.Tags.{mark}
pub use Rattle.image_format.specs.Image.{image_of}
pub use Rattle.image_reader.specs.Answers.{read_number, read_words, read_reals}
pub use Rattle.image_writer.specs.Answers.{length_number, write_number, written_bytes}
pub use Rattle.meaning.specs.Faults.{sawing}
pub use Rattle.meaning.specs.Model.{has}
pub use Rattle.meaning.specs.Offices.{body_for}
pub use Rattle.meaning.specs.Walks.{ends_of}
pub use Rattle.memory_contains.specs.Answers.{contained}
pub use Rattle.memory_layout.specs.Decode.{decode}
pub use Rattle.memory_layout.specs.Entries.{list_of}
pub use Rattle.memory_layout.specs.Laid.{version_tag}
pub use Rattle.memory_layout.specs.Layout.{word}
pub use Rattle.memory_layout.specs.Names.{BODIES, REGIONS, SHELLS, FACES, LOOPS, FINS, EDGES, VERTICES, CURVES, SURFACES, AT_FIN_PCURVE}
pub use Rattle.memory_layout.specs.Readable.{readable}
pub use Rattle.memory_offices.specs.Sight.{by_office}
pub use Rattle.memory_records.specs.Seen.{seen_body, seen_region, seen_shell, seen_face, seen_loop, seen_fin, seen_edge, seen_vertex}
pub use Rattle.memory_writes.specs.Put.{unless_refused}
pub use Rattle.office_bodies.specs.Answers.{entity_for, office_body_number, record_for, office_entry_number, office_put_words, office_append_number, office_append_words, office_strike_words}
pub use Rattle.office_courses.specs.Answers.{course_number}
pub use Rattle.office_measures.specs.Answers.{office_box_number, office_volume_number, office_check_number, office_faults}
pub use Rattle.office_mends.specs.Answers.{office_mend_number, office_mend_count, office_mend_list, office_mend_words}
pub use Rattle.office_sheets.specs.Answers.{take_number, taken_sheet}
pub use Rattle.office_slabs.specs.Answers.{profile_asked, office_profile_number, office_areas}
pub use Rattle.office_stl.specs.Answers.{stl_asked, office_length_number, office_write_number, office_written}
pub use Rattle.office_walks.specs.Calls.{office_faces_number, office_faces_handed, office_edges_number, office_edges_handed, office_vertices_number, office_vertices_handed}
pub use Rattle.split_bounds.specs.Answers.{bounds_number}
pub use Rattle.split_edge.specs.After.{office_split_words, office_split_reals}
pub use Rattle.split_place.specs.SplitNumber.{office_split_number}
pub use Rattle.stl_reader.specs.Answers.{read_stl_number, read_stl_words, read_stl_reals}
pub use Rattle.walk_answers.specs.Calls.{in_front}
pub use Rattle.walk_fin_ends.specs.Answers.{seen_ends, fin_vertices_number}
