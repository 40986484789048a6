-- `slab_rules::vertices_broken` meets its contract. Assumes nothing.
use mathlib.Core.Path.{sym, ap, ◌∙◌}
use lib.ListN.{length}
use lib.Seq.{length-take-le}
use Rattle.meaning.specs.Refuse.{first_of}
use Rattle.memory_layout.specs.Decode.{decode}
use Rattle.memory_layout.specs.Laws.{lists_of}
use Rattle.walk_visits.specs.Visits.{ids_of}
use Rattle.walk_paths.specs.Laws.{vertex-path-short, vertex-sources, laid-short, laid-front, sources-front}
use Rattle.walk_answers.specs.Laws.{marked-zeros}
use Rattle.slab_edges.specs.Tested.{id_tested}
use Rattle.slab_rules.specs.Laws.{vertices-first}
use borrow.Author.Rules.{rules}
use Rattle.slab_rules.proofs.vertices_broken.Goals as goal

pub vertex_path-n-requires : goal.vertex_path-n-requires
vertex_path-n-requires c = let s = c in record { lists = lists_of s.args.room.now s.args.words.now s.args.reals.now s.requires.fit; edged = s.requires.edged; marked = marked-zeros (length s.args.faces.now) _ s.requires.faces_value; marked_2 = marked-zeros (length s.args.edges.now) _ s.requires.edges_value }

pub slice_bounds-path-end : goal.slice_bounds-path-end
slice_bounds-path-end c = let s = c in laid-short _ _ _ _ c.vertex_path-n.ensures.laid (vertex-path-short s.args.room.now s.args.words.now s.args.body (lists_of s.args.room.now s.args.words.now s.args.reals.now s.requires.fit) s.requires.edged)

pub slice_bounds-path_tested-end : goal.slice_bounds-path_tested-end
slice_bounds-path_tested-end c = let s = c in sym (length-take-le c.vertex_path-n.result c.vertex_path-n.new.path (laid-short _ _ _ _ c.vertex_path-n.ensures.laid (vertex-path-short s.args.room.now s.args.words.now s.args.body (lists_of s.args.room.now s.args.words.now s.args.reals.now s.requires.fit) s.requires.edged)))

pub path_tested-requires : goal.path_tested-requires
path_tested-requires c = let s = c in record { fit = s.requires.fit; sources = sources-front s.args.room.now s.args.words.now _ _ _ _ (vertex-sources s.args.room.now s.args.words.now s.args.body (lists_of s.args.room.now s.args.words.now s.args.reals.now s.requires.fit) s.requires.edged) c.vertex_path-n.ensures.laid (vertex-path-short s.args.room.now s.args.words.now s.args.body (lists_of s.args.room.now s.args.words.now s.args.reals.now s.requires.fit) s.requires.edged) }

pub returns : goal.returns
returns c = let s = c in let front = laid-front _ _ _ _ c.vertex_path-n.ensures.laid (vertex-path-short s.args.room.now s.args.words.now s.args.body (lists_of s.args.room.now s.args.words.now s.args.reals.now s.requires.fit) s.requires.edged) in record { value = c.path_tested.ensures ∙ ap (λ l. first_of (id_tested (decode s.args.room.now s.args.words.now s.args.reals.now) 5) (ids_of s.args.room.now s.args.words.now l)) front ∙ vertices-first s.args.room.now s.args.words.now s.args.reals.now s.args.body; faces_after = c.vertex_path-n.ensures.face_marks_after; edges_after = c.vertex_path-n.ensures.edge_marks_after }
