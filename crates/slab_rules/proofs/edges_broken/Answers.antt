-- `slab_rules::edges_broken` meets its contract. Assumes nothing.
use mathlib.Core.Path.{sym, ap, ◌∙◌}
use lib.ListN.{length}
use lib.Seq.{length-take-le}
use Rattle.meaning.specs.Refuse.{first_of}
use Rattle.memory_layout.specs.Decode.{decode}
use Rattle.memory_layout.specs.Laws.{lists_of}
use Rattle.walk_visits.specs.Visits.{ids_of}
use Rattle.walk_paths.specs.Laws.{edge-path-short, edge-sources, laid-short, laid-front, sources-front}
use Rattle.walk_answers.specs.Laws.{marked-zeros}
use Rattle.slab_edges.specs.Tested.{id_tested}
use Rattle.slab_rules.specs.Laws.{edges-first}
use borrow.Author.Rules.{rules}
use Rattle.slab_rules.proofs.edges_broken.Goals as goal

pub edge_path-n-requires : goal.edge_path-n-requires
edge_path-n-requires c = let s = c in record { lists = lists_of s.args.room.now s.args.words.now s.args.reals.now s.requires.fit; looped = s.requires.edged.looped; marked = marked-zeros (length s.args.faces.now) _ s.requires.faces_value }

pub slice_bounds-path-end : goal.slice_bounds-path-end
slice_bounds-path-end c = let s = c in laid-short _ _ _ _ c.edge_path-n.ensures.laid (edge-path-short s.args.room.now s.args.words.now s.args.body (lists_of s.args.room.now s.args.words.now s.args.reals.now s.requires.fit) s.requires.edged.looped)

pub slice_bounds-path_tested-end : goal.slice_bounds-path_tested-end
slice_bounds-path_tested-end c = let s = c in sym (length-take-le c.edge_path-n.result c.edge_path-n.new.path (laid-short _ _ _ _ c.edge_path-n.ensures.laid (edge-path-short s.args.room.now s.args.words.now s.args.body (lists_of s.args.room.now s.args.words.now s.args.reals.now s.requires.fit) s.requires.edged.looped)))

pub path_tested-requires : goal.path_tested-requires
path_tested-requires c = let s = c in record { fit = s.requires.fit; sources = sources-front s.args.room.now s.args.words.now _ _ _ _ (edge-sources s.args.room.now s.args.words.now s.args.body (lists_of s.args.room.now s.args.words.now s.args.reals.now s.requires.fit) s.requires.edged.looped) c.edge_path-n.ensures.laid (edge-path-short s.args.room.now s.args.words.now s.args.body (lists_of s.args.room.now s.args.words.now s.args.reals.now s.requires.fit) s.requires.edged.looped) }

pub returns : goal.returns
returns c = let s = c in let front = laid-front _ _ _ _ c.edge_path-n.ensures.laid (edge-path-short s.args.room.now s.args.words.now s.args.body (lists_of s.args.room.now s.args.words.now s.args.reals.now s.requires.fit) s.requires.edged.looped) in record { value = c.path_tested.ensures ∙ ap (λ l. first_of (id_tested (decode s.args.room.now s.args.words.now s.args.reals.now) 4) (ids_of s.args.room.now s.args.words.now l)) front ∙ edges-first s.args.room.now s.args.words.now s.args.reals.now s.args.body s.requires.edged; faces_after = c.edge_path-n.ensures.marks_after }
