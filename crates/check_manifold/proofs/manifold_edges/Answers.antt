-- `check_manifold::manifold_edges` meets its contract: over the path of the edges walk. Assumes nothing.
use mathlib.Core.Path.{sym, ap, ◌∙◌}
use native.Mathlib.Omega.{arith}
use lib.ListN.{length, replicate}
use lib.Seq.{length-take-le}
use Rattle.meaning.specs.Lists.{joined}
use Rattle.meaning.specs.Faults.{manifold_edge}
use Rattle.memory_layout.specs.Decode.{decode}
use Rattle.memory_layout.specs.Laws.{lists_of}
use Rattle.walk_paths.specs.Laws.{laid-short, laid-front, sources-front, edge-path-short, edge-sources}
use Rattle.check_reasons.specs.Laws.{enough-same, noted-same}
use Rattle.check_manifold.specs.Laws.{walk-told}
use Rattle.check_manifold.proofs.manifold_edges.Goals as goal

pub edge_path-n-requires : goal.edge_path-n-requires
edge_path-n-requires c = record { lists = (lists_of _ _ _ c.requires.fit); looped = c.requires.looped; marked = c.requires.marked }

pub slice_bounds-path-end : goal.slice_bounds-path-end
slice_bounds-path-end c = laid-short _ _ _ _ c.edge_path-n.ensures.laid (edge-path-short c.args.room.now c.args.words.now c.args.body (lists_of _ _ _ c.requires.fit) c.requires.looped)

pub slice_bounds-manifold_path-end : goal.slice_bounds-manifold_path-end
slice_bounds-manifold_path-end c = sym (length-take-le c.edge_path-n.result c.edge_path-n.new.path (laid-short _ _ _ _ c.edge_path-n.ensures.laid (edge-path-short c.args.room.now c.args.words.now c.args.body (lists_of _ _ _ c.requires.fit) c.requires.looped)))

pub manifold_path-r-requires : goal.manifold_path-r-requires
manifold_path-r-requires c = record { fit = c.requires.fit; sources = sources-front c.args.room.now c.args.words.now _ _ _ _ (edge-sources c.args.room.now c.args.words.now c.args.body (lists_of _ _ _ c.requires.fit) c.requires.looped) c.edge_path-n.ensures.laid (edge-path-short c.args.room.now c.args.words.now c.args.body (lists_of _ _ _ c.requires.fit) c.requires.looped); path_len_bound = (omega (arith, (edge-path-short c.args.room.now c.args.words.now c.args.body (lists_of _ _ _ c.requires.fit) c.requires.looped), ap length (laid-front _ _ _ _ c.edge_path-n.ensures.laid (edge-path-short c.args.room.now c.args.words.now c.args.body (lists_of _ _ _ c.requires.fit) c.requires.looped))), omega arith); marked = c.requires.marked_2; enough = enough-same (ap (joined (manifold_edge (decode c.args.room.now c.args.words.now c.args.reals.now))) (walk-told c.args.room.now c.args.words.now c.args.reals.now c.args.body _ (laid-front _ _ _ _ c.edge_path-n.ensures.laid (edge-path-short c.args.room.now c.args.words.now c.args.body (lists_of _ _ _ c.requires.fit) c.requires.looped)))) c.requires.enough }

pub returns : goal.returns
returns c = record { noted = noted-same (sym (ap (joined (manifold_edge (decode c.args.room.now c.args.words.now c.args.reals.now))) (walk-told c.args.room.now c.args.words.now c.args.reals.now c.args.body _ (laid-front _ _ _ _ c.edge_path-n.ensures.laid (edge-path-short c.args.room.now c.args.words.now c.args.body (lists_of _ _ _ c.requires.fit) c.requires.looped))))) c.manifold_path-r.ensures; faces_after = c.edge_path-n.ensures.marks_after; edges_after = c.clear.ensures ∙ ap (λ n. replicate n 0) c.manifold_path-r.auto.marks }
