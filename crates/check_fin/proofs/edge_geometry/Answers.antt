-- `check_fin::edge_geometry` meets its contract: by the cases of curve and surface. Assumes nothing.
use mathlib.Core.Path.{sym}
use Rattle.memory_layout.specs.Decode.{decode}
use Rattle.check_reasons.specs.Laws.{enough-same, noted-none, noted-same}
use Rattle.check_fin.specs.Laws.{curve-none, surface-none, carriers-both}
use borrow.Author.Rules.{rules}
use Rattle.check_fin.proofs.edge_geometry.Goals as goal

pub edge_at-edge-requires : goal.edge_at-edge-requires
edge_at-edge-requires c = record { fit = c.requires.fit; i_bound = c.requires.n_bound.1 }

pub note-requires : goal.note-requires
note-requires c = record { n_nonzero = search rules; enough = enough-same (curve-none (decode c.args.room.now c.args.words.now c.args.reals.now) c.args.n c.args.e _ c.edge_at-edge.ensures c.args.surface c.in-None.is) c.requires.enough }

pub carried_on-requires : goal.carried_on-requires
carried_on-requires c = record { fit = c.requires.fit; n_bound = c.requires.n_bound; enough = enough-same (carriers-both (decode c.args.room.now c.args.words.now c.args.reals.now) c.args.n c.args.e _ c.edge_at-edge.ensures c.args.surface _ _ c.in-Some.is c.in-Some-surface.is) c.requires.enough }

pub returns-in-None : goal.returns-in-None
returns-in-None c = noted-same (sym (curve-none (decode c.args.room.now c.args.words.now c.args.reals.now) c.args.n c.args.e _ c.edge_at-edge.ensures c.args.surface c.in-None.is)) c.note.ensures

pub returns-in-None-surface : goal.returns-in-None-surface
returns-in-None-surface c = noted-same (sym (surface-none (decode c.args.room.now c.args.words.now c.args.reals.now) c.args.n c.args.e _ c.edge_at-edge.ensures c.args.surface _ c.in-Some.is c.in-None-surface.is)) (noted-none _ _)

pub returns-in-Some-surface : goal.returns-in-Some-surface
returns-in-Some-surface c = noted-same (sym (carriers-both (decode c.args.room.now c.args.words.now c.args.reals.now) c.args.n c.args.e _ c.edge_at-edge.ensures c.args.surface _ _ c.in-Some.is c.in-Some-surface.is)) c.carried_on.ensures
