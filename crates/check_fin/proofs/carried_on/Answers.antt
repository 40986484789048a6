-- `check_fin::carried_on` meets its contract: what the tables have under the ids. Assumes nothing.
use native.Mathlib.Omega.{arith}
use mathlib.Core.Path.{sym}
use Rattle.memory_layout.specs.Decode.{decode}
use Rattle.check_reasons.specs.Laws.{enough-same, noted-same}
use Rattle.check_fin.specs.Laws.{carried-told}
use Rattle.memory_records.specs.Laws.{counts-there}
use Rattle.memory_layout.specs.Laws.{precision-there}
use borrow.Author.Rules.{rules}
use Rattle.check_fin.proofs.carried_on.Goals as goal

pub edge_at-edge-requires : goal.edge_at-edge-requires
edge_at-edge-requires c = record { fit = c.requires.fit; i_bound = c.requires.n_bound.1 }

pub in_effect-tol-requires : goal.in_effect-tol-requires
in_effect-tol-requires c =
    let s = c in
    (counts-there _ _ _ s.requires.fit.sized, precision-there _ _ _ s.requires.fit.sized)

pub curve_found-curve-requires : goal.curve_found-curve-requires
curve_found-curve-requires c = c.requires.fit.sized

pub surface_found-surface-requires : goal.surface_found-surface-requires
surface_found-surface-requires c = c.requires.fit.sized

pub rim-requires : goal.rim-requires
unfolding decode
rim-requires c = record { sized = c.requires.fit.sized; n_bound = c.requires.n_bound.0; enough = enough-same (carried-told (decode c.args.room.now c.args.words.now c.args.reals.now) c.args.n c.args.e c.args.c c.args.s _ _ _ _ c.edge_at-edge.ensures c.curve_found-curve.ensures c.surface_found-surface.ensures c.in_effect-tol.ensures) c.requires.enough }

pub returns : goal.returns
unfolding decode
returns c = noted-same (sym (carried-told (decode c.args.room.now c.args.words.now c.args.reals.now) c.args.n c.args.e c.args.c c.args.s _ _ _ _ c.edge_at-edge.ensures c.curve_found-curve.ensures c.surface_found-surface.ensures c.in_effect-tol.ensures)) c.rim.ensures
