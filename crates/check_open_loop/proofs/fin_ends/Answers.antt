-- `check_open_loop::fin_ends` meets its contract: of a fin that can be read. Assumes nothing.
use mathlib.Core.Path.{◌∙◌}
use Rattle.memory_layout.specs.Decode.{decode}
use Rattle.memory_layout.specs.Laws.{lists_of}
use Rattle.check_open_loop.specs.Laws.{fin-slots, edge-slot, ends-told}
use Rattle.check_open_loop.proofs.fin_ends.Goals as goal

pub fin_at-fin-requires : goal.fin_at-fin-requires
fin_at-fin-requires c = record { lists = lists_of _ _ _ c.requires.fit; i_bound = (fin-slots c.args.room.now c.args.words.now c.args.reals.now c.args.i c.requires.i_value).0 }

pub edge_at-edge-requires : goal.edge_at-edge-requires
edge_at-edge-requires c = record { fit = c.requires.fit; i_bound = edge-slot c.args.room.now c.args.words.now c.args.reals.now c.args.i _ (c.fin_at-fin.ensures c.args.reals.now) c.requires.i_value }

pub returns : goal.returns
returns c = c.directed.ensures ∙ ends-told (decode c.args.room.now c.args.words.now c.args.reals.now) c.args.i _ _ (c.fin_at-fin.ensures c.args.reals.now) c.edge_at-edge.ensures
