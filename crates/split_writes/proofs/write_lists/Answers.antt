use Rattle.split_writes.specs.Chain.{behind-loops}
use Rattle.split_writes.specs.Written.{lists_put}
use Rattle.split_pieces.specs.Steps.{slots-fewer}
use Rattle.split_pieces.specs.Pieces.{wires_put}
use lib.ListN.{length}
use mathlib.Core.Path.{ap, ◌∙◌}
use borrow.Author.Rules.{rules}
use Rattle.split_writes.proofs.write_lists.Goals as goal

pub put_loops-requires : goal.put_loops-requires
put_loops-requires c = let s = c in record { slots = slots-fewer s.args.room.now s.args.words.now (length s.args.owners.now) s.requires.slots; olds = s.requires.olds; roomy = s.requires.loops }

pub put_wires-requires : goal.put_wires-requires
put_wires-requires c = let s = c in let both = behind-loops s.args.room.now s.args.words.now s.args.edge s.args.fins.now s.args.owners.now s.args.senses.now s.requires c.put_loops.new.words c.put_loops.ensures in record { slots = both.0; edge_bound = both.1.0; roomy = both.1.1 }

pub returns : goal.returns
unfolding lists_put
returns c = let s = c in c.put_wires.ensures ∙ ap (wires_put s.args.room.now s.args.edge) c.put_loops.ensures
