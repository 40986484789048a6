-- `slab_edges::id_tested` meets its contract. Assumes nothing.
use Rattle.memory_records.specs.Laws.{counts-there}
use Rattle.slab_edges.specs.Laws.{grid-tested, edge-lacks, edge-tested}
use Rattle.memory_layout.specs.Decode.{decode}
use Rattle.geom_lines_planes.specs.Refuse.{◌unless◌}
use Prim.Native.Nat.{suc}
use mathlib.Core.Path.{ap, ◌∙◌}
use native.Mathlib.Omega.{arith}
use Rattle.slab_edges.proofs.id_tested.Goals as goal

pub grid_vertex-requires : goal.grid_vertex-requires
grid_vertex-requires c = c.requires

pub returns-then-rule-eq-GRID : goal.returns-then-rule-eq-GRID
returns-then-rule-eq-GRID c = let s = c in c.unless_holds.ensures ∙ ap (λ t. suc s.args.i unless t) c.grid_vertex.ensures ∙ grid-tested (decode s.args.room.now s.args.words.now s.args.reals.now) s.args.rule s.args.i c.if-rule-eq-GRID.true

pub bounds-words-6 : goal.bounds-words-6
bounds-words-6 c = let s = c in let n = counts-there s.args.room.now s.args.words.now s.args.reals.now s.requires.sized in omega arith

pub returns-then-words-i : goal.returns-then-words-i
unfolding decode
returns-then-words-i c = let s = c in edge-lacks (decode s.args.room.now s.args.words.now s.args.reals.now) s.args.rule s.args.i c.if-rule-eq-GRID.false c.if-words-i.true

pub along_axis-requires : goal.along_axis-requires
along_axis-requires c = let s = c in record { fit = s.requires; e_bound = c.if-words-i.false }

pub returns : goal.returns
unfolding decode
returns c = let s = c in c.unless_holds-2.ensures ∙ ap (λ t. suc s.args.i unless t) c.along_axis.ensures ∙ edge-tested (decode s.args.room.now s.args.words.now s.args.reals.now) s.args.rule s.args.i c.if-rule-eq-GRID.false c.if-words-i.false
