-- `split_stop_edge::edge_stop` meets its contract. Assumes nothing.
use Rattle.split_stop_edge.specs.Laws.{edge-missing, edge-there}
use Rattle.split_stop_edge.specs.EdgeRows.{pcurve_parts}
use Rattle.split_stop_parts.specs.Told.{first_told, row_told}
use Rattle.memory_records.specs.Laws.{counts-there}
use Rattle.memory_layout.specs.Laws.{lists_of}
use Rattle.meaning.specs.Lists.{joined}
use Prim.Native.Nat.{ℕ}
use mathlib.Core.List.{List}
use lib.Dec.{lit<}
use mathlib.Core.Path.{sym, ap, ap₂, ◌∙◌}
use native.Mathlib.Omega.{arith}
use Rattle.split_stop_edge.proofs.edge_stop.Goals as goal

pub bounds-words-6 : goal.bounds-words-6
bounds-words-6 c = let s = c in let n = counts-there s.args.room.now s.args.words.now s.args.reals.now s.requires.sized in omega arith

pub returns-then-words-edge : goal.returns-then-words-edge
returns-then-words-edge c = let s = c in
    c.first.ensures
    ∙ ap₂ first_told c.fraction_stop-place.ensures c.on_edge.ensures
    ∙ sym (edge-missing s.args.room.now s.args.words.now s.args.reals.now s.args.edge s.args.asked s.args.fraction c.if-words-edge.true)

pub list-requires : goal.list-requires
list-requires c = let s = c in record { lists = lists_of s.args.room.now s.args.words.now s.args.reals.now s.requires; j_bound = (lit< tt, c.if-words-edge.false) }

pub pcurves_stop-pcurves-requires : goal.pcurves_stop-pcurves-requires
pcurves_stop-pcurves-requires c = let s = c in lists_of s.args.room.now s.args.words.now s.args.reals.now s.requires

pub bounds_stop-requires : goal.bounds_stop-requires
bounds_stop-requires c = let s = c in record { fit = s.requires; edge_bound = c.if-words-edge.false }

pub returns : goal.returns
returns c = let s = c in
    c.first-3.ensures
    ∙ ap₂ first_told c.fraction_stop-place.ensures
    (c.first-2.ensures
    ∙ ap₂ first_told (c.pcurves_stop-pcurves.ensures ∙ ap (λ (l : List ℕ). row_told 3 (joined (pcurve_parts s.args.room.now s.args.words.now s.args.edge) l)) c.list.ensures) c.bounds_stop.ensures)
    ∙ sym (edge-there s.args.room.now s.args.words.now s.args.reals.now s.args.edge s.args.asked s.args.fraction c.if-words-edge.false)
