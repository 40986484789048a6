-- `split_foreign::edge_for` meets its contract. Assumes nothing.
use native.Mathlib.Omega.{arith}
use mathlib.Core.Path.{◌≡◌, sym, ◌∙◌}
use mathlib.Core.Bool.{true, false}
use Rattle.memory_layout.specs.Laws.{version-there}
use Rattle.memory_layout.specs.Decode.{decode}
use Rattle.meaning.specs.Offices.{foreign_edge, edge_for}
use Rattle.split_foreign.proofs.edge_for.Goals as goal

pub bounds-words-6 : goal.bounds-words-6
bounds-words-6 c = let s = c in let n = version-there s.args.room.now s.args.words.now s.requires.words in omega arith

pub returns-then-foreign_edge : goal.returns-then-foreign_edge
unfolding edge_for decode
returns-then-foreign_edge c =
    let s = c in
    λ x.
    let e : foreign_edge (decode s.args.room.now s.args.words.now x) s.args.office s.args.edge ≡ true = sym (c.foreign_edge.ensures x) ∙ c.if-foreign_edge.true in
    rw e

pub returns : goal.returns
unfolding edge_for
returns c =
    let s = c in
    λ x.
    let e : foreign_edge (decode s.args.room.now s.args.words.now x) s.args.office s.args.edge ≡ false = sym (c.foreign_edge.ensures x) ∙ c.if-foreign_edge.false in
    rw e
