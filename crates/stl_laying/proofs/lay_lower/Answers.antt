-- `stl_laying::lay_lower` meets its contract: table after table. Assumes nothing.
use native.Mathlib.Omega.{arith}
use mathlib.Core.Path.{ap, ◌∙◌}
use Rattle.memory_layout.specs.Layout.{word}
use Rattle.stl_rows.specs.Rows.{words_behind, vertex_row}
use Rattle.stl_rows.specs.Facts.{flat_edge_row}
use Rattle.stl_laying.specs.Halves.{laid-6, laid-7, passed-space}
use borrow.Author.Rules.{rules}
use Rattle.stl_laying.proofs.lay_lower.Goals as goal

pub bounds-words-5 : goal.bounds-words-5
bounds-words-5 c = omega (arith, c.requires.lower.fins.long)

pub bounds-words-6 : goal.bounds-words-6
bounds-words-6 c = omega (arith, c.requires.lower.fins.long)

pub bounds-words-7 : goal.bounds-words-7
bounds-words-7 c = omega (arith, c.requires.lower.fins.long)

pub lay_fins-requires : goal.lay_fins-requires
lay_fins-requires c =
    let s = c in
    let l = s.requires.lower in
    record { space = l.fins; first_bound = (s.requires.first_bound, omega (arith, l.edges.slots, l.edges.few), l.corners); below = l.numbered }

pub lay_edges-requires : goal.lay_edges-requires
lay_edges-requires c =
    let s = c in
    let room = s.args.room.now in
    let w = s.args.words.now in
    let l = s.requires.lower in
    let fins = c.lay_fins in
    let p = laid-6 room w s.args.first s.args.n s.args.v s.args.e s.args.numbers.now s.args.edges.now s.args.ends.now l fins.new.words fins.ensures in
    let long = l.numbered.long in record { space = passed-space room 6 w fins.new.words 6 s.args.e p l.edges (omega arith); vertex_bound = (omega (arith, l.vertices.slots, l.vertices.few), omega (arith, l.fins.slots, l.fins.few), omega (arith, l.fins.slots, l.fins.few), long); below = l.ends; eight = l.eight }

pub lay_vertices-requires : goal.lay_vertices-requires
lay_vertices-requires c =
    let s = c in
    let room = s.args.room.now in
    let w = s.args.words.now in
    let l = s.requires.lower in
    let fins = c.lay_fins in
    let edges = c.lay_edges in
    let p = laid-6 room w s.args.first s.args.n s.args.v s.args.e s.args.numbers.now s.args.edges.now s.args.ends.now l fins.new.words fins.ensures in
    let q = laid-7 room w s.args.first s.args.n s.args.v s.args.e s.args.numbers.now s.args.edges.now s.args.ends.now l fins.new.words edges.new.words p edges.ensures in
    passed-space room 7 w edges.new.words 7 s.args.v q l.vertices (omega arith)

pub returns : goal.returns
returns c =
    let s = c in
    let room = s.args.room.now in
    let w = s.args.words.now in
    c.lay_vertices.ensures
    ∙ ap (words_behind room 7 vertex_row s.args.v)
    (c.lay_edges.ensures
    ∙ ap (words_behind room 6 (flat_edge_row (word w 7) (word w 5) s.args.n s.args.edges.now s.args.ends.now) s.args.e) c.lay_fins.ensures)
