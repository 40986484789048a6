-- `stl_laying::lay` meets its contract: the upper tables, the lower ones, the floats; and the lists are the mesh. Assumes nothing.
use native.Mathlib.Omega.{arith}
use mathlib.Core.Path.{ap, ◌∙◌}
use Rattle.memory_layout.specs.Layout.{word}
use Rattle.stl_rows.specs.Rows.{reals_behind}
use Rattle.stl_rows.specs.Facts.{flat_vertex_floats}
use Rattle.stl_laying.specs.Halves.{upper-passed, lower-stays}
use Rattle.stl_laying.specs.Ties.{words-read, reals-read}
use borrow.Author.Rules.{rules}
use Rattle.stl_laying.proofs.lay.Goals as goal

pub bounds-words-4 : goal.bounds-words-4
bounds-words-4 c = omega (arith, c.requires.upper.bodies.long)

pub bounds-words-6 : goal.bounds-words-6
bounds-words-6 c = omega (arith, c.requires.upper.bodies.long)

pub overflow_cast-edge : goal.overflow_cast-edge
overflow_cast-edge c = let l = c.requires.lower in omega (arith, l.edges.slots, l.edges.few)

pub bounds-words-7 : goal.bounds-words-7
bounds-words-7 c = omega (arith, c.requires.upper.bodies.long)

pub overflow_cast-vertex : goal.overflow_cast-vertex
overflow_cast-vertex c = let l = c.requires.lower in omega (arith, l.vertices.slots, l.vertices.few)

pub lay_upper-requires : goal.lay_upper-requires
lay_upper-requires c = c.requires.upper

pub lay_lower-requires : goal.lay_lower-requires
lay_lower-requires c =
    let s = c in
    let upper = c.lay_upper in
    let room = s.args.room.now in
    let w = s.args.words.now in
    let p = upper-passed room w s.args.office s.args.n s.requires.upper upper.new.words upper.ensures in
    let loops = s.requires.upper.loops in
    record { lower = lower-stays room w upper.new.words s.args.n s.args.v s.args.e s.args.numbers.now s.args.edges.now s.args.ends.now p s.requires.lower; first_bound = omega (arith, loops.slots, loops.few) }

pub lay_tolerances-requires : goal.lay_tolerances-requires
lay_tolerances-requires c = c.requires.tolerances

pub lay_points-requires : goal.lay_points-requires
lay_points-requires c =
    let s = c in
    let f = s.requires.places in
    let long = c.lay_tolerances.auto.reals in
    record { float_space = record { small = f.small; reals = rw long f.reals; table = f.table; slots = f.slots; few = f.few }; v_in_bounds = s.requires.floats }

pub returns : goal.returns
returns c =
    let s = c in
    let room = s.args.room.now in
    let w = s.args.words.now in
    let x = s.args.reals.now in
    let n = s.args.n in
    let upper = c.lay_upper in
    let p = upper-passed room w s.args.office n s.requires.upper upper.new.words upper.ensures in record {
      tables = λ t f. c.lay_lower.ensures ∙ words-read t n s.args.v s.args.e s.args.numbers.now s.args.points.now s.args.edges.now s.args.ends.now f room w s.args.office upper.new.words upper.ensures p;
      floats = λ t f. c.lay_points.ensures
          ∙ ap (reals_behind room 7 (word w 7) (flat_vertex_floats s.args.points.now) s.args.v) c.lay_tolerances.ensures
          ∙ reals-read t n s.args.v s.args.e s.args.numbers.now s.args.points.now s.args.edges.now s.args.ends.now f room w s.args.office x;
    }
