-- `stl_reader::lay_where_room` meets its contract: a refusal writes nothing. Assumes nothing.
use Prim.Native.Nat.{◌*◌}
use native.Mathlib.Omega.{arith}
use mathlib.Core.Path.{◌≡◌, refl, sym, ap₂, ◌∙◌}
use mathlib.Core.Bool.{true, false, ◌&&◌}
use lib.ListN.{take}
use borrow.Author.Tests.{not-true, not-false}
use Rattle.meaning.specs.Lists.{all_below}
use Rattle.memory_layout.specs.Layout.{word_strides}
use Rattle.memory_layout.specs.Decode.{decode}
use Rattle.memory_layout.specs.Laws.{before-tables}
use Rattle.memory_layout.specs.Limits.{limits}
use Rattle.stl_body.specs.Read.{has_room}
use Rattle.stl_numbers.specs.Numbered.{few}
use Rattle.stl_reading_effects.specs.Room.{ready}
use Rattle.stl_reader.specs.Facts.{tables_fit}
use Rattle.stl_reader.specs.Laws.{room-flat, laid-not, laid-there}
use borrow.Author.Rules.{rules}
use Rattle.stl_reader.proofs.lay_where_room.Goals as goal

pub tables_fit-tables-requires : goal.tables_fit-tables-requires
tables_fit-tables-requires c =
    let s = c in
    let room = s.args.room.now in
    let w = s.args.words.now in
    let x = s.args.reals.now in
    let n = s.args.n in
    let v = s.args.v in
    let e = s.args.e in
    let m = s.requires.meshed in
    let few-points = m.ranged.few-points in
    let few-edges = m.ranged.few-edges in
    let how = m.flat.triangles in
    let points = m.flat.points in
    let edges = m.flat.edges in
    let few = m.few in
    let l = s.requires.fit.sized.words in
    let b = before-tables 11 word_strides room 10 in
    record { in_bounds = omega arith; n_bound = (omega arith, omega arith, omega arith) }

pub overflow_mul-n : goal.overflow_mul-n
overflow_mul-n c =
    let s = c in
    let room = s.args.room.now in
    let w = s.args.words.now in
    let x = s.args.reals.now in
    let n = s.args.n in
    let v = s.args.v in
    let e = s.args.e in
    let m = s.requires.meshed in
    let few-points = m.ranged.few-points in
    let few-edges = m.ranged.few-edges in
    let how = m.flat.triangles in
    let points = m.flat.points in
    let edges = m.flat.edges in
    let few = m.few in
    omega arith

pub edges_fit-lists-requires : goal.edges_fit-lists-requires
edges_fit-lists-requires c =
    let s = c in
    let room = s.args.room.now in
    let w = s.args.words.now in
    let x = s.args.reals.now in
    let n = s.args.n in
    let v = s.args.v in
    let e = s.args.e in
    let m = s.requires.meshed in
    let few-points = m.ranged.few-points in
    let few-edges = m.ranged.few-edges in
    let how = m.flat.triangles in
    let points = m.flat.points in
    let edges = m.flat.edges in
    let few = m.few in
    let long = m.flat.held.edges-long in
    omega arith

pub returns-then-not-tables-lists : goal.returns-then-not-tables-lists
returns-then-not-tables-lists c =
    let s = c in
    let room = s.args.room.now in
    let w = s.args.words.now in
    let x = s.args.reals.now in
    let n = s.args.n in
    let v = s.args.v in
    let e = s.args.e in
    λ t f. laid-not room w x s.args.office t (room-flat room w x t n v e s.args.numbers.now s.args.points.now s.args.edges.now s.args.ends.now f s.requires.meshed.few ∙ sym (ap₂ ◌&&◌ c.tables_fit-tables.ensures c.edges_fit-lists.ensures) ∙ c.if-not-tables-lists.true)

pub bounds-words-0 : goal.bounds-words-0
bounds-words-0 c =
    let s = c in
    let room = s.args.room.now in
    let w = s.args.words.now in
    let x = s.args.reals.now in
    let n = s.args.n in
    let v = s.args.v in
    let e = s.args.e in
    let l = s.requires.fit.sized.words in
    let b = before-tables 11 word_strides room 10 in
    omega arith

pub lay-requires : goal.lay-requires
lay-requires c =
    let s = c in
    let room = s.args.room.now in
    let w = s.args.words.now in
    let x = s.args.reals.now in
    let n = s.args.n in
    let v = s.args.v in
    let e = s.args.e in
    let m = s.requires.meshed in
    ready room w x m.mesh (room-flat room w x m.mesh n v e s.args.numbers.now s.args.points.now s.args.edges.now s.args.ends.now m.flat s.requires.meshed.few ∙ sym (ap₂ ◌&&◌ c.tables_fit-tables.ensures c.edges_fit-lists.ensures) ∙ c.if-not-tables-lists.false) s.requires.fit n v e s.args.numbers.now s.args.points.now s.args.edges.now s.args.ends.now m.ranged m.flat

pub returns : goal.returns
returns c =
    let s = c in
    let room = s.args.room.now in
    let w = s.args.words.now in
    let x = s.args.reals.now in
    let n = s.args.n in
    let v = s.args.v in
    let e = s.args.e in
    λ t f. laid-there room w x s.args.office t _ _ (room-flat room w x t n v e s.args.numbers.now s.args.points.now s.args.edges.now s.args.ends.now f s.requires.meshed.few ∙ sym (ap₂ ◌&&◌ c.tables_fit-tables.ensures c.edges_fit-lists.ensures) ∙ c.if-not-tables-lists.false) (c.lay.ensures.tables t f) (c.lay.ensures.floats t f)
