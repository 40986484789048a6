-- `stl_mesh_rows::lower::lay_triangle` meets its contract: three records. Assumes nothing.
use Prim.Native.Nat.{◌+◌}
use native.Mathlib.Omega.{arith}
use Rattle.stl_rows.specs.Facts.{corner_row}
use Rattle.stl_rows.specs.Laws.{grown-none, grown-space}
use Rattle.stl_mesh_rows.specs.Flats.{first-fin, second-fin, third-fin}
use Rattle.stl_mesh_rows.proofs.lower.lay_triangle.Goals as goal

pub bounds-edges-at : goal.bounds-edges-at
bounds-edges-at c = let b = c.requires.below.long in omega arith

pub overflow_add-edge : goal.overflow_add-edge
overflow_add-edge c =
    let s = c in
    let b = s.requires.below.below s.args.at (omega arith) in
    record { fits = omega arith }

pub append_fin-requires : goal.append_fin-requires
append_fin-requires c =
    let s = c in
    let room = s.args.room.now in
    let w = s.args.words.now in
    let row = corner_row s.args.owner s.args.edge s.args.numbers.now s.args.edges.now s.args.at in
    grown-space room 5 row w 3 0 w s.requires.space (grown-none room 5 row w) (omega arith)

pub bounds-edges-at-2 : goal.bounds-edges-at-2
bounds-edges-at-2 c = let b = c.requires.below.long in omega arith

pub overflow_add-edge-2 : goal.overflow_add-edge-2
overflow_add-edge-2 c =
    let s = c in
    let b = s.requires.below.below (s.args.at + 1) (omega arith) in
    record { fits = omega arith }

pub append_fin-requires-2 : goal.append_fin-requires-2
append_fin-requires-2 c =
    let s = c in
    let room = s.args.room.now in
    let w = s.args.words.now in
    let row = corner_row s.args.owner s.args.edge s.args.numbers.now s.args.edges.now s.args.at in
    let one = c.append_fin in
    let first = first-fin room w s.args.owner s.args.edge s.args.numbers.now s.args.edges.now s.args.at s.requires.space one.new.words one.ensures in
    grown-space room 5 row w 3 1 one.new.words s.requires.space first (omega arith)

pub bounds-edges-at-3 : goal.bounds-edges-at-3
bounds-edges-at-3 c = let b = c.requires.below.long in omega arith

pub overflow_add-edge-3 : goal.overflow_add-edge-3
overflow_add-edge-3 c =
    let s = c in
    let b = s.requires.below.below (s.args.at + 2) (omega arith) in
    record { fits = omega arith }

pub append_fin-requires-3 : goal.append_fin-requires-3
append_fin-requires-3 c =
    let s = c in
    let room = s.args.room.now in
    let w = s.args.words.now in
    let row = corner_row s.args.owner s.args.edge s.args.numbers.now s.args.edges.now s.args.at in
    let one = c.append_fin in
    let two = c.append_fin-2 in
    let first = first-fin room w s.args.owner s.args.edge s.args.numbers.now s.args.edges.now s.args.at s.requires.space one.new.words one.ensures in
    let second = second-fin room w s.args.owner s.args.edge s.args.numbers.now s.args.edges.now s.args.at s.requires.space one.new.words two.new.words first two.ensures in
    grown-space room 5 row w 3 2 two.new.words s.requires.space second (omega arith)

pub returns : goal.returns
returns c =
    let s = c in
    let room = s.args.room.now in
    let w = s.args.words.now in
    let one = c.append_fin in
    let two = c.append_fin-2 in
    let three = c.append_fin-3 in
    let first = first-fin room w s.args.owner s.args.edge s.args.numbers.now s.args.edges.now s.args.at s.requires.space one.new.words one.ensures in
    let second = second-fin room w s.args.owner s.args.edge s.args.numbers.now s.args.edges.now s.args.at s.requires.space one.new.words two.new.words first two.ensures in
    (third-fin room w s.args.owner s.args.edge s.args.numbers.now s.args.edges.now s.args.at s.requires.space two.new.words three.new.words second three.ensures).words
