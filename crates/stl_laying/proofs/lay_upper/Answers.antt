-- `stl_laying::lay_upper` meets its contract: table after table. Assumes nothing.
use native.Mathlib.Omega.{arith}
use mathlib.Core.Path.{ap, ◌∙◌}
use Rattle.memory_layout.specs.Layout.{word}
use Rattle.stl_rows.specs.Rows.{words_behind, region_row, shell_row, face_row, loop_row}
use Rattle.stl_laying.specs.Halves.{laid-1, laid-2, laid-3, laid-4, passed-space}
use borrow.Author.Rules.{rules}
use Rattle.stl_laying.proofs.lay_upper.Goals as goal

pub bounds-words-0 : goal.bounds-words-0
bounds-words-0 c = omega (arith, c.requires.bodies.long)

pub bounds-words-1 : goal.bounds-words-1
bounds-words-1 c = omega (arith, c.requires.bodies.long)

pub bounds-words-2 : goal.bounds-words-2
bounds-words-2 c = omega (arith, c.requires.bodies.long)

pub bounds-words-3 : goal.bounds-words-3
bounds-words-3 c = omega (arith, c.requires.bodies.long)

pub bounds-words-4 : goal.bounds-words-4
bounds-words-4 c = omega (arith, c.requires.bodies.long)

pub bounds-words-5 : goal.bounds-words-5
bounds-words-5 c = omega (arith, c.requires.bodies.long)

pub lay_body-requires : goal.lay_body-requires
lay_body-requires c =
    let u = c.requires in
    record { space = u.bodies; region_bound = omega (arith, u.regions.slots, u.regions.few) }

pub lay_regions-requires : goal.lay_regions-requires
lay_regions-requires c =
    let s = c in
    let room = s.args.room.now in
    let w = s.args.words.now in
    let o = s.args.office in
    let n = s.args.n in
    let u = s.requires in
    let bodies = c.lay_body in
    let p1 = laid-1 room w o n u bodies.new.words bodies.ensures in
    record { space = passed-space room 1 w bodies.new.words 1 2 p1 u.regions (omega arith); shell_bound = omega (arith, u.shells.slots, u.shells.few) }

pub lay_shells-requires : goal.lay_shells-requires
lay_shells-requires c =
    let s = c in
    let room = s.args.room.now in
    let w = s.args.words.now in
    let o = s.args.office in
    let n = s.args.n in
    let u = s.requires in
    let bodies = c.lay_body in
    let regions = c.lay_regions in
    let p1 = laid-1 room w o n u bodies.new.words bodies.ensures in
    let p2 = laid-2 room w o n u bodies.new.words regions.new.words p1 regions.ensures in
    record { space = passed-space room 2 w regions.new.words 2 2 p2 u.shells (omega arith); region_bound = (omega (arith, u.regions.slots, u.regions.few), omega (arith, u.faces.slots, u.faces.few), u.shell) }

pub lay_faces-requires : goal.lay_faces-requires
lay_faces-requires c =
    let s = c in
    let room = s.args.room.now in
    let w = s.args.words.now in
    let o = s.args.office in
    let n = s.args.n in
    let u = s.requires in
    let bodies = c.lay_body in
    let regions = c.lay_regions in
    let shells = c.lay_shells in
    let p1 = laid-1 room w o n u bodies.new.words bodies.ensures in
    let p2 = laid-2 room w o n u bodies.new.words regions.new.words p1 regions.ensures in
    let p3 = laid-3 room w o n u regions.new.words shells.new.words p2 shells.ensures in
    record { space = passed-space room 3 w shells.new.words 3 n p3 u.faces (omega arith); shell_bound = (omega (arith, u.shells.slots, u.shells.few), omega (arith, u.loops.slots, u.loops.few)) }

pub lay_loops-requires : goal.lay_loops-requires
lay_loops-requires c =
    let s = c in
    let room = s.args.room.now in
    let w = s.args.words.now in
    let o = s.args.office in
    let n = s.args.n in
    let u = s.requires in
    let bodies = c.lay_body in
    let regions = c.lay_regions in
    let shells = c.lay_shells in
    let faces = c.lay_faces in
    let p1 = laid-1 room w o n u bodies.new.words bodies.ensures in
    let p2 = laid-2 room w o n u bodies.new.words regions.new.words p1 regions.ensures in
    let p3 = laid-3 room w o n u regions.new.words shells.new.words p2 shells.ensures in
    let p4 = laid-4 room w o n u shells.new.words faces.new.words p3 faces.ensures in
    record { space = passed-space room 4 w faces.new.words 4 n p4 u.loops (omega arith); face_bound = (omega (arith, u.faces.slots, u.faces.few), u.fins) }

pub returns : goal.returns
returns c =
    let s = c in
    let room = s.args.room.now in
    let w = s.args.words.now in
    let o = s.args.office in
    let n = s.args.n in
    c.lay_loops.ensures
    ∙ ap (words_behind room 4 (loop_row (word w 3) (word w 5)) n)
    (c.lay_faces.ensures
    ∙ ap (words_behind room 3 (face_row (word w 2) (word w 4)) n)
    (c.lay_shells.ensures
    ∙ ap (words_behind room 2 (shell_row (word w 1) (word w 3) n) 2)
    (c.lay_regions.ensures ∙ ap (words_behind room 1 (region_row (word w 0) (word w 2)) 2) c.lay_body.ensures)))
