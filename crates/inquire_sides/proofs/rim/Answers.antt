-- `inquire_sides::rim` meets its contract. Assumes nothing.
use native.Mathlib.Omega.{arith}
use mathlib.Core.Path.{ap, ◌∙◌}
use lib.ListN.{length}
use Rattle.memory_layout.specs.Layout.{word}
use Rattle.memory_layout.specs.Entries.{list_of}
use Rattle.inquire_sides.specs.Sides.{rim_of}
use Rattle.inquire_sides.specs.Laws.{face-there, loop-there}
use Rattle.inquire_sides.proofs.rim.Goals as goal

pub list-loops-requires : goal.list-loops-requires
list-loops-requires c =
    let s = c in
    record { lists = s.requires.lists; j_bound = (omega arith, face-there s.args.room.now s.args.words.now s.args.face s.requires.face_value) }

pub bounds-loops-0 : goal.bounds-loops-0
bounds-loops-0 c =
    let s = c in
    let one = s.requires.face_len in
    omega (arith, ap length c.list-loops.ensures)

pub list-requires : goal.list-requires
list-requires c =
    let s = c in
    rw c.list-loops.ensures record { lists = s.requires.lists; j_bound = (omega arith, loop-there s.args.room.now s.args.words.now s.args.face s.requires.face_value s.requires.face_len) }

pub returns : goal.returns
unfolding rim_of
returns c =
    let s = c in
    c.list.ensures ∙ ap (λ l. list_of s.args.room.now s.args.words.now 6 (word l 0)) c.list-loops.ensures
