-- `inquire_polyhedral::rims::face_there` meets its contract. Assumes nothing.
use native.Mathlib.Omega.{arith}
use mathlib.Core.Path.{◌≡◌, ap, ◌∙◌}
use mathlib.Core.Bool.{true, false}
use lib.Dec.{ltb}
use borrow.Author.Tests.{lt-ltb, le-ltb}
use Rattle.memory_layout.specs.Layout.{word}
use Rattle.memory_layout.specs.Laws.{lists_of}
use Rattle.memory_records.specs.Laws.{counts-there}
use Rattle.geom_lines_planes.specs.Refuse.{◌unless◌}
use Rattle.meaning.specs.Lists.{all}
use Rattle.walk_sources.specs.Sources.{followed}
use Rattle.inquire_polyhedral.specs.Tested.{face_there}
use Rattle.inquire_polyhedral.proofs.rims.face_there.Goals as goal

pub bounds-words-3 : goal.bounds-words-3
bounds-words-3 c = let s = c in let n = counts-there s.args.room.now s.args.words.now s.args.reals.now s.requires.sized in omega arith

pub returns-then-words-i : goal.returns-then-words-i
unfolding face_there
returns-then-words-i c =
    let s = c in
    let e : ltb s.args.i (word s.args.words.now 3) ≡ false = le-ltb _ _ c.if-words-i.true in
    rw e

pub list-loops-requires : goal.list-loops-requires
list-loops-requires c =
    let s = c in
    record { lists = lists_of s.args.room.now s.args.words.now s.args.reals.now s.requires; j_bound = (omega arith, c.if-words-i.false) }

pub all_followed-requires : goal.all_followed-requires
all_followed-requires c =
    let s = c in
    record { lists = lists_of s.args.room.now s.args.words.now s.args.reals.now s.requires; j_bound = omega arith }

pub returns : goal.returns
unfolding face_there
returns c =
    let s = c in
    let e : ltb s.args.i (word s.args.words.now 3) ≡ true = lt-ltb _ _ c.if-words-i.false in
    rw e (c.unless.ensures ∙ ap (λ t. 2 unless t) (c.all_followed.ensures ∙ ap (all (followed s.args.room.now s.args.words.now 6)) c.list-loops.ensures))
