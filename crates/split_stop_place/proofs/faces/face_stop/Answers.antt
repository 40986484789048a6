-- `split_stop_place::faces::face_stop` meets its contract. Assumes nothing.
use Rattle.split_stop_place.specs.FinRows.{face_told}
use Rattle.split_stop_parts.specs.Laws.{part-stops, part-passes}
use Rattle.memory_records.specs.Laws.{within, counts-there}
use Rattle.memory_layout.specs.Laws.{used-inside}
use Rattle.memory_layout.proofs.Laws.{words-length}
use Rattle.memory_layout.specs.Layout.{word}
use borrow.Author.Tests.{lt-ltb, le-ltb}
use lib.ListN.{length}
use lib.Dec.{ltb, lit<}
use mathlib.Core.Bool.{true, false}
use mathlib.Core.Path.{◌≡◌, sym, ap, ◌∙◌}
use native.Mathlib.Omega.{arith}
use Rattle.split_stop_place.proofs.faces.face_stop.Goals as goal

pub bounds-words-3 : goal.bounds-words-3
bounds-words-3 c = let s = c in let n = counts-there s.args.room.now s.args.words.now s.args.reals.now s.requires in omega arith

pub returns-then-words-face : goal.returns-then-words-face
unfolding face_told
returns-then-words-face c = let s = c in
    let e : ltb s.args.face (word s.args.words.now 3) ≡ false = le-ltb _ _ c.if-words-face.true in
    rw e (c.stop_at.ensures ∙ sym (part-stops 11 5 1 3 s.args.face 4 s.args.owner _))

pub words_of-w-requires : goal.words_of-w-requires
words_of-w-requires c = let s = c in record { small = s.requires.small; inside = (used-inside s.args.room.now s.args.words.now s.args.reals.now 3 s.args.face s.requires (lit< tt) c.if-words-face.false).0 }

pub bounds-w-4 : goal.bounds-w-4
bounds-w-4 c = let s = c in within 4 (ap length c.words_of-w.ensures ∙ words-length s.args.room.now s.args.words.now 3 s.args.face (used-inside s.args.room.now s.args.words.now s.args.reals.now 3 s.args.face s.requires (lit< tt) c.if-words-face.false).0) (lit< tt)

pub bounds-w-5 : goal.bounds-w-5
bounds-w-5 c = let s = c in within 5 (ap length c.words_of-w.ensures ∙ words-length s.args.room.now s.args.words.now 3 s.args.face (used-inside s.args.room.now s.args.words.now s.args.reals.now 3 s.args.face s.requires (lit< tt) c.if-words-face.false).0) (lit< tt)

pub surface_stop-requires : goal.surface_stop-requires
surface_stop-requires c = c.requires

pub returns : goal.returns
unfolding face_told
returns c = let s = c in
    let e : ltb s.args.face (word s.args.words.now 3) ≡ true = lt-ltb _ _ c.if-words-face.false in
    rw (e, c.first.ensures, c.surface_stop.ensures, c.stop_at-2.ensures, c.unless-named.ensures, c.words_of-w.ensures) (sym (part-passes 11 5 3 s.args.face 4 s.args.owner _))
