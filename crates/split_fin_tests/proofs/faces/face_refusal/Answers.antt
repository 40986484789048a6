-- `split_fin_tests::faces::face_refusal` meets its contract. Assumes nothing.
use native.Mathlib.Omega.{arith}
use mathlib.Core.Path.{◌≡◌, ap, ◌∙◌}
use mathlib.Core.Bool.{true, false}
use lib.Dec.{ltb}
use lib.ListN.{length}
use borrow.Author.Tests.{lt-ltb, le-ltb}
use Rattle.memory_layout.specs.Layout.{word}
use Rattle.memory_layout.specs.Laws.{used-inside}
use Rattle.memory_layout.proofs.Laws.{words-length}
use Rattle.memory_records.specs.Laws.{counts-there}
use Rattle.split_fin_tests.specs.FaceTests.{face_test}
use borrow.Author.Rules.{rules}
use Rattle.split_fin_tests.proofs.faces.face_refusal.Goals as goal

pub bounds-words-3 : goal.bounds-words-3
bounds-words-3 c = let s = c in let n = counts-there s.args.room.now s.args.words.now s.args.reals.now s.requires in omega arith

pub returns-then-words-face : goal.returns-then-words-face
unfolding face_test
returns-then-words-face c =
    let s = c in
    let e : ltb s.args.face (word s.args.words.now 3) ≡ false = le-ltb _ _ c.if-words-face.true in
    rw e

pub words_of-w-requires : goal.words_of-w-requires
words_of-w-requires c =
    let s = c in
    record { small = s.requires.small; inside = (used-inside s.args.room.now s.args.words.now s.args.reals.now 3 s.args.face s.requires (search rules) c.if-words-face.false).0 }

pub bounds-w-5 : goal.bounds-w-5
bounds-w-5 c =
    let s = c in
    let l : length c.words_of-w.result.now ≡ 24 = ap length c.words_of-w.ensures ∙ words-length s.args.room.now s.args.words.now 3 s.args.face (used-inside s.args.room.now s.args.words.now s.args.reals.now 3 s.args.face s.requires (search rules) c.if-words-face.false).0 in
    omega arith

pub bounds-w-4 : goal.bounds-w-4
bounds-w-4 c =
    let s = c in
    let l : length c.words_of-w.result.now ≡ 24 = ap length c.words_of-w.ensures ∙ words-length s.args.room.now s.args.words.now 3 s.args.face (used-inside s.args.room.now s.args.words.now s.args.reals.now 3 s.args.face s.requires (search rules) c.if-words-face.false).0 in
    omega arith

pub returns : goal.returns
unfolding face_test
returns c =
    let s = c in
    let e : ltb s.args.face (word s.args.words.now 3) ≡ true = lt-ltb _ _ c.if-words-face.false in
    rw (e, ← c.words_of-w.ensures, c.then.ensures, c.unless.ensures, c.plane_refusal-plane.ensures, c.surface_found.ensures)
