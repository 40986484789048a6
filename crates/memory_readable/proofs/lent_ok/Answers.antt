-- `memory_readable::lent_ok` meets its contract: each way out is the first test that fails. Assumes nothing.
use mathlib.Core.Path.{◌≡◌, sym, ◌∙◌}
use mathlib.Core.Bool.{true, false, and-true}
use borrow.Author.Tests.{lt-leb, le-leb}
use lib.Dec.{leb}
use lib.ListN.{length}
use Rattle.meaning.specs.Lists.{every}
use Rattle.memory_layout.specs.Layout.{words_needed}
use Rattle.memory_layout.specs.Readable.{room_ok, lent_ok}
use Rattle.memory_layout.specs.Laws.{small_of}
use Rattle.memory_readable.proofs.lent_ok.Goals as goal

pub returns-then-not-room_ok : goal.returns-then-not-room_ok
unfolding lent_ok every
returns-then-not-room_ok c =
    let a : room_ok c.args.room.now ≡ false = sym c.room_ok.ensures ∙ c.if-not-room_ok.true in
    rw a

pub words_needed-requires : goal.words_needed-requires
words_needed-requires c = small_of c.args.room.now (sym c.room_ok.ensures ∙ c.if-not-room_ok.false)

pub returns-then-words-words_needed : goal.returns-then-words-words_needed
unfolding lent_ok every
returns-then-words-words_needed c =
    let s = c in
    let a : room_ok s.args.room.now ≡ true = sym c.room_ok.ensures ∙ c.if-not-room_ok.false in
    let w : leb (words_needed s.args.room.now) (length s.args.words.now) ≡ false = lt-leb _ _ (rw c.words_needed.ensures at c.if-words-words_needed.true) in
    rw (a, w)

pub reals_needed-requires : goal.reals_needed-requires
reals_needed-requires c = small_of c.args.room.now (sym c.room_ok.ensures ∙ c.if-not-room_ok.false)

pub returns : goal.returns
unfolding lent_ok every
returns c =
    let s = c in
    let a : room_ok s.args.room.now ≡ true = sym c.room_ok.ensures ∙ c.if-not-room_ok.false in
    let w : leb (words_needed s.args.room.now) (length s.args.words.now) ≡ true = le-leb _ _ (rw c.words_needed.ensures at c.if-words-words_needed.false) in
    rw (a, w, and-true, c.reals_needed.ensures)
