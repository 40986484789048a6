-- `walk_paths::body_followed` meets its contract. Assumes nothing.
use mathlib.Core.Path.{◌≡◌, ap, ◌∙◌}
use mathlib.Core.Bool.{false, true}
use native.Mathlib.Omega.{arith}
use borrow.Author.Tests.{le-ltb, lt-ltb}
use lib.Dec.{ltb}
use Rattle.meaning.specs.Lists.{all}
use Rattle.memory_layout.specs.Layout.{word}
use Rattle.walk_sources.specs.Laws.{used-words}
use Rattle.walk_paths.specs.Paths.{body_followed}
use Rattle.walk_paths.proofs.body_followed.Goals as goal

pub bounds-words-0 : goal.bounds-words-0
bounds-words-0 c = used-words c.args.room.now c.args.words.now 0 c.requires (omega arith)

pub returns-then-words-body : goal.returns-then-words-body
unfolding body_followed
returns-then-words-body c =
    let s = c in
    let e : ltb s.args.body (word s.args.words.now 0) ≡ false = le-ltb s.args.body (word s.args.words.now 0) c.if-words-body.true in
    rw e

pub returns : goal.returns
unfolding body_followed
returns c =
    let s = c in
    let e : ltb s.args.body (word s.args.words.now 0) ≡ true = lt-ltb s.args.body (word s.args.words.now 0) c.if-words-body.false in
    rw e (c.all_followed.ensures ∙ ap (all _) c.list.ensures)
