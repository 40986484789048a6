-- `split_fins::face_of` meets its contract. Assumes nothing.
use native.Mathlib.Omega.{arith}
use borrow.Author.Rules.{rules}
use mathlib.Core.Path.{◌≡◌, ap}
use lib.ListN.{length}
use Rattle.memory_layout.specs.Layout.{word}
use Rattle.memory_records.specs.Laws.{words-whole}
use Rattle.memory_layout.specs.Laws.{words_inside}
use Rattle.split_fins.proofs.face_of.Goals as goal

pub words_of-w-requires : goal.words_of-w-requires
words_of-w-requires c =
    let s = c in
    record { small = s.requires.lists.small; inside = words_inside s.args.room.now s.args.words.now 4 s.args.owner s.requires.lists (search rules) s.requires.owner_bound }

pub bounds-w-0 : goal.bounds-w-0
bounds-w-0 c =
    let s = c in
    let n : length c.words_of-w.result.now ≡ 1026 = words-whole s.args.room.now s.args.words.now c.words_of-w.result.now 4 s.args.owner c.words_of-w.ensures (words_inside s.args.room.now s.args.words.now 4 s.args.owner s.requires.lists (search rules) s.requires.owner_bound) in
    omega arith

pub returns : goal.returns
returns c = ap (λ l. word l 0) c.words_of-w.ensures
