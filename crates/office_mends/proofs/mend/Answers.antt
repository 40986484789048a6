-- `office_mends::mend` meets its contract: by whether there is that office. Assumes nothing.
use native.Mathlib.Omega.{arith}
use mathlib.Core.Path.{◌∙◌}
use Rattle.mend_body.specs.Laws.{list-long, words_long}
use Rattle.office_mends.specs.Laws.{number-there, count-there, list-there, words-there, number-above, count-above, list-above, words-above}
use borrow.Author.Rules.{rules}
use Rattle.office_mends.proofs.mend.Goals as goal

pub returns-then-office-gt1 : goal.returns-then-office-gt1
returns-then-office-gt1 c =
    let s = c in
    let h = c.if-office-gt1.true in
    record { refused = number-above s.args.room.now s.args.words.now s.args.reals.now s.args.office s.args.body s.args.marks.now s.args.nums.now h _ c.unknown_tag.ensures; changes = count-above s.args.room.now s.args.words.now s.args.reals.now s.args.office s.args.body s.args.marks.now s.args.nums.now h; list = list-above s.args.room.now s.args.words.now s.args.reals.now s.args.office s.args.body s.args.marks.now s.args.nums.now h; tables = words-above s.args.room.now s.args.words.now s.args.reals.now s.args.office s.args.body s.args.marks.now s.args.nums.now h; marks = c.clear.ensures }

pub shape_of-words : goal.shape_of-words
shape_of-words c = let s = c in omega (arith, words_long s.args.room.now s.args.words.now s.args.reals.now _ s.args.marks.now s.args.nums.now _ c.mend.ensures.tables)

pub shape_of-nums : goal.shape_of-nums
shape_of-nums c = let s = c in omega (arith, list-long s.args.room.now s.args.words.now s.args.reals.now _ s.args.marks.now s.args.nums.now _ c.mend.ensures.list)

pub returns : goal.returns
returns c =
    let s = c in
    let r = c.mend.ensures in
    let e = c.body_for-seen.ensures s.args.room.now s.args.reals.now in
    let h = c.if-office-gt1.false in
    record { refused = r.refused ∙ number-there s.args.room.now s.args.words.now s.args.reals.now s.args.office s.args.body s.args.marks.now s.args.nums.now _ e h; changes = r.changes ∙ count-there s.args.room.now s.args.words.now s.args.reals.now s.args.office s.args.body s.args.marks.now s.args.nums.now _ e h; list = r.list ∙ list-there s.args.room.now s.args.words.now s.args.reals.now s.args.office s.args.body s.args.marks.now s.args.nums.now _ e h; tables = r.tables ∙ words-there s.args.room.now s.args.words.now s.args.reals.now s.args.office s.args.body s.args.marks.now s.args.nums.now _ e h; marks = r.marks }
