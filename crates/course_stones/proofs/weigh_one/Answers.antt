-- `course_stones::weigh_one` meets its contract. Assumes nothing.
use mathlib.Core.Path.{◌≡◌, refl, sym, ap, ◌∙◌}
use Rattle.inquire_stone.specs.declared.Stone.{Stone}
use Rattle.inquire_stone.specs.Answers.{stone_answer}
use Rattle.course_stones.specs.Sums.{stone_for}
use Rattle.course_stones.specs.Weighing.{left_out, put_in}
use Rattle.course_stones.proofs.weigh_one.Goals as goal

pub returns-then-not-wanted : goal.returns-then-not-wanted
returns-then-not-wanted c =
    let s = c in
    let e = c.if-not-wanted.true in
    record { numbers = left_out s.args.wanted s.args.b (stone_for s.args.room.now s.args.words.now s.args.reals.now s.args.office s.args.faces.now s.args.b).refused s.args.refused.now e; above = left_out s.args.wanted s.args.b (stone_for s.args.room.now s.args.words.now s.args.reals.now s.args.office s.args.faces.now s.args.b).plus s.args.plus.now e; below = left_out s.args.wanted s.args.b (stone_for s.args.room.now s.args.words.now s.args.reals.now s.args.office s.args.faces.now s.args.b).minus s.args.minus.now e; faces = refl }

pub returns : goal.returns
returns c =
    let s = c in
    let e = c.if-not-wanted.false in
    let stone = c.body_stone-stone.ensures in
    let same : c.body_stone-stone.result ≡ stone_for s.args.room.now s.args.words.now s.args.reals.now s.args.office s.args.faces.now s.args.b = stone.answer ∙ ap (λ i. stone_answer s.args.room.now s.args.words.now s.args.reals.now i s.args.faces.now) (c.body_for-seen.ensures s.args.room.now s.args.reals.now) in
    record { numbers = put_in s.args.wanted s.args.b _ (stone_for s.args.room.now s.args.words.now s.args.reals.now s.args.office s.args.faces.now s.args.b).refused s.args.refused.now e (ap (λ (t : Stone). t.refused) same); above = put_in s.args.wanted s.args.b _ (stone_for s.args.room.now s.args.words.now s.args.reals.now s.args.office s.args.faces.now s.args.b).plus s.args.plus.now e (ap (λ (t : Stone). t.plus) same); below = put_in s.args.wanted s.args.b _ (stone_for s.args.room.now s.args.words.now s.args.reals.now s.args.office s.args.faces.now s.args.b).minus s.args.minus.now e (ap (λ (t : Stone). t.minus) same); faces = stone.faces ∙ sym s.requires.faces_value }
