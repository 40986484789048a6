-- `mend_body::mend_changes` meets its contract: a refusal writes nothing, else the walk writes the list. Assumes nothing.
use native.Mathlib.Omega.{arith}
use native.Mathlib.Nat.{div-add-mod'}
use mathlib.Core.Path.{◌≡◌, refl, sym, ap, ◌∙◌, subst}
use mathlib.Core.Bool.{true}
use Prim.Native.Nat.{◌/◌, ◌<◌}
use lib.ListN.{length, replicate, length-replicate}
use Rattle.memory_writes.specs.Kept.{refused-keeps}
use Rattle.walk_answers.specs.Laws.{zeros-on, zeros-same}
use Rattle.mend_body.specs.Answers.{mend_number, mend_count, mend_list}
use Rattle.mend_body.specs.Laws.{there-any, accepted, count-told, list-told}
use borrow.Author.Rules.{rules}
use Rattle.mend_body.proofs.mend_changes.Goals as goal

pub returns-then-n-ne0 : goal.returns-then-n-ne0
unfolding mend_count mend_list
returns-then-n-ne0 c =
    let r = c.refusal-n.ensures in
    let n = c.refusal-n.result in
    record { refused = r.number; changes = rw (← r.number) (refused-keeps n _ _ c.if-n-ne0.true); list = rw (← r.number) (refused-keeps n _ _ c.if-n-ne0.true); marks = r.marks }

pub body_walk-count-requires : goal.body_walk-count-requires
body_walk-count-requires c =
    let s = c in
    let z : mend_number s.args.room.now s.args.words.now s.args.reals.now s.args.body s.args.marks.now s.args.nums.now ≡ 0 = sym c.refusal-n.ensures.number ∙ c.if-n-ne0.false in
    let o = accepted s.args.room.now s.args.words.now s.args.reals.now s.args.body s.args.marks.now s.args.nums.now z in
    record { ready = record { lists = o.lists; marks = omega (arith, o.long, simp length-replicate at (ap length c.refusal-n.ensures.marks)) }; body_value = sym (there-any s.args.room.now s.args.words.now s.args.reals.now s.args.body) ∙ o.there }

pub shape_of-marks : goal.shape_of-marks
shape_of-marks c = omega (arith, c.body_walk-count.ensures.long)

pub shape_of-nums : goal.shape_of-nums
shape_of-nums c = omega (arith, simp length-replicate at (ap length c.clear.ensures), c.body_walk-count.ensures.marks, simp length-replicate at (ap length c.refusal-n.ensures.marks))

pub returns : goal.returns
returns c =
    let s = c in
    let r = c.refusal-n.ensures in
    let z : mend_number s.args.room.now s.args.words.now s.args.reals.now s.args.body s.args.marks.now s.args.nums.now ≡ 0 = sym r.number ∙ c.if-n-ne0.false in
    let p = c.body_walk-count.ensures in
    let few : length s.args.nums.now / 6 < 4611686018427387904 = omega (arith, div-add-mod' (length s.args.nums.now) 6) in
    record { refused = sym z; changes = count-told s.args.room.now s.args.words.now s.args.reals.now s.args.body s.args.marks.now s.args.nums.now z few _ _ _ _ (simp length-replicate at (ap length r.marks)) (zeros-same s.args.marks.now _ r.marks) p; list = list-told s.args.room.now s.args.words.now s.args.reals.now s.args.body s.args.marks.now s.args.nums.now z few _ _ _ _ (simp length-replicate at (ap length r.marks)) (zeros-same s.args.marks.now _ r.marks) p; marks = c.clear.ensures ∙ ap (λ n. replicate n 0) (p.marks ∙ (simp length-replicate at (ap length r.marks))) }
