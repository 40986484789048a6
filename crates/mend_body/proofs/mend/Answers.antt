-- `mend_body::mend` meets its contract: what is listed is applied. Assumes nothing.
use native.Mathlib.Omega.{arith}
use native.Mathlib.Nat.{div-add-mod'}
use mathlib.Core.Path.{◌≡◌, refl, sym, ap, ◌∙◌, subst}
use mathlib.Core.List.{List}
use Prim.Native.Nat.{ℕ}
use lib.ListN.{length, length-replicate}
use lib.Seq.{length-take-le}
use Rattle.memory_writes.specs.Kept.{refused-keeps}
use Rattle.mend_writes.specs.Facts.{Appliable}
use Rattle.mend_effects.specs.Statements.{as_long}
use Rattle.mend_effects.proofs.Statements.{mending-applies}
use Rattle.mend_body.specs.Answers.{changes_on, mend_number, mend_words}
use Rattle.mend_body.specs.Laws.{accepted, list-long, count-in, part}
use borrow.Author.Rules.{rules}
use Rattle.mend_body.proofs.mend.Goals as goal

pub shape_of-marks-then-r-ne0 : goal.shape_of-marks-then-r-ne0
shape_of-marks-then-r-ne0 c =
    let s = c in
    let r = c.mend_changes-r.ensures in
    omega (arith, simp length-replicate at (ap length r.marks))

pub shape_of-nums-then-r-ne0 : goal.shape_of-nums-then-r-ne0
shape_of-nums-then-r-ne0 c =
    let s = c in
    let r = c.mend_changes-r.ensures in
    omega (arith, list-long s.args.room.now s.args.words.now s.args.reals.now s.args.body s.args.marks.now s.args.nums.now _ r.list)

pub returns-then-r-ne0 : goal.returns-then-r-ne0
unfolding mend_words
returns-then-r-ne0 c =
    let s = c in
    let r = c.mend_changes-r.ensures in
    record { refused = r.refused; changes = r.changes; list = r.list; tables = rw (← r.refused) (refused-keeps c.mend_changes-r.result.refused _ _ c.if-r-ne0.true); marks = r.marks }

pub overflow_mul-end : goal.overflow_mul-end
overflow_mul-end c =
    let s = c in
    let r = c.mend_changes-r.ensures in
    let z : mend_number s.args.room.now s.args.words.now s.args.reals.now s.args.body s.args.marks.now s.args.nums.now ≡ 0 = sym r.refused ∙ c.if-r-ne0.false in
    omega (arith, count-in s.args.room.now s.args.words.now s.args.reals.now s.args.body s.args.marks.now s.args.nums.now z _ r.changes)

pub slice_bounds-apply-end : goal.slice_bounds-apply-end
slice_bounds-apply-end c =
    let s = c in
    let r = c.mend_changes-r.ensures in
    let z : mend_number s.args.room.now s.args.words.now s.args.reals.now s.args.body s.args.marks.now s.args.nums.now ≡ 0 = sym r.refused ∙ c.if-r-ne0.false in
    omega (arith, count-in s.args.room.now s.args.words.now s.args.reals.now s.args.body s.args.marks.now s.args.nums.now z _ r.changes, list-long s.args.room.now s.args.words.now s.args.reals.now s.args.body s.args.marks.now s.args.nums.now _ r.list)

pub slice_bounds-apply-end-2 : goal.slice_bounds-apply-end-2
slice_bounds-apply-end-2 c =
    let s = c in
    let r = c.mend_changes-r.ensures in
    let z : mend_number s.args.room.now s.args.words.now s.args.reals.now s.args.body s.args.marks.now s.args.nums.now ≡ 0 = sym r.refused ∙ c.if-r-ne0.false in
    sym (length-take-le _ _ (omega (arith, count-in s.args.room.now s.args.words.now s.args.reals.now s.args.body s.args.marks.now s.args.nums.now z _ r.changes, list-long s.args.room.now s.args.words.now s.args.reals.now s.args.body s.args.marks.now s.args.nums.now _ r.list)))

pub apply-requires : goal.apply-requires
apply-requires c =
    let s = c in
    let r = c.mend_changes-r.ensures in
    let z : mend_number s.args.room.now s.args.words.now s.args.reals.now s.args.body s.args.marks.now s.args.nums.now ≡ 0 = sym r.refused ∙ c.if-r-ne0.false in
    let o = accepted s.args.room.now s.args.words.now s.args.reals.now s.args.body s.args.marks.now s.args.nums.now z in
    subst (λ (l : List ℕ). Appliable s.args.room.now s.args.words.now l) (sym (part s.args.room.now s.args.words.now s.args.reals.now s.args.body s.args.marks.now s.args.nums.now z _ r.changes _ r.list))
    (mending-applies s.args.room.now s.args.words.now s.args.reals.now o.reads s.args.body _ o.refusal)

pub shape_of-words : goal.shape_of-words
shape_of-words c =
    let s = c in
    let r = c.mend_changes-r.ensures in
    let z : mend_number s.args.room.now s.args.words.now s.args.reals.now s.args.body s.args.marks.now s.args.nums.now ≡ 0 = sym r.refused ∙ c.if-r-ne0.false in
    omega (arith, ap length (c.apply.ensures (changes_on s.args.room.now s.args.words.now s.args.reals.now s.args.body) (part s.args.room.now s.args.words.now s.args.reals.now s.args.body s.args.marks.now s.args.nums.now z _ r.changes _ r.list)), as_long s.args.room.now s.args.words.now (changes_on s.args.room.now s.args.words.now s.args.reals.now s.args.body))

pub shape_of-marks : goal.shape_of-marks
shape_of-marks c =
    let s = c in
    let r = c.mend_changes-r.ensures in
    omega (arith, simp length-replicate at (ap length r.marks))

pub shape_of-nums : goal.shape_of-nums
shape_of-nums c =
    let s = c in
    let r = c.mend_changes-r.ensures in
    omega (arith, list-long s.args.room.now s.args.words.now s.args.reals.now s.args.body s.args.marks.now s.args.nums.now _ r.list)

pub returns : goal.returns
unfolding mend_words
returns c =
    let s = c in
    let r = c.mend_changes-r.ensures in
    let z : mend_number s.args.room.now s.args.words.now s.args.reals.now s.args.body s.args.marks.now s.args.nums.now ≡ 0 = sym r.refused ∙ c.if-r-ne0.false in
    let made = c.apply.ensures (changes_on s.args.room.now s.args.words.now s.args.reals.now s.args.body) (part s.args.room.now s.args.words.now s.args.reals.now s.args.body s.args.marks.now s.args.nums.now z _ r.changes _ r.list) in
    record { refused = r.refused; changes = r.changes; list = r.list; tables = rw z made; marks = r.marks }
