-- `mend_body::refusal` meets its contract: by the tests in order. Assumes nothing.
use native.Mathlib.Omega.{arith}
use native.Mathlib.Nat.{div-add-mod'}
use mathlib.Core.Path.{◌≡◌, refl, sym, ap, ◌∙◌}
use lib.ListN.{length, replicate, length-replicate}
use borrow.Author.Tests.{le-leb, lt-leb, not-true, not-false}
use Rattle.memory_layout.specs.Laws.{fit_of, lists_of}
use Rattle.walk_answers.specs.Laws.{zeros-on, zeros-same}
use Rattle.mend_body.specs.Answers.{mend_number}
use borrow.Author.Rules.{rules}
use Rattle.mend_body.proofs.refusal.Goals as goal

pub returns-then-not-readable : goal.returns-then-not-readable
unfolding mend_number
returns-then-not-readable c = record { number = sym (rw (sym c.readable.ensures ∙ c.if-not-readable.true)); marks = c.clear.ensures }

pub returns-then-marks-lt-MARKS : goal.returns-then-marks-lt-MARKS
unfolding mend_number
returns-then-marks-lt-MARKS c =
    let long = simp length-replicate at (ap length c.clear.ensures) in
    record { number = sym (rw (sym c.readable.ensures ∙ c.if-not-readable.false, lt-leb 6912 (length c.args.marks.now) (omega (arith, long, c.if-marks-lt-MARKS.true)))); marks = c.clear.ensures }

pub readable_refusal-requires : goal.readable_refusal-requires
readable_refusal-requires c =
    let s = c in
    let r = sym c.readable.ensures ∙ c.if-not-readable.false in
    record { tested = record { lists = lists_of _ _ _ (fit_of s.args.room.now s.args.words.now s.args.reals.now r); long = c.if-marks-lt-MARKS.false; zeros = zeros-same s.args.marks.now _ c.clear.ensures }; space_bound = omega (arith, div-add-mod' (length s.args.nums.now) 6) }

pub shape_of-marks : goal.shape_of-marks
shape_of-marks c = omega (arith, simp length-replicate at (ap length c.clear.ensures), simp length-replicate at (ap length c.readable_refusal.ensures.marks))

pub returns : goal.returns
unfolding mend_number
returns c =
    let s = c in
    let long = simp length-replicate at (ap length c.clear.ensures) in
    record { number = c.readable_refusal.ensures.number s.args.reals.now ∙ sym (rw (sym c.readable.ensures ∙ c.if-not-readable.false, le-leb 6912 (length s.args.marks.now) (omega (arith, long, c.if-marks-lt-MARKS.false)))); marks = zeros-on s.args.marks.now _ _ c.clear.ensures c.readable_refusal.ensures.marks }
