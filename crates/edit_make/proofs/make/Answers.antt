-- `edit_make::make` meets its contract: a refusal writes nothing. Assumes nothing.
use native.Mathlib.Omega.{arith}
use mathlib.Core.Path.{◌≡◌, sym, ◌∙◌}
use Rattle.memory_layout.specs.Layout.{real_strides}
use Rattle.memory_layout.specs.Laws.{before-tables, version-there}
use lib.Seq.{set_split}
use Rattle.memory_writes.specs.Put.{over}
use Rattle.memory_writes.specs.Kept.{refused-keeps}
use Rattle.edit_make.specs.Answers.{make_number, make_words, make_reals}
use Rattle.edit_make.specs.Laws.{make-open}
use borrow.Author.Rules.{rules}
use Rattle.edit_make.proofs.make.Goals as goal

pub returns-then-n-ne0 : goal.returns-then-n-ne0
unfolding make_words make_reals
returns-then-n-ne0 c =
    let e = c.make_refusal-n.ensures in
    let n = c.make_refusal-n.result in
    record { answer = e; tables = rw (← e) (refused-keeps n _ _ c.if-n-ne0.true); floats = rw (← e) (refused-keeps n _ _ c.if-n-ne0.true) }

pub write_words-requires : goal.write_words-requires
write_words-requires c =
    let s = c in
    let room = s.args.room.now in
    let w = s.args.words.now in
    let x = s.args.reals.now in
    let z : make_number room w x s.args.precision s.args.version ≡ 0 = sym c.make_refusal-n.ensures ∙ c.if-n-ne0.false in
    let a = make-open room w x s.args.precision s.args.version z in
    version-there room w a.words

pub bounds-reals-0 : goal.bounds-reals-0
bounds-reals-0 c =
    let s = c in
    let room = s.args.room.now in
    let w = s.args.words.now in
    let x = s.args.reals.now in
    let z : make_number room w x s.args.precision s.args.version ≡ 0 = sym c.make_refusal-n.ensures ∙ c.if-n-ne0.false in
    let a = make-open room w x s.args.precision s.args.version z in
    let m = a.reals in
    let d = before-tables 1 real_strides room 10 in
    omega arith

pub returns : goal.returns
unfolding make_words make_reals over
returns c =
    let s = c in
    let room = s.args.room.now in
    let w = s.args.words.now in
    let x = s.args.reals.now in
    let z : make_number room w x s.args.precision s.args.version ≡ 0 = sym c.make_refusal-n.ensures ∙ c.if-n-ne0.false in
    let a = make-open room w x s.args.precision s.args.version z in
    let m = a.reals in
    let d = before-tables 1 real_strides room 10 in
    record { answer = sym z; tables = rw z c.write_words.ensures; floats = rw z (set_split x 0 s.args.precision (omega arith)) }
