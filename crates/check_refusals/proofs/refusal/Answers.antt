-- `check_refusals::refusal` meets its contract: each way out is the first test that fails. Assumes nothing.
use native.Mathlib.Omega.{arith}
use mathlib.Core.Path.{sym, ◌∙◌}
use borrow.Author.Tests.{not-true, not-false, le-ltb, lt-ltb}
use Rattle.memory_records.specs.Laws.{counts-there}
use Rattle.memory_layout.specs.Decode.{decode}
use Rattle.memory_layout.specs.Readable.{readable}
use Rattle.memory_layout.specs.Laws.{fit_of}
use Rattle.walk_answers.specs.Laws.{refused-9, refused-8, refused-not}
use Rattle.check_refusals.specs.Facts.{ask_refusal}
use Rattle.check_refusals.specs.Laws.{ask-samples, ask-body, ask-none}
use borrow.Author.Rules.{rules}
use Rattle.check_refusals.proofs.refusal.Goals as goal

pub returns-then-not-readable : goal.returns-then-not-readable
returns-then-not-readable c = refused-9 (readable c.args.room.now c.args.words.now c.args.reals.now) c.args.enough (ask_refusal (decode c.args.room.now c.args.words.now c.args.reals.now) c.args.samples c.args.body) (sym c.readable.ensures ∙ c.if-not-readable.true)

pub returns-then-not-enough : goal.returns-then-not-enough
returns-then-not-enough c = refused-8 (readable c.args.room.now c.args.words.now c.args.reals.now) c.args.enough (ask_refusal (decode c.args.room.now c.args.words.now c.args.reals.now) c.args.samples c.args.body) (sym c.readable.ensures ∙ c.if-not-readable.false) (c.if-not-enough.true)

pub returns-then-samples-gt255 : goal.returns-then-samples-gt255
returns-then-samples-gt255 c = refused-not (readable c.args.room.now c.args.words.now c.args.reals.now) c.args.enough (ask_refusal (decode c.args.room.now c.args.words.now c.args.reals.now) c.args.samples c.args.body) (sym c.readable.ensures ∙ c.if-not-readable.false) (c.if-not-enough.false) 1 (ask-samples (decode c.args.room.now c.args.words.now c.args.reals.now) c.args.samples c.args.body c.if-samples-gt255.true)

pub bounds-words-0 : goal.bounds-words-0
bounds-words-0 c = omega (arith, counts-there _ _ _ (fit_of c.args.room.now c.args.words.now c.args.reals.now (sym c.readable.ensures ∙ c.if-not-readable.false)).sized)

pub returns-then-words-body : goal.returns-then-words-body
unfolding decode
returns-then-words-body c = refused-not (readable c.args.room.now c.args.words.now c.args.reals.now) c.args.enough (ask_refusal (decode c.args.room.now c.args.words.now c.args.reals.now) c.args.samples c.args.body) (sym c.readable.ensures ∙ c.if-not-readable.false) (c.if-not-enough.false) 2 (ask-body (decode c.args.room.now c.args.words.now c.args.reals.now) c.args.samples c.args.body c.if-samples-gt255.false (le-ltb _ _ c.if-words-body.true))

pub returns : goal.returns
unfolding decode
returns c = refused-not (readable c.args.room.now c.args.words.now c.args.reals.now) c.args.enough (ask_refusal (decode c.args.room.now c.args.words.now c.args.reals.now) c.args.samples c.args.body) (sym c.readable.ensures ∙ c.if-not-readable.false) (c.if-not-enough.false) 0 (ask-none (decode c.args.room.now c.args.words.now c.args.reals.now) c.args.samples c.args.body c.if-samples-gt255.false (lt-ltb _ _ c.if-words-body.false))
