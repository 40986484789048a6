-- `check_report::checked` meets its contract: a refusal, or the report. Assumes nothing.
use native.Mathlib.Omega.{arith}
use mathlib.Core.Path.{sym, ◌∙◌}
use mathlib.Core.Bool.{◌&&◌}
use borrow.Author.Tests.{ltb-true}
use Rattle.memory_layout.specs.Decode.{decode}
use Rattle.memory_layout.specs.Readable.{readable}
use Rattle.walk_answers.specs.Calls.{reach}
use Rattle.walk_answers.specs.Laws.{accepted, zeros-on, zeros-same}
use Rattle.check_refusals.specs.Facts.{ask_refusal}
use Rattle.check_refusals.specs.Laws.{ask-passed}
use Rattle.check_report.specs.Calls.{asked}
use Rattle.check_report.specs.Laws.{number-told, answer-refused, words-refused, answer-given, words-given}
use borrow.Author.Rules.{rules}
use Rattle.check_report.proofs.checked.Goals as goal

pub returns-then-number-ne0 : goal.returns-then-number-ne0
returns-then-number-ne0 c = record { answer = answer-refused c.args.room.now c.args.words.now c.args.reals.now c.args.body c.args.first (asked c.args.geometry c.args.samples) c.args.faces.now c.args.edges.now c.args.nums.now _ (c.refusal-number.ensures ∙ number-told c.args.room.now c.args.words.now c.args.reals.now c.args.body c.args.geometry c.args.samples c.args.faces.now c.args.edges.now) c.if-number-ne0.true; list = words-refused c.args.room.now c.args.words.now c.args.reals.now c.args.body c.args.first (asked c.args.geometry c.args.samples) c.args.faces.now c.args.edges.now c.args.nums.now _ (c.refusal-number.ensures ∙ number-told c.args.room.now c.args.words.now c.args.reals.now c.args.body c.args.geometry c.args.samples c.args.faces.now c.args.edges.now) c.if-number-ne0.true; faces = c.clear.ensures; edges = c.clear-2.ensures }

pub overflow_cast-n : goal.overflow_cast-n
overflow_cast-n c = omega (arith, (ask-passed (decode c.args.room.now c.args.words.now c.args.reals.now) c.args.samples c.args.body (accepted (readable c.args.room.now c.args.words.now c.args.reals.now) (reach c.args.room.now 3 c.args.faces.now && reach c.args.room.now 6 c.args.edges.now) (ask_refusal (decode c.args.room.now c.args.words.now c.args.reals.now) c.args.samples c.args.body) (sym c.refusal-number.ensures ∙ c.if-number-ne0.false)).1).0)

pub check-requires : goal.check-requires
unfolding decode
check-requires c = record { reals_value = (accepted (readable c.args.room.now c.args.words.now c.args.reals.now) (reach c.args.room.now 3 c.args.faces.now && reach c.args.room.now 6 c.args.edges.now) (ask_refusal (decode c.args.room.now c.args.words.now c.args.reals.now) c.args.samples c.args.body) (sym c.refusal-number.ensures ∙ c.if-number-ne0.false)).0; n_bound = ((ask-passed (decode c.args.room.now c.args.words.now c.args.reals.now) c.args.samples c.args.body (accepted (readable c.args.room.now c.args.words.now c.args.reals.now) (reach c.args.room.now 3 c.args.faces.now && reach c.args.room.now 6 c.args.edges.now) (ask_refusal (decode c.args.room.now c.args.words.now c.args.reals.now) c.args.samples c.args.body) (sym c.refusal-number.ensures ∙ c.if-number-ne0.false)).1).0, ltb-true _ _ (ask-passed (decode c.args.room.now c.args.words.now c.args.reals.now) c.args.samples c.args.body (accepted (readable c.args.room.now c.args.words.now c.args.reals.now) (reach c.args.room.now 3 c.args.faces.now && reach c.args.room.now 6 c.args.edges.now) (ask_refusal (decode c.args.room.now c.args.words.now c.args.reals.now) c.args.samples c.args.body) (sym c.refusal-number.ensures ∙ c.if-number-ne0.false)).1).1); faces_value = zeros-same c.args.faces.now _ c.clear.ensures; edges_value = zeros-same c.args.edges.now _ c.clear-2.ensures }

pub returns : goal.returns
returns c = record { answer = answer-given c.args.room.now c.args.words.now c.args.reals.now c.args.body c.args.first (asked c.args.geometry c.args.samples) c.args.faces.now c.args.edges.now c.args.nums.now _ (sym c.if-number-ne0.false ∙ (c.refusal-number.ensures ∙ number-told c.args.room.now c.args.words.now c.args.reals.now c.args.body c.args.geometry c.args.samples c.args.faces.now c.args.edges.now)) c.check.ensures.value; list = words-given c.args.room.now c.args.words.now c.args.reals.now c.args.body c.args.first (asked c.args.geometry c.args.samples) c.args.faces.now c.args.edges.now c.args.nums.now _ (sym c.if-number-ne0.false ∙ (c.refusal-number.ensures ∙ number-told c.args.room.now c.args.words.now c.args.reals.now c.args.body c.args.geometry c.args.samples c.args.faces.now c.args.edges.now)) c.check.ensures.nums_after; faces = zeros-on c.args.faces.now _ _ c.clear.ensures c.check.ensures.faces_after; edges = zeros-on c.args.edges.now _ _ c.clear-2.ensures c.check.ensures.edges_after }
