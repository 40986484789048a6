-- `check_ends::parameter_at` meets its contract: by the arm of the query. Assumes nothing.
use native.Mathlib.Omega.{arith}
use borrow.Author.Tests.{le-ltb, lt-ltb}
use Rattle.memory_records.specs.Laws.{counts-there}
use Rattle.memory_layout.specs.Decode.{decode}
use Rattle.check_ends.specs.Laws.{param-missing, param-refused, param-given}
use borrow.Author.Rules.{rules}
use Rattle.check_ends.proofs.parameter_at.Goals as goal

pub bounds-words-7 : goal.bounds-words-7
bounds-words-7 c = omega (arith, counts-there _ _ _ c.requires)

pub returns-then-words-v : goal.returns-then-words-v
unfolding decode
returns-then-words-v c = param-missing (decode c.args.room.now c.args.words.now c.args.reals.now) c.args.curve c.args.v (le-ltb _ _ c.if-words-v.true)

pub returns-in-Err : goal.returns-in-Err
returns-in-Err c = param-refused (decode c.args.room.now c.args.words.now c.args.reals.now) c.args.curve c.args.v _ c.vertex_at.ensures _ c.project_to_curve.ensures _ c.in-Err.is

pub returns-in-Ok : goal.returns-in-Ok
unfolding decode
returns-in-Ok c = param-given (decode c.args.room.now c.args.words.now c.args.reals.now) c.args.curve c.args.v _ c.vertex_at.ensures _ c.project_to_curve.ensures _ c.in-Ok.is (lt-ltb _ _ c.if-words-v.false)
