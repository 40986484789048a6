-- `check_edge::end_test` meets its contract: a missing vertex is passed over. Assumes nothing.
use native.Mathlib.Omega.{arith}
use mathlib.Core.Path.{sym, ◌∙◌}
use borrow.Author.Tests.{le-ltb, lt-ltb}
use Rattle.memory_records.specs.Laws.{counts-there}
use Rattle.memory_layout.specs.Decode.{decode}
use Rattle.check_reasons.specs.Laws.{enough-same, noted-none, noted-same, noted-over}
use Rattle.check_edge.specs.Laws.{end-missing, end-there}
use Rattle.memory_layout.specs.Laws.{precision-there}
use borrow.Author.Rules.{rules}
use Rattle.check_edge.proofs.end_test.Goals as goal

pub returns-then-done : goal.returns-then-done
returns-then-done c = noted-over _ _ _ (sym c.done.ensures ∙ c.if-done.true)

pub bounds-words-7 : goal.bounds-words-7
bounds-words-7 c = omega (arith, counts-there _ _ _ c.requires.sized)

pub returns-then-words-v : goal.returns-then-words-v
unfolding decode
returns-then-words-v c = noted-same (sym (end-missing (decode c.args.room.now c.args.words.now c.args.reals.now) c.args.curve c.args.surface c.args.tol c.args.e c.args.v (le-ltb _ _ c.if-words-v.true))) (noted-none _ _)

pub in_effect-own-requires : goal.in_effect-own-requires
in_effect-own-requires c =
    let s = c in
    (counts-there _ _ _ s.requires.sized, precision-there _ _ _ s.requires.sized)

pub end_at-requires : goal.end_at-requires
unfolding decode
end_at-requires c = enough-same (end-there (decode c.args.room.now c.args.words.now c.args.reals.now) c.args.curve c.args.surface c.args.tol c.args.e c.args.v _ _ (lt-ltb _ _ c.if-words-v.false) c.vertex_at-vertex.ensures c.in_effect-own.ensures) c.requires.enough

pub returns : goal.returns
unfolding decode
returns c = noted-same (sym (end-there (decode c.args.room.now c.args.words.now c.args.reals.now) c.args.curve c.args.surface c.args.tol c.args.e c.args.v _ _ (lt-ltb _ _ c.if-words-v.false) c.vertex_at-vertex.ensures c.in_effect-own.ensures)) c.end_at.ensures
