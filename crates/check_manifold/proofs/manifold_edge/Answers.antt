-- `check_manifold::manifold_edge` meets its contract: by whether the edge is there. Assumes nothing.
use native.Mathlib.Omega.{arith}
use mathlib.Core.Path.{sym, ◌∙◌}
use borrow.Author.Tests.{le-ltb, lt-ltb}
use Rattle.memory_records.specs.Laws.{counts-there}
use Rattle.memory_layout.specs.Decode.{decode}
use Rattle.memory_layout.specs.Laws.{lists_of, edge-fins}
use Rattle.check_reasons.specs.Laws.{enough-same, noted-none, noted-same, noted-over}
use Rattle.check_manifold.specs.Laws.{edge-lacks, edge-has}
use borrow.Author.Rules.{rules}
use Rattle.check_manifold.proofs.manifold_edge.Goals as goal

pub returns-then-done : goal.returns-then-done
returns-then-done c = noted-over _ _ _ (sym c.done.ensures ∙ c.if-done.true)

pub bounds-words-6 : goal.bounds-words-6
bounds-words-6 c = omega (arith, counts-there _ _ _ c.requires.fit.sized)

pub returns-then-words-e : goal.returns-then-words-e
unfolding decode
returns-then-words-e c = noted-same (sym (edge-lacks (decode c.args.room.now c.args.words.now c.args.reals.now) c.args.e (le-ltb _ _ c.if-words-e.true))) (noted-none _ _)

pub list-fins-requires : goal.list-fins-requires
list-fins-requires c = record { lists = lists_of _ _ _ c.requires.fit; j_bound = (search rules, c.if-words-e.false) }

pub manifold_fins-requires : goal.manifold_fins-requires
unfolding decode
manifold_fins-requires c = record { fit = c.requires.fit; enough = enough-same (edge-has (decode c.args.room.now c.args.words.now c.args.reals.now) c.args.e _ (lt-ltb _ _ c.if-words-e.false) (c.list-fins.ensures ∙ edge-fins c.args.room.now c.args.words.now c.args.reals.now c.args.e)) c.requires.enough }

pub returns : goal.returns
unfolding decode
returns c = noted-same (sym (edge-has (decode c.args.room.now c.args.words.now c.args.reals.now) c.args.e _ (lt-ltb _ _ c.if-words-e.false) (c.list-fins.ensures ∙ edge-fins c.args.room.now c.args.words.now c.args.reals.now c.args.e))) c.manifold_fins.ensures
