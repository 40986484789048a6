-- `split_foreign::other_with` meets its contract. Assumes nothing.
use Rattle.std.specs.Prelude.{◌≡◌, [], not, ◌&&◌, eqb}
use Rattle.std.proofs.Common.{sym, ap, ◌∙◌, arith}
use mathlib.Core.Path.{ap₂}
use Rattle.meaning.specs.Lists.{any, run}
use Rattle.memory_layout.specs.Layout.{word}
use Rattle.memory_layout.specs.Laws.{version-there}
use Rattle.split_foreign.specs.Status.{standing, others, others_with}
use Rattle.split_foreign.specs.Laws.{any_none, any-more}
use Rattle.split_foreign.proofs.other_with.Goals as goal

pub bounds-words-0 : goal.bounds-words-0
bounds-words-0 c = let n = version-there c.args.room.now c.args.words.now c.requires.words in omega arith

pub loop-i-init : goal.loop-i-init
loop-i-init c = sym (any_none _)

pub loop-i-preserved : goal.loop-i-preserved
loop-i-preserved c =
    any-more _ c.loop-i.i _ _ c.loop-i.invariant
    (ap₂ ◌&&◌ (ap (λ n. not (eqb n c.loop-i.i)) (c.body_for.ensures c.args.room.now [])) (ap (λ n. eqb n 1) c.status_at.ensures))

pub returns : goal.returns
unfolding others_with
returns c =
    let done : c.loop-i.i ≡ word c.args.words.now 0 = omega arith in
    c.loop-i.invariant ∙ ap (λ n. any (λ b. others c.args.room.now c.args.words.now c.args.office b && eqb (standing c.args.statuses.now b) 1) (run 0 n)) done
