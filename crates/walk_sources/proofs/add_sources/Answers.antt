-- `walk_sources::add_sources` meets its contract: a turn of the loop is one more id. Assumes nothing.
use Rattle.std.specs.Prelude.{ℕ, ◌+◌, ◌*◌, map}
use Rattle.std.proofs.Common.{refl, arith, sym, ap, ◌∙◌}
use Rattle.std.proofs.lemmas.List.{length-map}
use Rattle.std.proofs.Math.Seq.{take_all}
use Rattle.meaning_list_laws.specs.Lists.{below-nth}
use Rattle.walk_marks.specs.Laws.{map-nth, puts_none, puts-turn}
use Rattle.walk_marks.specs.Marks.{puts}
use Rattle.walk_sources.specs.Sources.{sourced}
use Rattle.walk_sources.specs.Laws.{sourced-length}
use Rattle.walk_sources.proofs.add_sources.Goals as goal

pub loop-i-init : goal.loop-i-init
loop-i-init c = sym (puts_none _ _)

pub overflow_mul-id : goal.overflow_mul-id
overflow_mul-id c = omega (arith, below-nth 4096 c.args.ids.now c.loop-i.i c.requires.ids_value (omega arith))

pub overflow_add-id : goal.overflow_add-id
overflow_add-id c = omega (arith, below-nth 4096 c.args.ids.now c.loop-i.i c.requires.ids_value (omega arith))

pub loop-i-preserved : goal.loop-i-preserved
unfolding sourced
loop-i-preserved c =
    let s = c in
    let i = c.loop-i.i in
    let f : ℕ → ℕ = λ x. 8 * x + s.args.k in
    puts-turn s.args.path.now (map f s.args.ids.now) s.args.m i _ _ _ _ (omega (arith, length-map s.args.ids.now f)) refl
    (sym (map-nth f s.args.ids.now i (omega arith))) c.loop-i.invariant c.put.ensures

pub returns : goal.returns
returns c =
    let s = c in
    c.loop-i.invariant ∙ ap (puts _ _) (take_all c.loop-i.i (sourced s.args.k s.args.ids.now) (omega (arith, sourced-length s.args.k s.args.ids.now)))
