-- `check_fit::own_shell` meets its contract. Assumes nothing.
use native.Mathlib.Omega.{arith}
use mathlib.Core.Path.{ap, ap₂, ◌∙◌}
use mathlib.Core.Bool.{◌&&◌}
use borrow.Author.Tests.{le-ltb, lt-ltb}
use Rattle.meaning.specs.Lists.{member}
use Rattle.memory_layout.specs.Laws.{capacity-le}
use Rattle.walk_sources.specs.Laws.{used-words}
use Rattle.check_fit.specs.Whole.{own_in}
use Rattle.check_fit.proofs.own_shell.Goals as goal

pub bounds-words-2 : goal.bounds-words-2
bounds-words-2 c = used-words c.args.room.now c.args.words.now 2 c.requires (omega arith)

pub returns-then-words-s : goal.returns-then-words-s
unfolding own_in
returns-then-words-s c = rw (le-ltb _ _ c.if-words-s.true)

pub overflow_mul-s : goal.overflow_mul-s
overflow_mul-s c = omega (arith, c.if-words-s.false, c.requires.counts 2 (omega arith), capacity-le c.args.room.now c.requires.small 2 (omega arith))

pub overflow_add-s : goal.overflow_add-s
overflow_add-s c = omega (arith, c.if-words-s.false, c.requires.counts 2 (omega arith), capacity-le c.args.room.now c.requires.small 2 (omega arith))

pub returns : goal.returns
unfolding own_in
returns c =
    let s = c in
    rw (lt-ltb _ _ c.if-words-s.false) (ap₂ (λ a b. a && b) c.has-among.ensures (c.has-lists.ensures ∙ ap (member s.args.f) c.list.ensures))
