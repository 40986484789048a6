-- `course_stones::listed` meets its contract. Assumes nothing.
use Rattle.std.proofs.Common.{◌≡◌, ◌<◌, ap, ◌∙◌, arith}
use Rattle.meaning.specs.Lists.{member}
use Rattle.memory_layout.specs.Layout.{word}
use Rattle.course_table.specs.Laws.{laid-lies}
use Rattle.course_stones.specs.Sums.{listed_in}
use Rattle.course_stones.specs.Weighing.{none-listed, listed-turn}
use Rattle.course_stones.proofs.listed.Goals as goal

pub loop-c-init : goal.loop-c-init
loop-c-init c = none-listed _

pub entries-requires : goal.entries-requires
entries-requires c =
    let laid = c.requires in
    let h : c.loop-c.c < word c.args.courses.now 0 = omega arith in
    record { lies = laid-lies _ _ laid h; c_bound = laid.short _ h }

pub loop-c-preserved : goal.loop-c-preserved
loop-c-preserved c = listed-turn _ _ _ _ c.loop-c.invariant (c.lists_body-found.ensures ∙ ap (member c.args.body) c.entries.ensures)

pub returns : goal.returns
unfolding listed_in
returns c =
    let done : c.loop-c.c ≡ word c.args.courses.now 0 = omega arith in
    rw (← done) c.loop-c.invariant
