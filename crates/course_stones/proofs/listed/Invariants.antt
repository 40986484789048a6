-- `course_stones::listed` meets its contract. Assumes nothing.
use Rattle.std.specs.Prelude.{◌≡◌}
use Rattle.meaning.specs.Lists.{member}
use Rattle.memory_layout.specs.Decode.{list_at}
use Rattle.course_table.specs.Table.{course_at}
use Rattle.course_stones.specs.Sums.{some_below}
use Rattle.course_stones.proofs.listed.Given as goal

abbrev pub invariant-loop-c : goal.invariant-loop-c
invariant-loop-c l = l.found ≡ some_below (λ i. member l.body (list_at l.courses (course_at i))) l.c
