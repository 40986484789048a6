-- `course_table::course_ok` meets its contract. Assumes nothing.
use Prim.Native.Nat.{◌≤◌, ◌<◌}
use mathlib.Core.Path.{ap, ◌∙◌, subst}
use lib.Dec.{ltb}
use Rattle.meaning.specs.Lists.{all}
use Rattle.memory_layout.specs.Layout.{word}
use Rattle.course_table.specs.Table.{course_at}
use Rattle.course_table.specs.Laws.{course-long, course-short}
use Rattle.course_table.proofs.course_ok.Goals as goal

pub returns-then-courses-course_at-gt16 : goal.returns-then-courses-course_at-gt16
returns-then-courses-course_at-gt16 c =
    let w = c.args.courses.now in
    let h : 16 < word w (course_at c.args.c) = subst (λ k. 16 < word w k) c.course_at.ensures c.if-courses-course_at-gt16.true in
    course-long w _ h

pub entries-requires : goal.entries-requires
entries-requires c =
    let s = c in
    let w = s.args.courses.now in
    let h : word w (course_at s.args.c) ≤ 16 = subst (λ k. word w k ≤ 16) c.course_at.ensures c.if-courses-course_at-gt16.false in
    record { lies = s.requires; c_bound = h }

pub returns : goal.returns
returns c =
    let s = c in
    let w = s.args.courses.now in
    let h : word w (course_at s.args.c) ≤ 16 = subst (λ k. word w k ≤ 16) c.course_at.ensures c.if-courses-course_at-gt16.false in
    course-short w _ _ h (c.known.ensures ∙ ap (all (λ e. ltb e 131072)) c.entries.ensures)
