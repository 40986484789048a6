-- Opens the definitions of courses for evaluation, as `Counting.antt` of `meaning_sheets` opens those below it. It says nothing.
use Rattle.std.specs.Prelude.{ℕ}
use Rattle.meaning_courses.specs.Courses.{bodies_in, stones_of, some_entry, missing, too_deep, course_refusal, total_of}

unfoldable pub laying : ℕ
unfolding bodies_in stones_of some_entry missing too_deep course_refusal total_of
laying = 0
