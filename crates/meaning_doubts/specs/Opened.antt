-- For evaluation: a line `unfolding computing opened` opens every definition of this crate and of those below.
use Rattle.std.specs.Prelude.{ℕ}
use Rattle.meaning_doubts.specs.Doubts.{queried, curve_doubts, end_doubts, sample_doubt, sample_doubts, carried_doubts, fin_doubts, loop_doubts, face_doubts, shell_doubts, region_doubts, doubts}

unfoldable pub opened : ℕ
unfolding queried curve_doubts end_doubts sample_doubt sample_doubts carried_doubts fin_doubts loop_doubts face_doubts shell_doubts region_doubts doubts
opened = 0
