-- `replay_models::rows::sum_floats` is safe: a sum stays below the prime. Assumes nothing.
use Rattle.std.proofs.Common.{◌<◌}
use Rattle.replay_models.proofs.rows.sum_floats.Given as goal

abbrev pub invariant-loop-number : goal.invariant-loop-number
invariant-loop-number l = l.h < 4294967291
