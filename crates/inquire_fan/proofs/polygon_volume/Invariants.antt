-- `polygon_volume` meets its contract: a turn of the loop is one more triangle of the fan. Assumes nothing.
use Rattle.std.specs.Prelude.{◌≡◌, map}
use Rattle.std.proofs.Common.{get_or, drop}
use Rattle.interval_arithmetic.specs.Ops.{zero_f}
use Rattle.meaning.specs.Inquire.{fan}
use Rattle.memory_layout.specs.Decode.{decode}
use Rattle.inquire_fin_starts.specs.Starts.{start_point}
use Rattle.inquire_fan.specs.Fan.{origin_p, turned}
use Rattle.inquire_fan.proofs.polygon_volume.Given as goal

abbrev pub invariant-loop-k : goal.invariant-loop-k
invariant-loop-k l = (l.p ≡ get_or (turned l.back (map (start_point (decode l.room l.words l.reals)) l.fins)) l.k origin_p) × (fan l.o zero_f (drop 1 (turned l.back (map (start_point (decode l.room l.words l.reals)) l.fins))) ≡ fan l.o l.acc (drop l.k (turned l.back (map (start_point (decode l.room l.words l.reals)) l.fins))))
