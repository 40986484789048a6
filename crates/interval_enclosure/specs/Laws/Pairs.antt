-- That an interval holds a number, with no integer: the number is (p - n) / D, as in `Laws/Pairs.antt` of `float_values`. Definitions only.
use Rattle.std.specs.Prelude.{ℕ, T}
use Rattle.std.specs.Float.{binary64}
use Rattle.std.specs.Float.Ieee.{fits}
use Rattle.interval_arithmetic.specs.declared.Interval.{Interval}
use Rattle.float_values.specs.Laws.Pairs.{Lower, Upper}

pub record In (D : ℕ) (x : Interval) (p n : ℕ) : Type 0 where
  pub lo-held : T (fits binary64 x.lo)
  pub hi-held : T (fits binary64 x.hi)
  pub low : Lower D x.lo p n
  pub high : Upper D x.hi p n
